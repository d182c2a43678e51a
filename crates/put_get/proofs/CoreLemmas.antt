-- What fetches of lines come to: their events, and how the cache stands after them.
use Rattle.std.proofs.Common.{◌≡◌, ℕ, suc, ◌+◌, ◌<◌, Some, List, [], ◌++◌, Option, length, remove, sym, subst, arith}
use Rattle.scc_base.specs.Places.{LineAt, WordAt}
use Rattle.scc_base.specs.declared.events.Event.{Event}
use Rattle.scc_proto.specs.Ports.{Seat, Sight, Did}
use Rattle.scc_proto.proofs.PortLaws.{did_nothing, did_both}
use Rattle.line_cache.specs.declared.cache.Entry.{Entry}
use Rattle.line_cache.specs.Lines.{with_filled_line}
use Rattle.line_cache.specs.Eviction.{MayAnswer, asked_after}
use Rattle.write_combine.specs.declared.combiner.Out.{Out}
use Rattle.put_get.specs.Accesses.{loads_of}
use Rattle.put_get.specs.Cores.{Private, Fills, Dropped, Fetch, Held, Loaded, ReadsWord, MadeSteps}
use Rattle.put_get.proofs.StepLemmas.{steps_both}

-- a line came in, and the evictor named an entry
pub fills_dropped : (lines now : List Entry) (out : Option Out) (n m : ℕ) (asked later : Option ℕ) (answers next : List (Option ℕ)) (line : LineAt) (words : List ℕ) (held at : ℕ)
    → held ≡ length (with_filled_line lines line words) → at < held → MayAnswer answers held (Some at) → now ≡ remove (with_filled_line lines line words) at → m ≡ n + 1 → later ≡ asked_after asked
    → Fills (record { lines = lines; out = out; evictions = n; asked = asked; answers = answers }) line words
    (record { lines = now; out = out; evictions = m; asked = later; answers = next })
fills_dropped lines now out n m asked later answers next line words held at len h given e k once =
    let c : m ≡ suc n = omega arith in
    Dropped at (subst (λ l. at < l) len h) (subst (λ l. MayAnswer answers l (Some at)) len given)
    (λ i. record { lines = e i; out = out; evictions = c i; asked = once i; answers = next })

-- the events that a read made
pub record Made (s t : Sight) : Type 0 where
  pub events : List Event
  pub did : Did s events t

pub made_by : {s t : Sight} {events : List Event} → Did s events t → Made s t
made_by {events = events} did = record { events = events; did = did }

pub fetch_made : {s t : Sight} {c d : Private} {line : LineAt} {words : List ℕ} → Fetch s c line words t d → Made s t
fetch_made {s} (Held h e f) = record { events = []; did = subst (Did s []) (sym e) (did_nothing s) }
fetch_made {line = line} {words = words} (Loaded h len did fills) = record { events = loads_of line words; did = did }

pub word_made : {s t : Sight} {c d : Private} {p : WordAt} {v : ℕ} → ReadsWord s c p v t d → Made s t
word_made r = fetch_made r.fetch

-- four reads were steps, where each was
pub steps_four : (stepped : Seat → List Event → Event → Type 0) (s s1 s2 s3 t : Sight) → Made s s1 → Made s1 s2 → Made s2 s3 → Made s3 t
    → MadeSteps stepped s s1 → MadeSteps stepped s1 s2 → MadeSteps stepped s2 s3 → MadeSteps stepped s3 t → MadeSteps stepped s t
steps_four stepped s s1 s2 s3 t a b c d x1 x2 x3 x4 =
    let ab = did_both s a.events s1 b.events s2 a.did b.did in
    let abc = did_both s (a.events ++ b.events) s2 c.events s3 ab c.did in
    steps_both stepped s s3 t ((a.events ++ b.events) ++ c.events) d.events abc d.did
    (steps_both stepped s s2 s3 (a.events ++ b.events) c.events ab c.did
    (steps_both stepped s s1 s2 a.events b.events a.did b.did x1 x2) x3)
    x4
