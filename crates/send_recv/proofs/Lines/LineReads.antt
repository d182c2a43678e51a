-- The events of one line that is read: its loads, what they leave in the cache, and how many they are.
use Rattle.std.proofs.Common.{◌≡◌, ◌≢◌, ◌⊎◌, inl, inr, ℕ, suc, ◌+◌, ◌*◌, ◌<◌, ◌≤◌, Bool, true, false, ◌==◌, ◌&&◌, if◌then◌else◌, List, [], ◌∷◌, ◌++◌, None, refl, sym, ◌∙◌, ap, subst, arith, append-nil, append_assoc}
use Rattle.scc_base.specs.Places.{LineAt}
use Rattle.std.specs.List.{list_all}
use Rattle.scc_base.specs.Setups.{SetupView}
use Rattle.scc_base.specs.declared.events.Event.{Event}
use Rattle.scc_proto.specs.Ports.{Sight, Did}
use Rattle.scc_proto.specs.Words.{is_at}
use Rattle.scc_proto.proofs.PortLaws.{did_nothing, did_both}
use Rattle.line_cache.specs.Lines.{cached_words}
use Rattle.put_get.specs.Accesses.{loads_of}
use Rattle.put_get.specs.Cores.{Private, Fills, Fetch, Held, Loaded, ReadsLine}
use Rattle.put_get.proofs.FillLemmas.{fills_evictions, fills_held}
use Rattle.put_get.specs.Transfers.{load_count}
use Rattle.put_get.proofs.StepLemmas.{events_once}
use Rattle.put_get.proofs.WorkLemmas.{spends_line, stands_once}
use Rattle.sync_flags.specs.Tries.{Aim, AtFlag, AtWord, AtRegister, tries_from, tries_at, changing_after}
use Rattle.sync_flags.proofs.RowLemmas.{tries-append, changing-append}
use Rattle.scc_base.specs.Layouts.{signal_at, first_chunk}
use Rattle.scc_base.specs.declared.signals.Signal.TheVariants.{Sent}
use Rattle.scc_base.specs.declared.events.Spot.{Spot}
use Rattle.scc_base.specs.declared.layouts.Layout.{Layout}
use Rattle.scc_base.specs.declared.layouts.Layout.TheVariants.{LineFlags, BitFlags}
use Rattle.scc_proto.specs.Ports.{Seat}
use Rattle.scc_proto.proofs.Tests.{eqb_other}
use Rattle.send_recv.specs.Ops.{RecvAt}
use Rattle.send_recv.specs.Receiving.{IsRecvSpot}
use Rattle.send_recv.specs.Steps.{own_core, core_of, flag_spot}
use Rattle.send_recv.specs.Tries.{aim_of}
use Rattle.send_recv.specs.Turns.{is_no_draft, LastHeld, NoLoad, Last, LoadsLines}
use Rattle.send_recv.proofs.Looks.TryLemmas.{spot_cases}

-- these events are no try for what lies on another line, and for no register
abbrev pub MissesLine : LineAt → Aim → Type 0
MissesLine line (AtFlag place bit want) = (line.line == place.line) ≡ false
MissesLine line (AtWord place value) = (line.line == place.line) ≡ false
MissesLine line (AtRegister core) = Unit {0}

pub record NoTries (line : LineAt) (es : List Event) : Type 0 where
  pub none : (aim : Aim) → MissesLine line aim → (n : ℕ) → tries_from aim false n es ≡ n
  pub freed : changing_after false es ≡ false

none_made : (line : LineAt) → NoTries line []
none_made line = record { none = λ aim apart n. refl; freed = refl }

and_false : (a : Bool) → (a && false) ≡ false
and_false true = refl
and_false false = refl

abbrev none_of : Bool → ℕ → ℕ
none_of b m = if b then suc m else m

loads_none : (aim : Aim) (line : LineAt) (words : List ℕ) → MissesLine line aim → (n : ℕ) → tries_from aim false n (loads_of line words) ≡ n
loads_none (AtRegister core) line words apart n = refl
loads_none (AtFlag place bit want) line words apart n =
    let test : (k : ℕ) → is_at place line.core line.line k ≡ false = λ k. (λ i. (line.core == place.core) && (apart i && (k == place.word))) ∙ and_false (line.core == place.core) in
    λ i. none_of (test 3 i) (none_of (test 2 i) (none_of (test 1 i) (none_of (test 0 i) n)))
loads_none (AtWord place value) line words apart n =
    let test : (k : ℕ) → is_at place line.core line.line k ≡ false = λ k. (λ i. (line.core == place.core) && (apart i && (k == place.word))) ∙ and_false (line.core == place.core) in
    λ i. none_of (test 3 i) (none_of (test 2 i) (none_of (test 1 i) (none_of (test 0 i) n)))

none_loaded : (line : LineAt) (words : List ℕ) → NoTries line (loads_of line words)
none_loaded line words = record { none = λ aim apart n. loads_none aim line words apart n; freed = refl }

none_both : (line : LineAt) (a b : List Event) → NoTries line a → NoTries line b → NoTries line (a ++ b)
none_both line a b x y = record {
  none = λ aim apart n. tries-append aim false n a b ∙ ap (λ (ch : Bool). tries_from aim ch (tries_from aim false n a) b) x.freed
      ∙ y.none aim apart (tries_from aim false n a) ∙ x.none aim apart n;
  freed = changing-append false a b ∙ ap (λ (ch : Bool). changing_after ch b) x.freed ∙ y.freed;
}

-- what holds of each of two parts of a list holds of each of the whole
all_both : (p : Event → Bool) (a b : List Event) → list_all p a ≡ true → list_all p b ≡ true → list_all p (a ++ b) ≡ true
all_both p [] b x y = y
all_both p (e ∷ es) b x y = all_next (p e) (list_all p es) (list_all p (es ++ b)) x (λ rest. all_both p es b rest y)
  where
    all_next : (h rest all : Bool) → (h && rest) ≡ true → (rest ≡ true → all ≡ true) → (h && all) ≡ true
    all_next true rest all x go = go x
    all_next false rest all x go = absurd (cc)

-- after these events, which began at a count of evictions, more were made by fetches of one line
pub record Fetched (s : Sight) (line : LineAt) (es : List Event) (before : ℕ) (t : Sight) (d : Private) : Type 0 where
  pub events : List Event
  pub did : Did s events t
  pub tries : NoTries line events
  pub held : LastHeld (es ++ events) before d
  pub grown : before ≤ d.evictions
  pub no_drafts : (s : SetupView) → list_all (is_no_draft s) events ≡ true

loaded_held : (es : List Event) (before : ℕ) (c d : Private) (line : LineAt) (words : List ℕ) → before ≤ c.evictions → cached_words c.lines line ≡ None → Fills c line words d → LastHeld (es ++ loads_of line words) before d
loaded_held es before c d line words le none fills =
    let grown = fills_evictions fills in
    Last es line words [] refl refl (λ kept. let same : d.evictions ≡ c.evictions = omega (arith, grown, le, kept) in fills_held fills none same)

fetched : (s t : Sight) (c d : Private) (line : LineAt) (words : List ℕ) (es : List Event) (before : ℕ) → before ≤ c.evictions → LastHeld es before c → Fetch s c line words t d → Fetched s line es before t d
fetched s t c d line words es before le h (Held has e f) = record {
  events = [];
  did = subst (λ (x : Sight). Did s [] x) (sym e) (did_nothing s);
  tries = none_made line;
  held = subst (λ (x : Private). LastHeld (es ++ []) before x) (sym f) (subst (λ l. LastHeld l before c) (sym (append-nil es)) h);
  grown = subst (λ (x : Private). before ≤ x.evictions) (sym f) le;
  no_drafts = λ setup. refl;
}
fetched s t c d line words es before le h (Loaded none len did fills) = record {
  events = loads_of line words;
  did = did;
  tries = none_loaded line words;
  held = loaded_held es before c d line words le none fills;
  grown = let more = fills_evictions fills in omega (arith, more, le);
  no_drafts = λ setup. refl;
}

fetched_then : (s m t : Sight) (e d : Private) (line : LineAt) (es : List Event) (before : ℕ) (a : Fetched s line es before m e) → Fetched m line (es ++ a.events) before t d → Fetched s line es before t d
fetched_then s m t e d line es before a b = record {
  events = a.events ++ b.events;
  did = did_both s a.events m b.events t a.did b.did;
  tries = none_both line a.events b.events a.tries b.tries;
  held = subst (λ l. LastHeld l before d) (append_assoc es a.events b.events) b.held;
  grown = b.grown;
  no_drafts = λ setup. all_both (is_no_draft setup) a.events b.events (a.no_drafts setup) (b.no_drafts setup);
}

-- a line was read: its loads, the line that they leave, and their number
pub record ReadsWhole (s : Sight) (c : Private) (line : LineAt) (t : Sight) (d : Private) : Type 0 where
  pub events : List Event
  pub did : Did s events t
  pub tries : NoTries line events
  pub held : LastHeld events c.evictions d
  pub work : LoadsLines events c d 1
  pub out : d.out ≡ c.out
  pub no_drafts : (s : SetupView) → list_all (is_no_draft s) events ≡ true

pub reads_whole : (s t : Sight) (c d : Private) (line : LineAt) (words : List ℕ) → ReadsLine s c line words t d → ReadsWhole s c line t d
reads_whole s t c d line words r =
    let n = c.evictions in
    let le : n ≤ c.evictions = omega arith in
    let a = fetched s r.s1 c r.c1 line r.word0.words [] n le (NoLoad refl) r.word0.fetch in
    let b = fetched r.s1 r.s2 r.c1 r.c2 line r.word1.words ([] ++ a.events) n a.grown a.held r.word1.fetch in
    let ab = fetched_then s r.s1 r.s2 r.c1 r.c2 line [] n a b in
    let e = fetched r.s2 r.s3 r.c2 r.c3 line r.word2.words ([] ++ ab.events) n ab.grown ab.held r.word2.fetch in
    let abe = fetched_then s r.s2 r.s3 r.c2 r.c3 line [] n ab e in
    let f = fetched r.s3 t r.c3 d line r.word3.words ([] ++ abe.events) n abe.grown abe.held r.word3.fetch in
    let all = fetched_then s r.s3 t r.c3 d line [] n abe f in
    let sp = (spends_line r).spends in
    let same : sp.events ≡ all.events = events_once s t sp.events all.events sp.did all.did in
    let count = sp.only_loads in
    let cost = sp.cost in
    let one = stands_once d line in
    let few : load_count sp.events + 4 * c.evictions ≤ 4 * d.evictions + 4 * 1 = omega (arith, count, cost, one) in
    record {
      events = all.events;
      did = all.did;
      tries = all.tries;
      held = all.held;
      work = subst (λ l. load_count l + 4 * c.evictions ≤ 4 * d.evictions + 4 * 1) same few;
      out = sp.out;
      no_drafts = all.no_drafts;
    }

-- the flags at which a receive looks lie on other lines than the header and the chunks
sent_apart : (layout : Layout) (from line : ℕ) → from < 48 → (line ≡ 0) ⊎ (first_chunk layout ≤ line) → (line == (signal_at layout Sent from).line) ≡ false
sent_apart LineFlags from line low (inl zero_is) = let ne : line ≢ (signal_at LineFlags Sent from).line = omega (arith, zero_is) in eqb_other line _ ne
sent_apart LineFlags from line low (inr chunk) = let ne : line ≢ (signal_at LineFlags Sent from).line = omega (arith, low, chunk) in eqb_other line _ ne
sent_apart BitFlags from line low (inl zero_is) = let ne : line ≢ (signal_at BitFlags Sent from).line = omega (arith, zero_is) in eqb_other line _ ne
sent_apart BitFlags from line low (inr chunk) = let ne : line ≢ (signal_at BitFlags Sent from).line = omega (arith, chunk) in eqb_other line _ ne

-- a line of a message is read without a try
pub read_elsewhere : (seat : Seat) (op : RecvAt) (line : LineAt) (es : List Event) (at : Spot) → op.from < 48 → (line.line ≡ 0) ⊎ (first_chunk seat.setup.layout ≤ line.line) → NoTries line es
    → IsRecvSpot seat op at → tries_at (aim_of seat.setup.layout at) es ≡ 0
read_elsewhere seat op line es at low apart tries spot =
    spot_cases (λ (x : Spot). tries_at (aim_of seat.setup.layout x) es ≡ 0) seat.setup.layout (own_core seat) (core_of seat op.from) op.from spot.0 at spot.1
    (tries.none (aim_of seat.setup.layout (flag_spot (own_core seat) (signal_at seat.setup.layout Sent op.from))) (sent_apart seat.setup.layout op.from line.line low apart) 0)
    (λ core. tries.none (AtRegister core) tt 0)
