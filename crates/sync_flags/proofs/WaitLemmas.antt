-- What the looks of a wait come to: its events, and where it has tried in vain.
use Rattle.std.proofs.Common.{◌≡◌, ℕ, suc, ◌+◌, ◌<◌, ◌≤◌, ◌↔◌, Bool, if◌then◌else◌, List, [], ◌++◌, Option, Ok, Err, IsErr, length, refl, sym, ◌∙◌, ap, append-nil, arith}
use Rattle.scc_base.specs.Places.{FlagPlace, WordAt, line_of_word}
use Rattle.scc_base.specs.declared.events.Event.{Event}
use Rattle.scc_base.specs.declared.events.Stalled.{Stalled}
use Rattle.scc_proto.specs.Ports.{Seat, Sight, Did}
use Rattle.scc_proto.proofs.PortLaws.{did_both}
use Rattle.put_get.specs.Accesses.{loads_of}
use Rattle.put_get.specs.Cores.{Private}
use Rattle.put_get.proofs.StepLemmas.{events_once}
use Rattle.sync_flags.specs.Flags.{flag_of}
use Rattle.sync_flags.specs.Tries.{Aim, AtFlag, is_unwanted, failed_tries, TryFailed}
use Rattle.sync_flags.specs.Looks.{LooksFailed, FindsFlag, looks_of}
use Rattle.sync_flags.proofs.LookLemmas.{looks_did, wanted}
use Rattle.sync_flags.proofs.TryLemmas.{look_counts, looks_count}

pub failed_did : {s t : Sight} {c d : Private} {place : WordAt} {bit : Option ℕ} {want : Bool} {n : ℕ} → (v : LooksFailed s c place bit want n t d)
    → Did s (looks_of (line_of_word place) v.looks) t
failed_did {s} {t} {c} {d} {place} v = looks_did s c (line_of_word place) v.looks t d v.looked

pub failed_stalls : {s t : Sight} {c d : Private} {place : WordAt} {bit : Option ℕ} {want : Bool} {polls : ℕ} → LooksFailed s c place bit want polls t d
    → place.word < 4 → (events : List Event) → Did s events t → failed_tries (AtFlag place bit want) events ≡ polls
failed_stalls {s} {t} {c} {d} {place} {bit} {want} {polls} v lt events did =
    ap (λ (es : List Event). failed_tries (AtFlag place bit want) es)
    (events_once s t events (looks_of (line_of_word place) v.looks) did (failed_did v) ∙ sym (append-nil (looks_of (line_of_word place) v.looks)))
    ∙ looks_count place bit want 0 v.looks [] lt v.failed ∙ plus_none (length v.looks) ∙ v.count
  where
    plus_none : (n : ℕ) → 0 + n ≡ n
    plus_none n = omega arith

pub found_ends : {s t : Sight} {c d : Private} {place : WordAt} {bit : Option ℕ} {want : Bool} {polls : ℕ} → FindsFlag s c place bit want polls t d
    → place.word < 4 → (events : List Event) → Did s events t → failed_tries (AtFlag place bit want) events ≡ 0
found_ends {s} {t} {c} {d} {place} {bit} {want} {polls} f lt events did =
    let last = loads_of (line_of_word place) f.reads.words in
    let all = looks_of (line_of_word place) f.looks.looks ++ last in
    ap (λ (es : List Event). failed_tries (AtFlag place bit want) es)
    (events_once s t events all did (did_both s (looks_of (line_of_word place) f.looks.looks) f.then last t (failed_did f.looks) f.reads.looks.did))
    ∙ looks_count place bit want 0 f.looks.looks last lt f.looks.failed
    ∙ look_counts place bit want (0 + length f.looks.looks) f.reads.words [] lt
    ∙ ap (λ (b : Bool). if b then suc (0 + length f.looks.looks) else 0) (ap (λ (x : Bool). is_unwanted want x) (sym f.reads.is) ∙ wanted want)

pub no_stall : (done : Unit) (aim : Aim) (polls : ℕ) (events : List Event) → 1 ≤ polls → failed_tries aim events ≡ 0
    → IsErr {T = Unit} {E = Stalled} (Ok done) ↔ TryFailed aim polls events
no_stall done aim polls events some none = (λ e. absurd (cc), λ le. absurd (omega (arith, some, none, le)))

pub stall : (stalled : Stalled) (aim : Aim) (polls : ℕ) (events : List Event) → failed_tries aim events ≡ polls
    → IsErr {T = Unit} {E = Stalled} (Err stalled) ↔ TryFailed aim polls events
stall stalled aim polls events is = (λ e. omega (arith, is), λ le. refl)

-- the flag of the own rank, at a port whose seat is the same
pub same_flag : (seat seat0 : Seat) (me : ℕ) (f : FlagPlace) → seat ≡ seat0 → me ≡ seat0.rank → flag_of seat.setup me f ≡ flag_of seat0.setup seat0.rank f
same_flag seat seat0 me f same own = ap (λ (x : Seat). flag_of x.setup me f) same ∙ ap (λ (r : ℕ). flag_of seat0.setup r f) own
