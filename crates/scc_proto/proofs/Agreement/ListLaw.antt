-- Agreement after every list of events.
use Rattle.std.proofs.Common.{◌≡◌, ℕ, ◌<◌, Bool, ◌==◌, if◌then◌else◌, List, [], ◌∷◌, refl, sym, ◌∙◌, ap, subst}
use Rattle.scc_base.specs.Events.{IsEvent}
use Rattle.scc_base.specs.Setups.{SetupView}
use Rattle.scc_base.specs.declared.events.Event.{Event}
use Rattle.scc_proto.specs.Tables.{table_with}
use Rattle.scc_proto.specs.Stages.{Record, blank}
use Rattle.scc_proto.specs.Words.{Memory, IsStep, memory_after, RankEvent, IsRun}
use Rattle.scc_proto.specs.Records.{IsPermitted, record_after, record_from, record_of}
use Rattle.scc_proto.specs.Histories.{events_of, records_of, records_from, memory_from, IsPermittedRun}
use Rattle.scc_proto.specs.Agreement.{Agrees}
use Rattle.scc_proto.proofs.Tests.{same_or_other, put_here, put_there}

-- the record of each rank is that of its own events
pub records_from-at : (s : SetupView) (records : ℕ → Record) (es : List RankEvent) (r : ℕ) → records_from s records es r ≡ record_from s r (records r) (events_of r es)
records_from-at s records [] r = refl
records_from-at s records (e ∷ es) r =
    let next = table_with records e.rank (record_after s e.rank (records e.rank) e.event) in
    same_or_other (records_from s next es r ≡ record_from s r (records r) (if e.rank == r then e.event ∷ events_of r es else events_of r es)) e.rank r
    (λ t q.
    let own : next r ≡ record_after s r (records r) e.event = subst (λ x. next x ≡ record_after s x (records x) e.event) q (put_here records e.rank (record_after s e.rank (records e.rank) e.event)) in
    records_from-at s next es r ∙ ap (λ (x : Record). record_from s r x (events_of r es)) own
    ∙ sym (ap (λ (b : Bool). record_from s r (records r) (if b then e.event ∷ events_of r es else events_of r es)) t))
    (λ t ne.
    let own : next r ≡ records r = put_there records e.rank (record_after s e.rank (records e.rank) e.event) r (λ q. ne (sym q)) in
    records_from-at s next es r ∙ ap (λ (x : Record). record_from s r x (events_of r es)) own
    ∙ sym (ap (λ (b : Bool). record_from s r (records r) (if b then e.event ∷ events_of r es else events_of r es)) t))

pub records_from_start : (s : SetupView) (es : List RankEvent) → records_from s (λ r. blank) es ≡ records_of s es
unfolding record_of
records_from_start s es = λ i r. records_from-at s (λ k. blank) es r i

-- what one event owes
abbrev pub KeepsAgreement : SetupView → Type 0
KeepsAgreement s = (memory : Memory) (records : ℕ → Record) (me : ℕ) (e : Event) → Agrees s memory records → me < s.nue → IsEvent e → IsStep memory e → IsPermitted s me (records me) e
    → Agrees s (memory_after memory e) (table_with records me (record_after s me (records me) e))

pub run_agrees : (s : SetupView) → KeepsAgreement s → (memory : Memory) (records : ℕ → Record) (es : List RankEvent) → Agrees s memory records → IsRun memory es → IsPermittedRun s records es
    → Agrees s (memory_from memory es) (records_from s records es)
run_agrees s keeps memory records [] agrees run may = agrees
run_agrees s keeps memory records (e ∷ es) agrees run may =
    run_agrees s keeps (memory_after memory e.event) (table_with records e.rank (record_after s e.rank (records e.rank) e.event)) es
    (keeps memory records e.rank e.event agrees may.0 may.1 run.0 may.2) run.1 may.3
