-- Lists of events of all ranks: those of one rank among them, and one event more.
use Rattle.std.proofs.Common.{◌≡◌, ◌≢◌, ℕ, ◌<◌, Bool, if◌then◌else◌, List, [], ◌∷◌, ◌++◌, refl, sym, ◌∙◌, ap}
use Rattle.scc_base.specs.Events.{IsEvent}
use Rattle.scc_base.specs.Setups.{SetupView}
use Rattle.scc_base.specs.declared.events.Event.{Event}
use Rattle.scc_proto.specs.Histories.{IsPermittedRun, events_of, memory_from, records_from}
use Rattle.scc_proto.specs.Records.{IsPermitted, record_after}
use Rattle.scc_proto.specs.Stages.{Record}
use Rattle.scc_proto.specs.Tables.{table_with}
use Rattle.scc_proto.specs.Words.{IsRun, Memory, RankEvent, memory_after}
use Rattle.scc_proto.proofs.Tests.{eqb_same, eqb_other}
use Rattle.chip_memory.specs.Chips.{of_rank_all}

pub own_events : (r : ℕ) (events : List Event) → events_of r (of_rank_all r events) ≡ events
own_events r [] = refl
own_events r (e ∷ events) = ap (λ (own : Bool). if own then e ∷ events_of r (of_rank_all r events) else events_of r (of_rank_all r events)) (eqb_same r)
    ∙ ap (λ (l : List Event). e ∷ l) (own_events r events)

pub other_events : (r k : ℕ) (events : List Event) → k ≢ r → events_of k (of_rank_all r events) ≡ []
other_events r k [] other = refl
other_events r k (e ∷ events) other =
    ap (λ (own : Bool). if own then e ∷ events_of k (of_rank_all r events) else events_of k (of_rank_all r events)) (eqb_other r k (λ same. other (sym same)))
    ∙ other_events r k events other

pub run_left : (memory : Memory) (a b : List RankEvent) → IsRun memory (a ++ b) → IsRun (memory_from memory a) b
run_left memory [] b run = run
run_left memory (e ∷ a) b run = run_left (memory_after memory e.event) a b run.1

-- one event more, which the record of its rank permits
pub permitted_more : (s : SetupView) (records : ℕ → Record) (run : List RankEvent) (e : RankEvent) → IsPermittedRun s records run → e.rank < s.nue → IsEvent e.event
    → IsPermitted s e.rank (records_from s records run e.rank) e.event → IsPermittedRun s records (run ++ e ∷ [])
permitted_more s records [] e none below event may = (below, event, may, tt)
permitted_more s records (x ∷ run) e (low, made, first, rest) below event may =
    (low, made, first, permitted_more s (table_with records x.rank (record_after s x.rank (records x.rank) x.event)) run e rest below event may)
