-- The state of a barrier agrees with the events of its rank, whatever port shows them.
use Rattle.std.proofs.Common.{◌≡◌, ◌≢◌, ℕ, ◌<◌, Bool, false, List, [], None, refl, sym, ◌∙◌, ap, subst, arith}
use base.Stored.{gnil}
use Rattle.scc_base.specs.Setups.{SetupView}
use Rattle.scc_base.specs.Communicators.{rule_of}
use Rattle.scc_base.specs.declared.communicators.CommRule.TheVariants.{Absent}
use Rattle.scc_base.specs.declared.events.Turn.TheVariants as turn
use Rattle.scc_proto.specs.Ports.{Seat, Sight}
use Rattle.scc_proto.proofs.PortLaws.{seat_kept}
use Rattle.put_get.specs.Cores.{Private}
use Rattle.barrier.specs.declared.stages.BarStage.TheVariants.{Flip}
use Rattle.barrier.specs.Flags.{value_at}
use Rattle.barrier.specs.Stages.{BarAt, BarStands, meeting, with_parity}
use Rattle.barrier.specs.Turns.{BarTurned}
use Rattle.barrier.specs.Calls.{Finishes, Stalls}
use Rattle.barrier.specs.declared.barriers.BarStop.{BarStop}
use Rattle.barrier.proofs.OtherPort.{barrier_there, free_after_turn, free_at_start}
use Rattle.barrier.proofs.RestLemmas.{barrier_starts, free_after_barrier}
use Rattle.scc_mesh.specs.Scenes.{ChipView, IsNew, about_in, sight_in}
use Rattle.chip_teams.specs.Teams.{sight_alone}
use Rattle.scc_rows.specs.Entrants.{IsBarrierReady}

-- a state that agrees with a rank's events agrees with every port that shows them, and conversely
pub shown : {s : Sight} {c : Private} {op : BarAt} {values : List Bool} → BarStands (sight_alone s.seat.setup s.seat.rank s.events) c op values → BarStands s c op values
shown {s} {c} {op} {values} st = barrier_there (sight_alone s.seat.setup s.seat.rank s.events) s.seat.mark s.seat.rest s.seat.hold c op values st

pub alone : {s : Sight} {c : Private} {op : BarAt} {values : List Bool} → BarStands s c op values → BarStands (sight_alone s.seat.setup s.seat.rank s.events) c op values
alone {s} {c} {op} {values} st = barrier_there s gnil gnil 0 c op values st

-- ---- how a rank starts, and how it enters one barrier after the other

-- before its first event a rank can enter a barrier
pub starts : (s : Sight) (core : Private) (comm : ℕ) (op : BarAt) (values : List Bool) → s.events ≡ [] → core.out ≡ None → op ≡ record { comm = comm; stage = Flip }
    → ((c : ℕ) → value_at values c ≡ false) → comm < 16 → rule_of s.seat.setup.comms comm ≢ Absent → BarStands s core op values
starts s core comm op values fresh empty is unset small present =
    subst (λ (o : BarAt). BarStands s core o values) (sym is) (barrier_starts (free_at_start s core values fresh empty unset) comm small present)

pub starts_ready : (s : SetupView) (r : ℕ) (core : Private) (comm : ℕ) (op : BarAt) (values : List Bool) → core.out ≡ None → op ≡ record { comm = comm; stage = Flip }
    → ((c : ℕ) → value_at values c ≡ false) → comm < 16 → rule_of s.comms comm ≢ Absent → IsBarrierReady (sight_alone s r []) core comm op values
starts_ready s r core comm op values empty is unset small present = record {
  stands = starts (sight_alone s r []) core comm op values refl empty is unset small present;
  same = ap (λ (o : BarAt). o.comm) is;
}

-- a port of a new chip shows no event
pub root_starts : (chip lent : ChipView) (r hold : ℕ) (core : Private) (op : BarAt) (values : List Bool) → lent ≡ chip → IsNew (about_in chip) chip → core.out ≡ None
    → op ≡ record { comm = 0; stage = Flip } → ((c : ℕ) → value_at values c ≡ false) → rule_of (about_in chip).comms 0 ≢ Absent → BarStands (sight_in lent r hold) core op values
root_starts chip lent r hold core op values same new empty is unset present =
    subst (λ (c : ChipView). BarStands (sight_in c r hold) core op values) (sym same)
    (starts (sight_in chip r hold) core 0 op values (new.empty r) empty is unset (omega arith) present)

-- after a turn the barrier is ready for the next one
pub ready_next : (s : Sight) {t : Sight} {c d : Private} {op now : BarAt} {comm : ℕ} {values later : List Bool} → IsBarrierReady (sight_alone s.seat.setup s.seat.rank s.events) c comm op values
    → now.comm ≡ op.comm → BarStands t d now later → IsBarrierReady (sight_alone t.seat.setup t.seat.rank t.events) d comm now later
ready_next s ready same st = record { stands = alone st; same = same ∙ ready.same }

-- after a barrier was passed, the next one of its communicator can be entered
pub ready_anew : {s t : Sight} {c d : Private} {op now next : BarAt} {comm : ℕ} {values later : List Bool} → IsBarrierReady (sight_alone s.seat.setup s.seat.rank s.events) c comm op values
    → BarStands t d now later → BarTurned (meeting s c op values) (meeting t d now later) turn.Done → next ≡ record { comm = comm; stage = Flip }
    → IsBarrierReady (sight_alone t.seat.setup t.seat.rank t.events) d comm next later
ready_anew {t = t} {d = d} {now = now} {next = next} {comm = comm} {later = later} ready st turned is =
    let same : now.comm ≡ comm = turned.same ∙ ready.same in
    let small : comm < 16 = subst (λ (k : ℕ). k < 16) same st.below in
    let present : rule_of t.seat.setup.comms comm ≢ Absent = subst (λ (k : ℕ). rule_of t.seat.setup.comms k ≢ Absent) same st.present in
    record {
      stands = alone (subst (λ (o : BarAt). BarStands t d o later) (sym is) (barrier_starts (free_after_turn turned st) comm small present));
      same = ap (λ (o : BarAt). o.comm) is;
    }

-- ---- whole barriers

-- a barrier that was taken out of its place is ready as it was there
pub ready_taken : {s : Sight} {c : Private} {op taken : BarAt} {comm : ℕ} {values : List Bool} → taken ≡ op → IsBarrierReady s c comm op values → IsBarrierReady s c comm taken values
ready_taken {s} {c} {op} {taken} {comm} {values} same ready = subst (λ (o : BarAt). IsBarrierReady s c comm o values) (sym same) ready

-- after a barrier that was passed a new one of its communicator can be entered
pub passed_ready : {s t : Sight} {c d : Private} {op next : BarAt} {comm : ℕ} {values later : List Bool} → IsBarrierReady (sight_alone s.seat.setup s.seat.rank s.events) c comm op values
    → Finishes (meeting s c op values) (with_parity t d later) → next ≡ record { comm = comm; stage = Flip } → IsBarrierReady (sight_alone t.seat.setup t.seat.rank t.events) d comm next later
passed_ready {s} {t} {c} {d} {op} {next} {comm} {values} {later} ready f is =
    let seat = seat_kept s f.events t f.did in
    let small : comm < 16 = subst (λ (k : ℕ). k < 16) ready.same ready.stands.below in
    let present : rule_of t.seat.setup.comms comm ≢ Absent = subst (λ (x : Seat). rule_of x.setup.comms comm ≢ Absent) (sym seat)
    (subst (λ (k : ℕ). rule_of s.seat.setup.comms k ≢ Absent) ready.same ready.stands.present) in record {
      stands = alone (subst (λ (o : BarAt). BarStands t d o later) (sym is) (barrier_starts (free_after_barrier f) comm small present));
      same = ap (λ (o : BarAt). o.comm) is;
    }

-- a barrier that gave up can go on
pub stalled_ready : {s t : Sight} {c d : Private} {op : BarAt} {comm polls : ℕ} {values later : List Bool} {stop : BarStop} → IsBarrierReady (sight_alone s.seat.setup s.seat.rank s.events) c comm op values
    → (stalls : Stalls (meeting s c op values) polls (with_parity t d later) stop) → IsBarrierReady (sight_alone t.seat.setup t.seat.rank t.events) d comm stalls.now later
stalled_ready ready stalls = record { stands = alone stalls.stands; same = stalls.same ∙ ready.same }
