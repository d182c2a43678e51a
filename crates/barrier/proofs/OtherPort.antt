-- A barrier stands where the events of a rank stand, whatever port shows them; before the first event, and after the last turn.
use Rattle.std.proofs.Common.{◌≡◌, ℕ, ◌%◌, Bool, false, List, [], None, sym, ◌∙◌, ap, subst}
use base.Stored.{Gv}
use Rattle.scc_base.specs.declared.events.Turn.TheVariants as turn
use Rattle.scc_proto.specs.Stages.{Record}
use Rattle.scc_proto.specs.Ports.{Seat, Sight, record_in}
use Rattle.put_get.specs.Cores.{Private}
use Rattle.sync_flags.specs.Flags.{flag_value}
use Rattle.sync_flags.specs.Turns.{at_port}
use Rattle.sync_flags.proofs.TurnLemmas.{between_at_start, between_there, record_at_port, record_at_start}
use Rattle.barrier.specs.declared.stages.BarStage.{BarStage}
use Rattle.barrier.specs.declared.stages.BarStage.TheVariants.{Flip, Gather, Release, Await, Finished}
use Rattle.barrier.specs.Flags.{IsParityOf, value_at}
use Rattle.barrier.specs.Stages.{BarAt, BarStands, IsAtStage, IsBetweenBarriers, meeting}
use Rattle.barrier.specs.Turns.{BarTurned}

abbrev seat_at : Seat → Gv → Gv → ℕ → Seat
seat_at seat m r h = record seat { mark = m; rest = r; hold = h }

stage_at : (seat : Seat) (m r : Gv) (h : ℕ) (rec : Record) (comm : ℕ) (stage : BarStage) → IsAtStage seat rec comm stage → IsAtStage (seat_at seat m r h) rec comm stage
stage_at seat m r h rec comm Flip at = at
stage_at seat m r h rec comm (Gather seen) at = at
stage_at seat m r h rec comm (Release released) at = at
stage_at seat m r h rec comm Await at = at
stage_at seat m r h rec comm Finished at = at

module _ (s : Sight) (m r : Gv) (h : ℕ) where
  parity_there : (values : List Bool) → IsParityOf (record_in s) values → IsParityOf (record_in (at_port s m r h)) values
  parity_there values is = subst (λ (x : Record). IsParityOf x values) (sym (record_at_port s m r h)) is

  pub barrier_there : (c : Private) (op : BarAt) (values : List Bool) → BarStands s c op values → BarStands (at_port s m r h) c op values
  barrier_there c op values st = record {
    below = st.below;
    present = st.present;
    empty = st.empty;
    parity = parity_there values st.parity;
    at = subst (λ (x : Record). IsAtStage (seat_at s.seat m r h) x op.comm op.stage) (sym (record_at_port s m r h)) (stage_at s.seat m r h (record_in s) op.comm op.stage st.at);
  }

  pub free_there : (c : Private) (values : List Bool) → IsBetweenBarriers s c values → IsBetweenBarriers (at_port s m r h) c values
  free_there c values st = record { between = between_there s m r h c st.between; parity = parity_there values st.parity }

-- before its first event a rank is in no call, with no flag set
pub free_at_start : (s : Sight) (c : Private) (values : List Bool) → s.events ≡ [] → c.out ≡ None → ((comm : ℕ) → value_at values comm ≡ false) → IsBetweenBarriers s c values
free_at_start s c values fresh empty unset =
    let none = record_at_start s fresh in
    record { between = between_at_start s c fresh empty; parity = λ comm lt. ap flag_value (unset comm) ∙ (λ i. sym (ap (λ (x : Record). x.flips comm) none) i % 2) }

idle_at : (seat : Seat) (rec : Record) (comm : ℕ) (stage : BarStage) → stage ≡ Finished → IsAtStage seat rec comm stage → IsAtStage seat rec comm Finished
idle_at seat rec comm stage is at = subst (λ (x : BarStage). IsAtStage seat rec comm x) is at

-- after the turn that ends a barrier it is in no call
pub free_after_turn : {s t : Sight} {c d : Private} {op now : BarAt} {values later : List Bool} → BarTurned (meeting s c op values) (meeting t d now later) turn.Done → BarStands t d now later → IsBetweenBarriers t d later
free_after_turn {t = t} {now = now} turned st =
    record { between = record { stage = idle_at t.seat (record_in t) now.comm now.stage turned.means.0 st.at; empty = st.empty }; parity = st.parity }
