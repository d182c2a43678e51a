-- What a barrier leaves of a record over several turns, and how calls follow one another.
use Rattle.std.proofs.Common.{◌≡◌, ◌≢◌, ℕ, ◌+◌, ◌-◌, ◌*◌, ◌<◌, ◌==◌, Bool, List, ◌++◌, Some, refl, ◌∙◌, subst, arith}
use Rattle.scc_base.specs.Communicators.{rule_of}
use Rattle.scc_base.specs.declared.communicators.CommRule.TheVariants.{Absent}
use Rattle.scc_proto.specs.Stages.{Record}
use Rattle.scc_proto.specs.Ports.{Seat, Sight, record_in}
use Rattle.scc_proto.proofs.Layouts.Roles.{if_yes, if_no}
use Rattle.scc_proto.proofs.Tests.{eqb_other}
use Rattle.put_get.specs.Cores.{Private}
use Rattle.sync_flags.specs.Tries.{Aim}
use Rattle.sync_flags.specs.Flags.{flag_value}
use Rattle.barrier.specs.declared.barriers.BarStop.{BarStop}
use Rattle.barrier.specs.declared.stages.BarStage.{BarStage}
use Rattle.barrier.specs.declared.stages.BarStage.TheVariants.{Flip, Gather, Release, Await, Finished}
use Rattle.barrier.specs.Flags.{value_at}
use Rattle.barrier.specs.Stages.{BarAt, BarStands, IsAtStage, IsBetweenBarriers, group_size, own_place, left_by, bar_left, bar_call, barrier_aim_at, new_barrier, meeting, with_parity}
use Rattle.barrier.specs.Turns.{KeepsAllButBarriers, flips_by}
use Rattle.barrier.specs.Calls.{Finishes, Stalls}
use Rattle.barrier.proofs.StageLemmas.{same_by}

pub none_changed : (rec : Record) → KeepsAllButBarriers rec rec
none_changed rec = record { post = refl; notes = refl; registers = refl; heap = refl }

pub kept_both : {a b c : Record} → KeepsAllButBarriers a b → KeepsAllButBarriers b c → KeepsAllButBarriers a c
kept_both x y = record {
  post = y.post ∙ x.post;
  notes = y.notes ∙ x.notes;
  registers = y.registers ∙ x.registers;
  heap = y.heap ∙ x.heap;
}

-- ---- no turn leads back to the flip

root_flips : (size place : ℕ) → place ≡ 0 → left_by size place Flip ≡ 2 * size - 1
root_flips size place root = if_yes (place == 0) (2 * size - 1) 2 (same_by place 0 root)

member_flips : (size place : ℕ) → place ≢ 0 → left_by size place Flip ≡ 2
member_flips size place other = if_no (place == 0) (2 * size - 1) 2 (eqb_other place 0 other)

-- one turn less is left, so the stage is not the flip
not_again : (seat : Seat) (rec : Record) (comm : ℕ) (before : BarStage) → IsAtStage seat rec comm before
    → left_by (group_size seat comm) (own_place seat comm) before ≡ left_by (group_size seat comm) (own_place seat comm) Flip + 1 → ⊥
not_again seat rec comm Flip at left = omega (arith, left)
not_again seat rec comm (Gather seen) at left = omega (arith, left, root_flips (group_size seat comm) (own_place seat comm) at.0)
not_again seat rec comm (Release released) at left = omega (arith, left, root_flips (group_size seat comm) (own_place seat comm) at.0)
not_again seat rec comm Await at left = omega (arith, left, member_flips (group_size seat comm) (own_place seat comm) at.0)
not_again seat rec comm Finished at left = omega (arith, left)

pub flips_moved : (seat : Seat) (rec : Record) (cur now : BarAt) (flips : ℕ → ℕ) → now.comm ≡ cur.comm → IsAtStage seat rec cur.comm cur.stage
    → bar_left seat cur ≡ bar_left seat now + 1 → flips_by now.comm now.stage flips ≡ flips
flips_moved seat rec cur now flips same at left = by now.stage (subst (λ (k : ℕ). bar_left seat cur ≡ left_by (group_size seat k) (own_place seat k) now.stage + 1) same left)
  where
    by : (stage : BarStage) → bar_left seat cur ≡ left_by (group_size seat cur.comm) (own_place seat cur.comm) stage + 1 → flips_by now.comm stage flips ≡ flips
    by Flip less = absurd (not_again seat rec cur.comm cur.stage at less)
    by (Gather seen) less = refl
    by (Release released) less = refl
    by Await less = refl
    by Finished less = refl

-- a barrier that looks at a flag was entered before
pub flips_looking : (seat : Seat) (op : BarAt) (value : ℕ) (aim : Aim) (flips : ℕ → ℕ) → barrier_aim_at seat op.comm op.stage value ≡ Some aim → flips_by op.comm op.stage flips ≡ flips
flips_looking seat op value aim flips looks = by op.stage looks
  where
    by : (stage : BarStage) → barrier_aim_at seat op.comm stage value ≡ Some aim → flips_by op.comm stage flips ≡ flips
    by Flip at = absurd (cc)
    by (Gather seen) at = refl
    by (Release released) at = refl
    by Await at = refl
    by Finished at = refl

-- ---- how calls follow one another

pub barrier_starts : {s : Sight} {c : Private} {values : List Bool} → IsBetweenBarriers s c values → (comm : ℕ) → comm < 16 → rule_of s.seat.setup.comms comm ≢ Absent
    → BarStands s c (new_barrier comm) values
barrier_starts free comm below present = record { below = below; present = present; empty = free.between.empty; parity = free.parity; at = free.between.stage }

pub free_after_barrier : {s t : Sight} {c d : Private} {op : BarAt} {before values : List Bool} → Finishes (meeting s c op before) (with_parity t d values) → IsBetweenBarriers t d values
free_after_barrier f = record { between = record { stage = f.stage; empty = f.empty }; parity = f.parity }

pub calls_of_both : {s m t : Sight} {c b d : Private} {op : BarAt} {polls : ℕ} {before values later : List Bool} {stop : BarStop} → (first : Stalls (meeting s c op before) polls (with_parity m b values) stop)
    → Finishes (meeting m b first.now values) (with_parity t d later) → (record_in t).calls ≡ (record_in s).calls ++ bar_call op
calls_of_both first second = second.calls ∙ (λ i. first.calls i ++ first.call_left i)

pub flips_of_both : {s m t : Sight} {c b d : Private} {op : BarAt} {polls : ℕ} {before values later : List Bool} {stop : BarStop} → (first : Stalls (meeting s c op before) polls (with_parity m b values) stop)
    → Finishes (meeting m b first.now values) (with_parity t d later) → (record_in t).flips ≡ flips_by op.comm op.stage (record_in s).flips
flips_of_both {s} {m} {values = values} first second =
    second.flips ∙ flips_looking s.seat first.now (flag_value (value_at values first.now.comm)) first.aim (record_in m).flips first.looks ∙ first.flips
