-- A whole barrier with a bound on the looks that find nothing (RCCE specification 2.0: RCCE_barrier; the bound is
-- this project's profile).
use Rattle.std.specs.Prelude.{◌≡◌, ◌⊎◌, ℕ, List, ◌++◌, Some, None, Result, Ok, Err}
use Rattle.scc_base.specs.Places.{WordAt}
use Rattle.scc_base.specs.declared.events.Event.{Event}
use Rattle.scc_proto.specs.Stages.{Idle}
use Rattle.scc_proto.specs.Ports.{Seat, Did, record_in}
use Rattle.sync_flags.specs.Flags.{flag_value}
use Rattle.sync_flags.specs.Tries.{Aim, AtWord, spot_of, failed_tries, TryFailed}
use Rattle.barrier.specs.declared.barriers.BarStop.{BarStop}
use Rattle.barrier.specs.declared.barriers.BarStop.TheVariants.{Stalled}
use Rattle.barrier.specs.Flags.{IsParityOf, value_at, release_word}
use Rattle.barrier.specs.Stages.{BarAt, BarStands, Member, ParityHolder, bar_call, own_place, barrier_aim_at}
use Rattle.barrier.specs.Turns.{KeepsAllButBarriers, flips_by}

-- the flags at which the last turn of a rank's barrier may have looked: a member's own release flag; a root ends
-- with a write, whatever it looked at before
abbrev pub MayEndAt : Seat → ℕ → WordAt → Type 0
MayEndAt seat comm place = (own_place seat comm ≡ 0) ⊎ (place ≡ release_word seat comm seat.rank)

-- the barrier is finished in the record, with no vain look at its end
pub record Finishes (old : Member) (now : ParityHolder) : Type 0 where
  pub events : List Event
  pub did : Did old.sight events now.sight
  pub calls : (record_in now.sight).calls ≡ (record_in old.sight).calls ++ bar_call old.op
  pub stage : (record_in now.sight).stage ≡ Idle
  pub empty : now.core.out ≡ None
  pub parity : IsParityOf (record_in now.sight) now.parity
  -- the own gather flag of this communicator was flipped once, unless the barrier was entered before
  pub flips : (record_in now.sight).flips ≡ flips_by old.op.comm old.op.stage (record_in old.sight).flips
  pub rest : KeepsAllButBarriers (record_in old.sight) (record_in now.sight)
  pub none_failed : (place : WordAt) → MayEndAt old.sight.seat old.op.comm place
      → failed_tries (AtWord place (flag_value (value_at now.parity old.op.comm))) events ≡ 0

-- the call gave up: the barrier that is handed back stands where the record stands, and the last looks, as many as
-- were allowed, were vain at the flag where it stands
pub record Stalls (old : Member) (polls : ℕ) (rank : ParityHolder) (stop : BarStop) : Type 0 where
  pub events : List Event
  pub did : Did old.sight events rank.sight
  pub now : BarAt
  pub aim : Aim
  pub is : stop ≡ Stalled now (spot_of aim) polls
  pub stands : BarStands rank.sight rank.core now rank.parity
  pub same : now.comm ≡ old.op.comm
  pub looks : barrier_aim_at old.sight.seat now.comm now.stage (flag_value (value_at rank.parity now.comm)) ≡ Some aim
  pub calls : (record_in rank.sight).calls ≡ (record_in old.sight).calls
  pub call_left : bar_call now ≡ bar_call old.op
  pub flips : (record_in rank.sight).flips ≡ flips_by old.op.comm old.op.stage (record_in old.sight).flips
  pub rest : KeepsAllButBarriers (record_in old.sight) (record_in rank.sight)
  pub failed : TryFailed aim polls events

-- what a call comes to
abbrev pub Ends : Member → ℕ → ParityHolder → Result Unit BarStop → Type 0
Ends old polls now (Ok done) = Finishes old now
Ends old polls now (Err stop) = Stalls old polls now stop
