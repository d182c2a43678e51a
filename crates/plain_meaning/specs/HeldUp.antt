-- Why a run leaves ranks unfinished (RCCE specification 2.0: a message is one between two units of execution, and a barrier is
-- left when all members have entered it).
use Rattle.std.specs.Prelude.{◌≡◌, ℕ, ◌<◌, ◌==◌, Bool, true, false, IfSome, List, length}
use Rattle.groups.specs.Peers.{IsPeer}
use Rattle.scc_base.specs.Groups.{is_with}
use Rattle.scc_base.specs.declared.calls.Call.{Call}
use Rattle.scc_base.specs.declared.calls.Call.TheVariants as call
use Rattle.script_machine.specs.declared.ends.UeEnd.{UeEnd}
use Rattle.script_machine.specs.declared.ends.UeEnd.TheVariants as ue_end
use Rattle.plain_meaning.specs.Ends.{Ended, ended_at}

-- a call is a barrier of this communicator
abbrev pub is_barrier_of : ℕ → Call → Bool
is_barrier_of comm (call.Send to head) = false
is_barrier_of comm (call.Recv from head) = false
is_barrier_of comm (call.Post to head) = false
is_barrier_of comm (call.Bar asked) = asked == comm

-- a rank's run ended in a barrier of this communicator
abbrev pub ended_at_barrier : ℕ → UeEnd → Bool
ended_at_barrier comm ue_end.Finished = false
ended_at_barrier comm (ue_end.Waits line call) = is_barrier_of comm call
ended_at_barrier comm (ue_end.Mismatch line from sent asked) = false

-- a member of a rank's group in a communicator that has not come to its barrier
pub record IsAwaited (keys : ℕ → ℕ → ℕ) (ends : List Ended) (comm rank k : ℕ) : Type 0 where
  pub below : k < length ends
  pub member : is_with (keys comm) rank k ≡ true
  pub absent : ended_at_barrier comm (ended_at ends k).end ≡ false

-- a call that a rank did not finish is one with another rank of the run, or a barrier to which a member has not come
abbrev pub IsHeldUp : (ℕ → ℕ → ℕ) → List Ended → ℕ → Call → Type 0
IsHeldUp keys ends rank (call.Send to head) = IsPeer (length ends) rank to
IsHeldUp keys ends rank (call.Recv from head) = IsPeer (length ends) rank from
IsHeldUp keys ends rank (call.Post to head) = IsPeer (length ends) rank to
IsHeldUp keys ends rank (call.Bar comm) = (k : ℕ) × IsAwaited keys ends comm rank k

-- what an end implies about other ranks: nothing if the rank has finished; otherwise its call is held up, or the message that
-- it refused came from a rank of the run
abbrev pub HasCause : (ℕ → ℕ → ℕ) → List Ended → ℕ → UeEnd → Type 0
HasCause keys ends rank ue_end.Finished = Unit {0}
HasCause keys ends rank (ue_end.Waits line call) = IsHeldUp keys ends rank call
HasCause keys ends rank (ue_end.Mismatch line from sent asked) = IsPeer (length ends) rank from

-- how a rank ended has its cause, and a message of the rank that nobody took is for another rank
pub record IsExplained (keys : ℕ → ℕ → ℕ) (ends : List Ended) (rank : ℕ) : Type 0 where
  pub cause : HasCause keys ends rank (ended_at ends rank).end
  pub in_flight : IfSome (ended_at ends rank).in_flight (λ to. IsPeer (length ends) rank to)
