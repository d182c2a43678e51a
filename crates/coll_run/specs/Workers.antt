-- The ranks of a collective call as the workers of a run (this project's profile).
use Rattle.std.specs.Prelude.{◌≡◌, ℕ, ◌+◌, ◌||◌, true, if◌then◌else◌, List, [], Some}
use Rattle.scc_base.specs.Heads.{MessageHead}
use Rattle.scc_base.specs.Setups.{SetupView}
use Rattle.scc_base.specs.declared.events.Event.{Event}
use Rattle.scc_base.specs.declared.events.Spot.{Spot}
use Rattle.scc_proto.specs.Ports.{Seat, Sight}
use Rattle.scc_proto.specs.Records.{record_of}
use Rattle.put_get.specs.Cores.{MadeSteps}
use Rattle.send_recv.specs.Receiving.{recv_waits}
use Rattle.send_recv.specs.declared.answers.RecvTurn.{RecvTurn}
use Rattle.chip_run.specs.Behaves.{Behaviour, WorkerView}
use Rattle.chip_run.specs.Wants.{Want}
use Rattle.coll_more.specs.Ops.{taking_part}
use Rattle.coll_more.specs.Standing.{MoreStands}
use Rattle.coll_more.specs.Turns.{MetOther, MoreTurned, is_more_over, more_left}
use Rattle.coll_run.specs.Resting.{want_at}
use Rattle.coll_run.specs.Teams.{MemberStands, MemberView, seat_of}

-- what a rank wants: nothing where its call is at its end, or where it has met another head
abbrev pub member_want : SetupView → ℕ → MemberView → Want
member_want s rank m = if m.met || is_more_over (seat_of s rank) m.op then Want.Nothing else want_at m.op.stage

-- how many turns that do not wait a rank has left at most; meeting another head is the last
abbrev pub member_left : SetupView → ℕ → MemberView → ℕ
member_left s rank m = if m.met then 0 else more_left (seat_of s rank) m.op m.slot + 1

-- what a run sees of a rank
abbrev pub member_seen : SetupView → ℕ → MemberView → WorkerView
member_seen s rank m = record { want = member_want s rank m; left = member_left s rank m; is_stopped = m.met }

-- a rank stands where its events stand, in whatever call it is; and where it has met another head its record says so
pub record IsTied (m : MemberView) (s : SetupView) (rank : ℕ) (events : List Event) : Type 0 where
  pub stands : MemberStands m.op.more m.op.len m s rank events
  pub met : m.met ≡ true → (sent : MessageHead) × MetOther (record_of s rank events) sent m.op.stage

-- a turn that moved: it is the same call, with the same bytes to hand in
pub record KeepsCall (old new : MemberView) : Type 0 where
  pub more : new.op.more ≡ old.op.more
  pub len : new.op.len ≡ old.op.len
  pub src : new.src ≡ old.src

-- a turn that did not move: it has come no further
pub record Stays (old new : MemberView) : Type 0 where
  pub op : new.op ≡ old.op
  pub slot : new.slot ≡ old.slot
  pub src : new.src ≡ old.src

-- a turn of the call of a rank through its port
pub record HasGoneOn (stepped : Seat → List Event → Event → Type 0) (old : MemberView) (s : Sight) (new : MemberView) (t : Sight)
    (answer : RecvTurn) : Type 0 where
  pub stands : MoreStands [] (taking_part t new.core new.op new.slot new.src new.dst)
  pub turned : MoreTurned (taking_part s old.core old.op old.slot old.src old.dst)
      (taking_part t new.core new.op new.slot old.src new.dst) answer
  pub steps : (spot : Spot) → recv_waits answer ≡ Some spot → MadeSteps stepped s t
  pub src : new.src ≡ old.src
  pub met : new.met ≡ old.met

-- how the ranks of a collective call conduct themselves in a run
abbrev pub member_behaviour : Behaviour MemberView
member_behaviour = record { seen = member_seen; tied = IsTied; moves = KeepsCall; stays = Stays }
