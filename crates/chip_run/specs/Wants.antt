-- What a rank wants next: all that a run needs to know of its program (this project's profile).
use Rattle.std.specs.Prelude.{ℕ}
use Rattle.scc_base.specs.Heads.{MessageHead}

-- What a rank wants next: all that a run needs to know of its program.
pub data Want : Type 0 where
  -- nothing: its program has ended, or it was stopped
  Nothing : Want
  -- a step of its own, which never waits
  Own : Want
  -- its slot empty: the message that it posted last is to be taken
  Slot : Want
  -- to send a message with this head to another rank
  Send : (to : ℕ) → (head : MessageHead) → Want
  -- to receive a message from another rank
  Recv : (from : ℕ) → Want
  -- to go through a barrier of a communicator
  Bar : (comm : ℕ) → Want
