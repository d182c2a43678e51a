-- What a list of events of one rank has come to (this project's profile).
use Rattle.std.specs.Prelude.{ℕ, Bool, List, [], Option, None}
use Rattle.scc_base.specs.Heads.{MessageHead}
use Rattle.scc_base.specs.Calls.{DataCall}
use Rattle.scc_base.specs.Places.{WordAt}
use Rattle.scc_proto.specs.Messages.{Notes, Progress}

-- how far a sender is with a chunk: it drafts it, it has raised `sent`, it has seen the `ready`
pub data Part : Type 0 where
  Filling : Part
  Raised : Part
  Answered : Part

-- what a rank is in the midst of, one thing at a time
pub data Stage : Type 0 where
  -- nothing is open
  Idle : Stage
  -- words of a header line and of a first chunk are drafted
  Drafting : (header : Notes) → (chunk : Notes) → Stage
  -- a message that is not posted has been raised for its first chunk
  Sending : (to : ℕ) → Part → Progress → (chunk : Notes) → Stage
  -- chunks of a message were taken, and no chunk is being taken
  Between : (from : ℕ) → Progress → Stage
  -- a chunk is being taken, and these words of it were loaded
  Taking : (from : ℕ) → Progress → (chunk : Notes) → Stage
  -- a barrier was entered; its root has seen `seen` members and released `released` of them
  Barrier : (comm : ℕ) → (seen : ℕ) → (released : ℕ) → Stage

-- a posted message on its way: raised, and its `ready` not lowered
pub record InFlight : Type 0 where
  pub to : ℕ
  pub head : MessageHead
  pub chunk : Notes
  pub is_answered : Bool

-- a value stored at a heap word
pub record HeapStore : Type 0 where
  pub place : WordAt
  pub value : ℕ

-- the words of bit flags of one core, each where it was loaded under the hold of the core's register and
-- not stored since
pub record FlagWords : Type 0 where
  pub sent : Option ℕ
  pub ready : Option ℕ

-- what the events of one rank amount to: the call that it is in the midst of, the message that it posted, what it has
-- noted, its gather flags, the registers that it holds, what it stored on the heap, and its finished calls with their
-- bytes
pub record Record : Type 0 where
  pub stage : Stage
  pub post : Option InFlight
  -- by rank: None where its `sent` was not seen; else the header words loaded since then
  pub notes : ℕ → Option Notes
  -- by communicator: how often the own gather flag was flipped
  pub flips : ℕ → ℕ
  -- by core: None where its register is not held
  pub held : ℕ → Option FlagWords
  pub heap : List HeapStore
  -- the finished calls, the oldest first
  pub calls : List DataCall

-- the record of no event
abbrev pub blank : Record
blank = record { stage = Idle; post = None; notes = λ j. None; flips = λ c. 0; held = λ core. None; heap = []; calls = [] }
