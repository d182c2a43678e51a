-- One turn of a rank in a run, as its port sees it and as the chip shows it (this project's profile).
use Rattle.std.specs.Prelude.{◌≡◌, ◌≢◌, ◌⊎◌, ℕ, ◌<◌, Bool, true, false, if◌then◌else◌, List, [], ◌∷◌, ◌++◌, None}
use Rattle.std.specs.List.{list_all}
use Rattle.scc_base.specs.Setups.{SetupView}
use Rattle.scc_base.specs.declared.events.Event.{Event}
use Rattle.scc_base.specs.declared.events.Turn.{Turn}
use Rattle.scc_base.specs.declared.events.Turn.TheVariants as turn
use Rattle.scc_proto.specs.Agreement.{Agrees}
use Rattle.scc_proto.specs.Like.{Like}
use Rattle.scc_proto.specs.Ports.{Sight, Did}
use Rattle.scc_proto.specs.Records.{record_of}
use Rattle.scc_proto.specs.Resting.{is_resting}
use Rattle.scc_proto.specs.Stages.{Idle, Record}
use Rattle.scc_proto.specs.Views.{view_of}
use Rattle.scc_proto.specs.Words.{Memory, IsStep}
use Rattle.scc_mesh.specs.Scenes.{ChipView, about_in, events_in, records_in}
use Rattle.scc_mesh.specs.Turns.{IsTurned, Saw}
use Rattle.chip_run.specs.declared.rests.Rest.{Rest}
use Rattle.chip_run.specs.declared.rests.Rest.TheVariants as rest
use Rattle.chip_run.specs.Behaves.{Behaviour, WorkerView}
use Rattle.chip_run.specs.Waiting.{Waits}
use Rattle.chip_run.specs.Wants.{Want}

-- a rank holds no test-and-set register
abbrev pub RankHoldsNone : SetupView → ℕ → List Event → Type 0
RankHoldsNone s rank events = (core : ℕ) → (record_of s rank events).held core ≡ None

-- no other rank holds a test-and-set register
abbrev pub NoneElseHolds : SetupView → (ℕ → Record) → ℕ → Type 0
NoneElseHolds s records me = (k core : ℕ) → k < s.nue → k ≢ me → (records k).held core ≡ None

-- one event of a turn is the look that makes the rank wait. On all words that agree with the records of the ranks, the look,
-- where it is a step of them, shows that the rank waits for what it wants. (The rank's record is the one before the look, and
-- no other rank holds a register.)
pub record LookedAt (stepped : List Event → Event → Type 0) (s : SetupView) (rank : ℕ) (own events : List Event)
    (want : Want) : Type 0 where
  pub before : List Event
  pub look : Event
  pub afterwards : List Event
  pub is : events ≡ before ++ look ∷ afterwards
  pub step : stepped (own ++ before) look
  pub waits : (memory : Memory) (records : ℕ → Record) → Agrees s memory records → records rank ≡ record_of s rank (own ++ before)
      → NoneElseHolds s records rank → IsStep memory look → Waits s (view_of s memory) rank (records rank) want

-- a turn that moved: the worker went on, and fewer turns are left
pub record HasMoved {A : Type 0} (c : Behaviour A) (s : SetupView) (rank : ℕ) (old new : A) : Type 0 where
  pub moves : c.moves old new
  pub less : (c.seen s rank new).left < (c.seen s rank old).left

-- a turn that waited: it stored nothing, left the record alike and what is seen of the worker as it was, and its look shows
-- what it waits for. Eight parameters: the workers' conduct, what a step of their port is, whose turn it was (the setup, the
-- rank), the rank's events before the turn and in it, and the worker before and after.
pub record HasWaited {A : Type 0} (c : Behaviour A) (stepped : List Event → Event → Type 0) (s : SetupView) (rank : ℕ)
    (own events : List Event) (old new : A) : Type 0 where
  pub stays : c.stays old new
  pub seen : c.seen s rank new ≡ c.seen s rank old
  pub rests : list_all is_resting events ≡ true
  pub alike : Like (record_of s rank own) (record_of s rank (own ++ events))
  pub look : LookedAt stepped s rank own events (c.seen s rank old).want

-- a rank wants nothing, and nothing is open there
pub record WantsNothing (rec : Record) (w : WorkerView) : Type 0 where
  pub ends : w.want ≡ Want.Nothing
  pub idle : rec.stage ≡ Idle

-- a turn of a rank that is over did nothing. Seven parameters: those of `HasWaited` without the port's steps, since there
-- were none.
pub record IsDone {A : Type 0} (c : Behaviour A) (s : SetupView) (rank : ℕ) (own events : List Event) (old new : A) : Type 0 where
  pub stays : c.stays old new
  pub seen : c.seen s rank new ≡ c.seen s rank old
  pub nothing : events ≡ []
  pub over : WantsNothing (record_of s rank own) (c.seen s rank old)

-- what each answer of a turn means. Nine parameters: those of `HasWaited`, and the answer.
abbrev pub TurnMeans : {A : Type 0} → Behaviour A → (List Event → Event → Type 0) → SetupView → ℕ → List Event → List Event → A → A
    → Turn → Type 0
TurnMeans c stepped s rank own events old new turn.Moved = HasMoved c s rank old new
TurnMeans c stepped s rank own events old new (turn.Waiting spot) = HasWaited c stepped s rank own events old new
TurnMeans c stepped s rank own events old new turn.Done = IsDone c s rank own events old new

-- a turn through a port. Seven parameters: the workers' conduct, what a step of their port is, the worker and its sight
-- before and after, and the answer.
pub record Turned {A : Type 0} (c : Behaviour A) (stepped : List Event → Event → Type 0) (old : A) (s : Sight) (new : A) (t : Sight)
    (answer : Turn) : Type 0 where
  pub events : List Event
  pub did : Did s events t
  pub means : TurnMeans c stepped s.seat.setup s.seat.rank s.events events old new answer

-- turns in a row, each of which moved
pub data TurnsMoved {A : Type 0} (c : Behaviour A) (stepped : List Event → Event → Type 0) (old : A) (s : Sight) : A → Sight → Type 0 where
  OneMoved : (new : A) (t : Sight) → Turned c stepped old s new t turn.Moved → TurnsMoved c stepped old s new t
  MoreMoved : (mid new : A) (m t : Sight) → TurnsMoved c stepped old s mid m → Turned c stepped mid m new t turn.Moved
      → TurnsMoved c stepped old s new t

-- a stretch: one turn, whatever it came to, or turns in a row, each of which moved. Seven parameters, those of `Turned`: the
-- answer is that of the last turn.
pub data TookBatch {A : Type 0} (c : Behaviour A) (stepped : List Event → Event → Type 0) (old : A) (s : Sight) (new : A) (t : Sight)
    (answer : Turn) : Type 0 where
  OneTurn : Turned c stepped old s new t answer → TookBatch c stepped old s new t answer
  InARow : TurnsMoved c stepped old s new t → answer ≡ turn.Moved → TookBatch c stepped old s new t answer

-- what a turn comes to: it moved; or the rank rests, and has finished or not. A rank that was stopped has not.
abbrev pub rest_by : Turn → Bool → Rest
rest_by turn.Moved stopped = rest.Moved
rest_by (turn.Waiting spot) stopped = rest.Unfinished
rest_by turn.Done stopped = if stopped then rest.Unfinished else rest.Finished

-- what two ranks come to together: both rest where each does, and have finished where each has
abbrev pub both_rest : Rest → Rest → Rest
both_rest rest.Moved other = rest.Moved
both_rest rest.Finished other = other
both_rest rest.Unfinished rest.Moved = rest.Moved
both_rest rest.Unfinished rest.Finished = rest.Unfinished
both_rest rest.Unfinished rest.Unfinished = rest.Unfinished

-- a rank waits: some words agree with records that are alike to these, and there it waits for what it wants
pub record WaitsThen (s : SetupView) (now : ℕ → Record) (me : ℕ) (want : Want) : Type 0 where
  pub memory : Memory
  pub records : ℕ → Record
  pub agrees : Agrees s memory records
  pub alike : (j : ℕ) → Like (records j) (now j)
  pub waits : Waits s (view_of s memory) me (records me) want

-- a rank has finished: it wants nothing, and was not stopped
pub record HasFinished (rec : Record) (w : WorkerView) : Type 0 where
  pub over : WantsNothing rec w
  pub running : w.is_stopped ≡ false

-- a rank was stopped, and wants nothing
pub record HasStopped (rec : Record) (w : WorkerView) : Type 0 where
  pub over : WantsNothing rec w
  pub stopped : w.is_stopped ≡ true

-- a rank rests: it has finished, or it was stopped or waits
abbrev pub RestsAt : Bool → SetupView → (ℕ → Record) → ℕ → WorkerView → Type 0
RestsAt true s now me w = HasFinished (now me) w
RestsAt false s now me w = HasStopped (now me) w ⊎ WaitsThen s now me w.want

-- a turn of a rank at home that did not move. Seven parameters: the workers' conduct, whether it is finished, the rank, and
-- the chip and the worker before and after.
pub record HasStayed {A : Type 0} (c : Behaviour A) (finished : Bool) (chip : ChipView) (r : ℕ) (now : ChipView) (old new : A)
    : Type 0 where
  pub stays : c.stays old new
  pub seen : c.seen (about_in chip) r new ≡ c.seen (about_in chip) r old
  pub alike : Like (records_in chip r) (records_in now r)
  pub rests : RestsAt finished (about_in chip) (records_in now) r (c.seen (about_in chip) r new)

-- what a turn of a rank at home came to: it went on, or it has stayed, finished or not. Seven parameters: those of
-- `HasStayed`, with what the turn came to in place of whether it is finished.
abbrev pub TurnCameTo : {A : Type 0} → Behaviour A → Rest → ChipView → ℕ → ChipView → A → A → Type 0
TurnCameTo c rest.Moved chip r now old new = HasMoved c (about_in chip) r old new
TurnCameTo c rest.Finished chip r now old new = HasStayed c true chip r now old new
TurnCameTo c rest.Unfinished chip r now old new = HasStayed c false chip r now old new

-- a turn of a rank at home, through a port of its own. Seven parameters: the workers' conduct, the rank, the chip and the
-- worker before and after, and the answer.
pub record OwnTurn {A : Type 0} (c : Behaviour A) (chip : ChipView) (r : ℕ) (old : A) (now : ChipView) (new : A)
    (answer : Turn) : Type 0 where
  pub turned : IsTurned chip r now
  pub events : List Event
  pub longer : events_in now r ≡ events_in chip r ++ events
  pub ties : c.tied new (about_in now) r (events_in now r)
  pub means : TurnMeans c (Saw now r) (about_in chip) r (events_in chip r) events old new answer

-- a turn of a rank at home, and what it came to. Seven parameters, those of `OwnTurn`, with what the turn came to in place
-- of the answer of its port.
pub record TurnedAtHome {A : Type 0} (c : Behaviour A) (chip : ChipView) (r : ℕ) (old : A) (now : ChipView) (new : A)
    (came : Rest) : Type 0 where
  pub turned : IsTurned chip r now
  pub ties : c.tied new (about_in now) r (events_in now r)
  pub comes : TurnCameTo c came chip r now old new
