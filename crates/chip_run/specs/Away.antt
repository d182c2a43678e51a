-- A round in threads: workers whose ranks are away from their chip.
use Rattle.std.specs.Prelude.{◌≡◌, ◌⊎◌, ℕ, suc, ◌+◌, ◌-◌, ◌*◌, ◌<◌, ◌≤◌, List, [], ◌∷◌, drop, length, slice_get, slice_index_or, Option, Some, None}
use Rattle.scc_base.specs.Setups.{SetupView}
use Rattle.scc_base.specs.declared.events.Event.{Event}
use Rattle.scc_base.specs.declared.events.Turn.{Turn}
use Rattle.scc_base.specs.declared.events.Turn.TheVariants as turn
use Rattle.scc_proto.specs.Ports.{Sight, Did}
use Rattle.scc_mesh.specs.AwayRanks.{Ticket}
use Rattle.scc_mesh.specs.Spaces.{ChipId}
use Rattle.scc_mesh.specs.Scenes.{WasSeatStep, sight_away}
use Rattle.chip_run.specs.Behaves.{Behaviour, Later}
use Rattle.chip_run.specs.Crews.{sum_from}
use Rattle.chip_run.specs.Turns.{TookBatch, Turned}
use Rattle.chip_run.specs.declared.members.Member.{Member}

-- turns through a port, one after the other, with these answers; the latest stands first. Seven parameters: the workers'
-- conduct, what a step of their port is, the answers, and the worker and its sight before the first turn and after the last.
abbrev pub TookTurns : {A : Type 0} → Behaviour A → (List Event → Event → Type 0) → List Turn → A → Sight → A → Sight → Type 0
TookTurns c stepped [] old s new t = (new ≡ old) × (t ≡ s)
TookTurns {A} c stepped (answer ∷ before) old s new t =
    (mid : A) × (m : Sight) × TookTurns c stepped before old s mid m × Turned c stepped mid m new t answer

-- how many of a rank's latest turns waited, one after the other, by their answers; the latest answer stands first
abbrev pub waited_in : List Turn → ℕ
waited_in [] = 0
waited_in (turn.Moved ∷ before) = 0
waited_in (turn.Waiting spot ∷ before) = suc (waited_in before)
waited_in (turn.Done ∷ before) = 0

-- behind these answers, of which the latest stands first, a row is at its end: the rank is over, or has waited in
-- `most` turns in a row
abbrev pub EndsSlice : ℕ → List Turn → Type 0
EndsSlice most answers = (slice_get answers 0 ≡ Some turn.Done) ⊎ (waited_in answers ≡ most)

-- a row is at its end behind all these answers, and was so behind no fewer
pub record IsSlice (most : ℕ) (answers : List Turn) : Type 0 where
  pub ends : EndsSlice most answers
  pub first : (n : ℕ) → EndsSlice most (drop (suc n) answers) → ⊥

-- turns through a port, one after the other. Seven parameters, those of `TookTurns`, with the events and the facts that the
-- turns leave as fields.
pub record SomeTurns {A : Type 0} (c : Behaviour A) (stepped : List Event → Event → Type 0) (answers : List Turn) (old : A) (s : Sight)
    (new : A) (t : Sight) : Type 0 where
  pub events : List Event
  pub did : Did s events t
  pub later : Later c old new
  -- no more turns are left
  pub left : (c.seen s.seat.setup s.seat.rank new).left ≤ (c.seen s.seat.setup s.seat.rank old).left
  pub took : TookTurns c stepped answers old s new t

-- a row of turns: until the rank is over, or has waited in a thousand turns in a row
pub record TimeSlice {A : Type 0} (c : Behaviour A) (stepped : List Event → Event → Type 0) (old : A) (s : Sight) (new : A)
    (t : Sight) : Type 0 where
  pub answers : List Turn
  pub is_slice : IsSlice 1000 answers
  pub turns : SomeTurns c stepped answers old s new t

-- a worker took a row of turns through a port of this rank of a chip with this setup
pub record TookSlice {A : Type 0} (c : Behaviour A) (s : SetupView) (rank : ℕ) (old new : A) : Type 0 where
  pub first : Sight
  pub last : Sight
  pub setup_is : first.seat.setup ≡ s
  pub rank_is : first.seat.rank ≡ rank
  pub slice : TimeSlice c (WasSeatStep first.seat) old first new last

-- the vain turns in a row after one more answer: a turn that moved sets them to 0, and one that is over counts as
-- `most`, which ends the row
abbrev pub failed_by : ℕ → Turn → ℕ → ℕ
failed_by most turn.Moved failed = 0
failed_by most (turn.Waiting spot) failed = failed + 1
failed_by most turn.Done failed = most

-- how many turns of a row are left at most, where `left` that do not wait are left to its worker and its last `failed`
-- were vain
abbrev pub slice_left : ℕ → ℕ → ℕ → ℕ
slice_left most left failed = most * left + (most - failed)

-- the next stretch of a row of a rank that is away, with the number of its last turns that were vain, before the
-- stretch and behind it. Eight parameters: the workers' conduct, the setup, and three things that a stretch changes, each
-- twice: the worker, its ticket and the number.
pub record NextBatch {A : Type 0} (c : Behaviour A) (s : SetupView) (old : A) (token : Option Ticket) (failed : ℕ) (new : A)
    (later : Option Ticket) (now : ℕ) : Type 0 where
  pub going : failed < 1000
  pub first : Ticket
  pub last : Ticket
  pub before : token ≡ Some first
  pub afterwards : later ≡ Some last
  pub answer : Turn
  pub took_batch : TookBatch c (WasSeatStep (sight_away s first).seat) old (sight_away s first) new (sight_away s last) answer
  pub counts : now ≡ failed_by 1000 answer failed

-- stretches of a row of a rank that is away, one after the other. Eight parameters: those of `NextBatch`, of which the
-- later worker, ticket and number are of the row's end.
pub data Batches {A : Type 0} (c : Behaviour A) (s : SetupView) (old : A) (token : Option Ticket) (failed : ℕ) : A → Option Ticket → ℕ
    → Type 0 where
  NoBatch : Batches c s old token failed old token failed
  OneBatch : (mid new : A) (some later : Option Ticket) (half now : ℕ) → Batches c s old token failed mid some half
      → NextBatch c s mid some half new later now → Batches c s old token failed new later now

-- a token of this rank of this chip, where its worker stands
abbrev pub IsAway : (SetupView → ℕ → List Event → Type 0) → SetupView → ChipId → ℕ → Option Ticket → Type 0
IsAway stands s table r None = ⊥
IsAway stands s table r (Some t) = (t.table ≡ table) × (t.rank ≡ r) × stands s r t.events

-- a worker stands where its rank's events stand, and the place for the rank's token is empty
pub record IsAtHome (tied : SetupView → ℕ → List Event → Type 0) (token : Option Ticket) (s : SetupView) (r : ℕ)
    (events : List Event) : Type 0 where
  pub ties : tied s r events
  pub empty : token ≡ None

-- how the members of a crew conduct themselves, each at home: as their workers do
abbrev pub behaviour_of_members : {A : Type 0} → Behaviour A → Behaviour (Member A)
behaviour_of_members c = record {
  seen = λ s r m. c.seen s r m.worker;
  tied = λ m. IsAtHome (c.tied m.worker) m.token;
  moves = λ m n. c.moves m.worker n.worker;
  stays = λ m n. c.stays m.worker n.worker;
}

-- how many turns of the rows of some members are left at most, the first of them that of this rank
abbrev pub slices_left : {A : Type 0} → Behaviour A → SetupView → ℕ → List (Member A) → ℕ
slices_left c s start members = sum_from (λ k m. slice_left 1000 (c.seen s k m.worker).left m.failed) start members

-- the first n of a crew were served, one after the other, and the others are as they were
pub record Served {A : Type 0} (R : ℕ → A → A → Type 0) (n : ℕ) (old now : List A) : Type 0 where
  pub count : length now ≡ length old
  pub done : (k : ℕ) (d : A) → k < n → k < length old → R k (slice_index_or old k d) (slice_index_or now k d)
  pub left : (k : ℕ) (d : A) → n ≤ k → slice_index_or now k d ≡ slice_index_or old k d
