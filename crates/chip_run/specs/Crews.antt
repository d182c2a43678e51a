-- The workers of a run, one a rank, and what rounds and sweeps leave (this project's profile).
use Rattle.std.specs.Prelude.{◌≡◌, ℕ, ◌+◌, ◌<◌, ◌≤◌, Bool, true, false, List, [], ◌∷◌, length, Option, Some, None, slice_index_or, slice_set}
use Rattle.scc_base.specs.Setups.{SetupView}
use Rattle.scc_mesh.specs.Scenes.{ChipView, IsWhole, about_in, table_in, events_in, records_in}
use Rattle.chip_run.specs.declared.rests.Rest.{Rest}
use Rattle.chip_run.specs.declared.rests.Rest.TheVariants as rest
use Rattle.chip_run.specs.declared.ends.RunEnd.{RunEnd}
use Rattle.chip_run.specs.declared.ends.RunEnd.TheVariants as run_end
use Rattle.chip_run.specs.Behaves.{Behaviour, Later}
use Rattle.chip_run.specs.Turns.{TurnedAtHome, RestsAt}

-- a worker for each rank of a whole chip, each tied to its rank's events
pub record IsCrew {A : Type 0} (c : Behaviour A) (chip : ChipView) (crew : List A) : Type 0 where
  pub whole : IsWhole chip
  pub each : length crew ≡ (about_in chip).nue
  pub ties : (k : ℕ) (d : A) → k < length crew → c.tied (slice_index_or crew k d) (about_in chip) k (events_in chip k)

-- the sum over a list, by its places from one on
abbrev pub sum_from : {A : Type 0} → (ℕ → A → ℕ) → ℕ → List A → ℕ
sum_from f from [] = 0
sum_from f from (x ∷ xs) = f from x + sum_from f (from + 1) xs

-- how many turns that do not wait are left to all workers of a crew
abbrev pub all_left : {A : Type 0} → Behaviour A → SetupView → List A → ℕ
all_left c s crew = sum_from (λ k x. (c.seen s k x).left) 0 crew

-- turns were taken: it is the same chip with the same workers, each as it is after some turns, and no more turns are left
pub record CrewGoesOn {A : Type 0} (c : Behaviour A) (chip : ChipView) (crew : List A) (now : ChipView) (later : List A) : Type 0 where
  pub about : about_in now ≡ about_in chip
  pub table : table_in now ≡ table_in chip
  pub count : length later ≡ length crew
  pub each : (k : ℕ) (d : A) → k < length crew → Later c (slice_index_or crew k d) (slice_index_or later k d)
  pub left : all_left c (about_in chip) later ≤ all_left c (about_in chip) crew

-- one of the workers took a turn. Seven parameters: the workers' conduct, the chip and the crew before and after, which of
-- the crew it was, and what the turn came to.
pub record OneTurn {A : Type 0} (c : Behaviour A) (chip : ChipView) (crew : List A) (at : ℕ) (now : ChipView) (later : List A)
    (came : Rest) : Type 0 where
  pub within : at < length crew
  pub old : A
  pub new : A
  pub here : old ≡ slice_index_or crew at old
  pub is : later ≡ slice_set crew at new
  pub turned : TurnedAtHome c chip at old now new came

-- a worker rests: it has finished, or it was stopped or waits
abbrev pub WorkerRests : {A : Type 0} → Behaviour A → Bool → ChipView → List A → ℕ → A → Type 0
WorkerRests c finished chip crew k d =
    RestsAt finished (about_in chip) (records_in chip) k (c.seen (about_in chip) k (slice_index_or crew k d))

-- the first n workers have finished
abbrev pub AllFinished : {A : Type 0} → Behaviour A → ChipView → List A → ℕ → Type 0
AllFinished {A} c chip crew n = (k : ℕ) (d : A) → k < n → WorkerRests c true chip crew k d

-- the first n workers rest
abbrev pub AllRest : {A : Type 0} → Behaviour A → ChipView → List A → ℕ → Type 0
AllRest {A} c chip crew n = (k : ℕ) (d : A) → k < n → (finished : Bool) × WorkerRests c finished chip crew k d

-- one of the first n workers has not finished
pub record OneUnfinished {A : Type 0} (c : Behaviour A) (chip : ChipView) (crew : List A) (n : ℕ) : Type 0 where
  pub one : ℕ
  pub below : one < n
  pub rests : (d : A) → WorkerRests c false chip crew one d

-- what turns of the first n workers, one after the other, came to. Seven parameters: the workers' conduct, what the turns
-- came to, how many workers took one, and the chip and the crew before and after.
abbrev pub SweptTo : {A : Type 0} → Behaviour A → Rest → ℕ → ChipView → List A → ChipView → List A → Type 0
SweptTo c rest.Moved n chip crew now later = all_left c (about_in chip) later < all_left c (about_in chip) crew
SweptTo c rest.Finished n chip crew now later = AllFinished c now later n
SweptTo c rest.Unfinished n chip crew now later = AllRest c now later n × OneUnfinished c now later n

-- after turns of workers the crew is tied to its chip again, and has gone on
pub record CrewStands {A : Type 0} (c : Behaviour A) (chip : ChipView) (crew : List A) (now : ChipView) (later : List A) : Type 0 where
  pub is_crew : IsCrew c now later
  pub goes : CrewGoesOn c chip crew now later

-- after turns of the first n workers, one after the other, the crew is tied to the chip again, and they came to this. Seven
-- parameters, those of `SweptTo`: a sweep that is not over is one of its first n turns.
pub record SweepStands {A : Type 0} (c : Behaviour A) (came : Rest) (n : ℕ) (chip : ChipView) (crew : List A) (now : ChipView)
    (later : List A) : Type 0 where
  pub stands : CrewStands c chip crew now later
  pub swept : SweptTo c came n chip crew now later

-- how a sweep ends a run: not where a worker moved, and else as finished, or as stuck where one has not finished
abbrev pub end_by : Rest → Option RunEnd
end_by rest.Moved = None
end_by rest.Finished = Some run_end.Finished
end_by rest.Unfinished = Some run_end.Stuck

-- how a run ended: all workers have finished; or all rest, and one has not finished
abbrev pub RunEndedAs : {A : Type 0} → Behaviour A → RunEnd → ChipView → List A → Type 0
RunEndedAs c run_end.Finished chip crew = AllFinished c chip crew (length crew)
RunEndedAs c run_end.Stuck chip crew = AllRest c chip crew (length crew) × OneUnfinished c chip crew (length crew)
