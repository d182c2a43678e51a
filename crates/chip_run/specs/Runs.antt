-- How the rounds of a run go on, in threads and on one thread (this project's profile).
use Rattle.std.specs.Prelude.{◌≡◌, ℕ, zero, suc, ◌*◌, ◌<◌, List, length, slice_index_or}
use Rattle.std.specs.List.{range_with_len}
use Rattle.rand_core.specs.Pcg32Seed.{pcg32_seed}
use Rattle.rand_pcg.specs.Pcg.{pcg32, pcg32_of_seed}
use Rattle.scc_mesh.specs.Scenes.{ChipView, about_in}
use Rattle.chip_run.specs.declared.runs.Mode.{Mode}
use Rattle.chip_run.specs.declared.runs.Mode.TheVariants as mode
use Rattle.chip_run.specs.declared.runs.Rounds.{Rounds}
use Rattle.chip_run.specs.declared.runs.Rounds.TheVariants as rounds
use Rattle.chip_run.specs.Away.{TookSlice}
use Rattle.chip_run.specs.Crews.{CrewStands}
use Rattle.chip_run.specs.Orders.{TurnsOf, generator_after, drawn_in, named_ranks, ranks_by}
use Rattle.chip_run.specs.Behaves.{Behaviour}

-- how the rounds of a run are made: in threads, or by one generator, made of the seed, that serves the whole run
abbrev pub rounds_of : Mode → Rounds
rounds_of mode.Threads = rounds.InThreads
rounds_of (mode.Serial seed) = rounds.Picked (pcg32_of_seed (pcg32_seed 16 seed))

-- the rounds are in threads
abbrev pub IsInThreads : Rounds → Type 0
IsInThreads rounds.InThreads = Unit {0}
IsInThreads (rounds.Picked picks) = ⊥

-- a round in threads: each worker took a row of turns, and the crew is tied to the chip again
pub record TookSlices {A : Type 0} (c : Behaviour A)
    (chip : ChipView) (crew : List A) (now : ChipView) (later : List A) : Type 0 where
  pub stands : CrewStands c chip crew now later
  pub slices : (k : ℕ) (d : A) → k < length crew → TookSlice c (about_in chip) k (slice_index_or crew k d) (slice_index_or later k d)

-- n rounds in threads, with a sweep of all ranks in their order behind each one
abbrev pub SlicesTo : {A : Type 0} → Behaviour A → ℕ → ChipView → List A → ChipView → List A → Type 0
SlicesTo c zero chip crew now later = (now ≡ chip) × (later ≡ crew)
SlicesTo {A} c (suc n) chip crew now later =
    (one : ChipView) × (some : List A) × (two : ChipView) × (more : List A) × SlicesTo c n chip crew one some
    × TookSlices c one some two more × TurnsOf c (range_with_len 0 (length more)) two more now later

-- a round: in threads a row of turns of each worker, on one thread a thousand turns for each rank, of the ranks that the
-- generator's next words name. Seven parameters: the workers' conduct, and the order of the turns, the chip and the crew,
-- each before and after.
abbrev pub NextRound : {A : Type 0} → Behaviour A
    → Rounds → Rounds → ChipView → List A → ChipView → List A → Type 0
NextRound c rounds.InThreads new chip crew now later = (new ≡ rounds.InThreads) × TookSlices c chip crew now later
NextRound c (rounds.Picked picks) new chip crew now later =
    (new ≡ rounds.Picked (generator_after pcg32 (1000 * length crew) picks))
    × TurnsOf c (named_ranks pcg32 (length crew) (1000 * length crew) picks) chip crew now later

-- n rounds, with a sweep of all ranks in their order behind each one. Eight parameters: those of `NextRound`, and n.
abbrev pub RoundsTo : {A : Type 0} → Behaviour A
    → Rounds → ℕ → Rounds → ChipView → List A → ChipView → List A → Type 0
RoundsTo c rounds.InThreads n new chip crew now later = (new ≡ rounds.InThreads) × SlicesTo c n chip crew now later
RoundsTo c (rounds.Picked picks) n new chip crew now later =
    (new ≡ rounds.Picked (drawn_in pcg32 (length crew) n picks)) × TurnsOf c (ranks_by pcg32 (length crew) n picks) chip crew now later

-- on one thread the turns of a run were those of the ranks that the generator of the seed names, in threads each worker took a
-- row of turns in each round, in whatever order; and behind each round there was a sweep of all ranks in their order
abbrev pub InOrder : {A : Type 0} → Behaviour A → Mode → ChipView → List A → ChipView → List A → Type 0
InOrder c mode.Threads chip crew now later = (n : ℕ) × SlicesTo c n chip crew now later
InOrder {A} c (mode.Serial seed) chip crew now later =
    (n : ℕ) × TurnsOf c (ranks_by pcg32 (length crew) n (pcg32_of_seed (pcg32_seed 16 seed))) chip crew now later
