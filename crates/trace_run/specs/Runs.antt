-- How a run on one thread with a witness ends (this project's profile).
use Rattle.std.specs.Prelude.{◌≡◌, ℕ, zero, suc, ◌*◌, Bool, false, List, ◌++◌, length, Option, Some, None}
use Rattle.std.specs.List.{range_with_len}
use Rattle.rand_core.specs.Pcg32Seed.{pcg32_seed}
use Rattle.rand_pcg.specs.Lcg.{Lcg}
use Rattle.rand_pcg.specs.Pcg.{pcg32, pcg32_of_seed}
use Rattle.scc_proto.specs.Words.{RankEvent}
use Rattle.scc_mesh.specs.Scenes.{ChipView, about_in, records_in}
use Rattle.chip_run.specs.declared.ends.RunEnd.{RunEnd}
use Rattle.chip_run.specs.declared.runs.Mode.TheVariants as mode
use Rattle.chip_run.specs.Behaves.{Behaviour}
use Rattle.chip_run.specs.Crews.{AllRest, RunEndedAs}
use Rattle.chip_run.specs.Orders.{TurnsOf, drawn_in, named_ranks, ranks_by}
use Rattle.chip_run.specs.Runs.{InOrder}
use Rattle.chip_run.specs.Waiting.{NoneDrafts}
use Rattle.trace_run.specs.Seen.{ToldAll}

-- a run on one thread is over: each worker rests, it has ended so, a rank that has no call open is in the midst of nothing, and
-- the turns were those of the ranks that the seed's generator names, with a sweep behind each round. Seven parameters: the
-- workers' conduct, the seed, the end that the run told, and the chip and the crew before and after.
pub record RunsToEnd {A : Type 0} (c : Behaviour A) (seed : ℕ) (end : RunEnd) (chip : ChipView) (crew : List A) (now : ChipView)
    (later : List A) : Type 0 where
  pub rests : AllRest c now later (length later)
  pub answer : RunEndedAs c end now later
  pub no_draft : NoneDrafts (about_in now) (records_in now)
  pub order : InOrder c (mode.Serial seed) chip crew now later

-- So many rounds were made on one thread, each of the ranks that the generator names, with a sweep of all ranks after it. Before
-- each of them the witness wanted to be told more than the events that the chip had then. Eight parameters: the workers' conduct,
-- after which events the witness wanted to be told more, the generator and the number of rounds, and the chip and the crew before
-- and after.
abbrev pub RoundsHeard : {A : Type 0} → Behaviour A → (List RankEvent → Type 0) → Lcg → ℕ → ChipView → List A → ChipView → List A
    → Type 0
RoundsHeard c wanted picks zero chip crew now later = (now ≡ chip) × (later ≡ crew)
RoundsHeard {A} c wanted picks (suc n) chip crew now later =
    (mid : ChipView) × (some : List A) × RoundsHeard c wanted picks n chip crew mid some × ∥ ToldAll wanted mid ∥₁
    × TurnsOf c (named_ranks pcg32 (length crew) (1000 * length crew) (drawn_in pcg32 (length crew) n picks)
    ++ range_with_len 0 (length crew)) mid some now later

-- a run ended before its time, after some of its rounds: its witness does not want to be told more, and wanted it before each of
-- them. Eight parameters: the workers' conduct, whether the witness listens and after which events it wanted more, the seed, and
-- the chip and the crew before and after.
pub record RunsInPart {A : Type 0} (c : Behaviour A) (listens : Bool) (wanted : List RankEvent → Type 0) (seed : ℕ) (chip : ChipView)
    (crew : List A) (now : ChipView) (later : List A) : Type 0 where
  pub deaf : listens ≡ false
  pub rounds : ℕ
  pub order : TurnsOf c (ranks_by pcg32 (length crew) rounds (pcg32_of_seed (pcg32_seed 16 seed))) chip crew now later
  pub heard : RoundsHeard c wanted (pcg32_of_seed (pcg32_seed 16 seed)) rounds chip crew now later

-- a run went to its end, in one round at least, and the witness wanted to be told more before each of them. Eight parameters:
-- those of `RunsToEnd`, and after which events the witness wanted more.
pub record RunsHeard {A : Type 0} (c : Behaviour A) (wanted : List RankEvent → Type 0) (seed : ℕ) (end : RunEnd) (chip : ChipView)
    (crew : List A) (now : ChipView) (later : List A) : Type 0 where
  pub ran : RunsToEnd c seed end chip crew now later
  pub more : ℕ
  pub heard : RoundsHeard c wanted (pcg32_of_seed (pcg32_seed 16 seed)) (suc more) chip crew now later

-- how a run with a witness ended. Nine parameters: those of `RunsInPart`, and the end that the run told, if it came to one.
abbrev pub RunsBy : {A : Type 0} → Behaviour A → Bool → (List RankEvent → Type 0) → ℕ → Option RunEnd → ChipView → List A → ChipView
    → List A → Type 0
RunsBy c listens wanted seed (Some end) chip crew now later = RunsHeard c wanted seed end chip crew now later
RunsBy c listens wanted seed None chip crew now later = RunsInPart c listens wanted seed chip crew now later
