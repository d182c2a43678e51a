-- The evictor that a rank's core is given.
use Rattle.std.specs.Prelude.{◌≡◌, ℕ, ◌+◌, ◌<◌, List, Option, None, Some, length, slice_index_or}
use Rattle.rand_pcg.specs.Pcg.{pcg32_of_seed}
use Rattle.rand_core.specs.Pcg32Seed.{pcg32_seed}
use Rattle.line_cache.specs.Choices.{choice_answer}
use Rattle.line_cache.specs.Eviction.{answers_of}
use Rattle.line_cache.specs.declared.evict.Choice.{Choice}
use Rattle.line_cache.specs.declared.evict.Choice.TheVariants.{Never, Seeded}
use Rattle.rcce_ue.specs.Ues.{UeView}
use Rattle.chip_run.specs.declared.members.Member.{Member}

-- the evictor of a rank: with a seed the one that the seed and the rank start, and else one that never evicts
abbrev pub evictor_of : Option ℕ → ℕ → Choice
evictor_of None rank = Never
evictor_of (Some seed) rank = Seeded (record { generator = pcg32_of_seed (pcg32_seed 16 (seed + rank)); count = 0 })

-- the core of each member answers now what the evictor of the seed and its rank answers, whatever number of lines is held
pub record HaveEvictors (seed : Option ℕ) (crew : List (Member UeView)) : Type 0 where
  pub each : (rank : ℕ) (d : Member UeView) → rank < length crew
      → (slice_index_or crew rank d).worker.core.answers ≡ answers_of (choice_answer (evictor_of seed rank))
