-- The evictor that a run is given: none, or a seeded one.
use Rattle.std.specs.Prelude.{ℕ, Option, None}
use Rattle.line_cache.specs.declared.evict.Choice.{Choice}
use Rattle.line_cache.specs.declared.evict.Choice.TheVariants.{Never, Seeded}
use Rattle.line_cache.specs.Eviction.{seeded_answer, seeded_next}

-- how many entries it has had dropped
abbrev pub choice_count : Choice → ℕ
choice_count Never = 0
choice_count (Seeded e) = e.count

-- what it answers
abbrev pub choice_answer : Choice → ℕ → Option ℕ
choice_answer Never held = None
choice_answer (Seeded e) held = seeded_answer e held

-- the evictor after that answer
abbrev pub choice_next : Choice → ℕ → Choice
choice_next Never held = Never
choice_next (Seeded e) held = Seeded (seeded_next e held)
