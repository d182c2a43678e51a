-- Events that store nothing: what a rank does that only looks.
use Rattle.std.specs.Prelude.{ℕ, ◌==◌, Bool, true, false}
use Rattle.scc_base.specs.declared.events.Access.{Access}
use Rattle.scc_base.specs.declared.events.Access.TheVariants.{Load, Take}
use Rattle.scc_base.specs.declared.events.Event.{Event}

-- a load, or a take that found the register taken
abbrev pub is_resting_by : Access → ℕ → Bool
is_resting_by Load value = true
is_resting_by Take value = value == 0
is_resting_by access value = false

-- an event that a waiting turn may make: it stores nothing, frees nothing and takes no register
abbrev pub is_resting : Event → Bool
is_resting e = is_resting_by e.access e.value
