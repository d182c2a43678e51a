use Rattle.std.proofs.Common.{ℕ, ◌<◌}
use Rattle.script_plain.specs.Facing.{IsAside}
use Rattle.script_plain.proofs.facing.aside_to.Given as goal

abbrev pub invariant-loop-number : goal.invariant-loop-number
invariant-loop-number l = record { aside : (k : ℕ) → k < l.number → IsAside l.ues l.rank l.other k }
