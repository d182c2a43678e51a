use Rattle.scc_base.specs.Setups.{SetupView}
use Rattle.script_machine.specs.Passes.{IsFlat}
use Rattle.script_machine.proofs.nestings.is_flat.Given as goal

abbrev pub invariant-loop-at : goal.invariant-loop-at
invariant-loop-at l = (s : SetupView) → IsFlat s l.rank l.scripts.items l.start l.at
