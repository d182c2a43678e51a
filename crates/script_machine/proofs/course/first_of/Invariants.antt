use Rattle.script_machine.specs.Depths.{IsIdleTo}
use Rattle.script_machine.proofs.course.first_of.Given as goal

abbrev pub invariant-loop-at : goal.invariant-loop-at
invariant-loop-at l = IsIdleTo l.rank l.scripts.items l.at
