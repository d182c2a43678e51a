use Rattle.steps_program.specs.declared.accesses.Kind.TheVariants.{Loads}
use Rattle.steps_program.specs.Steps.{Stepped}
use Rattle.steps_program.proofs.accesses.load_many.Given as goal

abbrev pub invariant-steps : goal.invariant-steps
invariant-steps g l = Stepped (g.P.Port.sight l.fn.port) Loads l.i (g.P.Port.sight l.port)
