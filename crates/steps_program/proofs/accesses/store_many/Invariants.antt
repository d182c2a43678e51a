use Rattle.scc_proto.specs.IdlePorts.{IsIdle}
use Rattle.steps_program.specs.declared.accesses.Kind.TheVariants.{Stores}
use Rattle.steps_program.specs.Steps.{Stepped}
use Rattle.steps_program.proofs.accesses.store_many.Given as goal

abbrev pub invariant-steps : goal.invariant-steps
invariant-steps g l = Stepped (g.P.Port.sight l.fn.port) Stores l.i (g.P.Port.sight l.port) × IsIdle (g.P.Port.sight l.port)
