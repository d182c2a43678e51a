use Rattle.std.proofs.Common.{◌∙◌, ap, sym, Some}
use Rattle.script_machine.specs.Program.{part_of}
use Rattle.script_machine.proofs.ProgramLengths.BegunLaws.{steps_made}
use Rattle.script_machine.proofs.Walks.WalkLaws.{part_called}
use Rattle.script_machine.proofs.statements.take_part.Goals as goal

pub begins-begun-requires : goal.begins-begun-requires
begins-begun-requires c = (steps_made c.args.setup.now c.args.rank c.args.call.coll c.args.k c.requires).0

pub step-requires-clause-callable : goal.step-requires-clause-callable
step-requires-clause-callable c = (steps_made c.args.setup.now c.args.rank c.args.call.coll c.args.k c.requires).0

pub step-requires-clause-step_below : goal.step-requires-clause-step_below
step-requires-clause-step_below c = (steps_made c.args.setup.now c.args.rank c.args.call.coll c.args.k c.requires).1

pub returns-clause-same : goal.returns-clause-same
returns-clause-same c =
    part_called c.args.setup.now c.args.rank c.args.call.coll c.args.call.operands c.args.k c.step.result c.requires c.step.ensures.gives
    ∙ ap Some (sym (c.part.ensures.same ∙ ap (λ b. part_of c.args.call.operands b c.step.result) c.begins-begun.ensures))
