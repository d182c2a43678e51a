use Rattle.std.proofs.Common.{◌∙◌, ap, sym}
use Rattle.groups.specs.Collectives.{steps_of}
use Rattle.groups.specs.declared.collectives.Coll.{Coll}
use Rattle.script_machine.specs.Program.{begins}
use Rattle.script_machine.proofs.ProgramLengths.BegunLaws.{cast_begins}
use Rattle.script_machine.proofs.statements.begins.Goals as goal

pub returns-in-Bcast : goal.returns-in-Bcast
returns-in-Bcast c =
    sym (ap (λ (x : Coll). begins (steps_of c.args.setup.now c.args.rank x)) c.in-Bcast.is ∙ cast_begins c.args.setup.now c.args.rank c.in-Bcast.comm c.in-Bcast.root c.in-Bcast.len)
