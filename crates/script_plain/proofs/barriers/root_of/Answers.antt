use Rattle.std.proofs.Common.{◌∙◌, sym}
use Rattle.script_plain.proofs.CodeSteps.GroupLaws.{absent_root, past_sixteen}
use Rattle.script_plain.proofs.barriers.root_of.Goals as goal

-- no rule makes the communicator
pub returns-then-comm-ge16 : goal.returns-then-comm-ge16
returns-then-comm-ge16 c =
    let comms = c.args.setup.now.comms in
    c.of.ensures.gives ∙ absent_root comms c.args.comm c.args.rank (past_sixteen comms c.args.comm c.requires.sixteen c.if-comm-ge16.true)

pub returns-in-Absent : goal.returns-in-Absent
returns-in-Absent c =
    c.of-in-Absent.ensures.gives ∙ absent_root c.args.setup.now.comms c.args.comm c.args.rank (sym c.rule.ensures.gives ∙ c.in-Absent.is)
