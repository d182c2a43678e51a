use Rattle.std.proofs.Common.{◌∙◌, sym}
use Rattle.script_machine.proofs.Walks.WalkLaws.{as_many_prims, one_mark}
use Rattle.script_machine.proofs.course.count_at.Goals as goal

pub returns-then-closes : goal.returns-then-closes
returns-then-closes c = sym (one_mark c.args.setup.now c.args.rank c.args.item.now (sym c.requires.closes ∙ c.if-closes.true))

pub returns : goal.returns
returns c = c.count_prims.ensures ∙ sym (as_many_prims c.args.setup.now c.args.rank c.args.item.now (sym c.requires.closes ∙ c.if-closes.false))
