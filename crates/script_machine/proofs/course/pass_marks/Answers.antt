use Rattle.std.proofs.Common.{◌∙◌, ap, sym}
use Rattle.script_rules.specs.declared.effect.Nesting.{Nesting}
use Rattle.script_machine.specs.Walk.{passed_to, repeats_after_marks}
use Rattle.script_machine.proofs.Walks.StandLaws.{open_on, passed_on}
use Rattle.script_machine.proofs.Walks.WalkLaws.{closing}
use Rattle.script_machine.proofs.course.pass_marks.Goals as goal

pub returns-then-closes-clause-to : goal.returns-then-closes-clause-to
returns-then-closes-clause-to c n is =
    c.close.ensures.to ∙ sym (ap (λ (n : Nesting). passed_to n c.args.at c.args.end c.args.repeats.now.items) (closing n (sym is ∙ c.if-closes.true)).1)

pub returns-then-closes-clause-left : goal.returns-then-closes-clause-left
returns-then-closes-clause-left c n is =
    c.close.ensures.left ∙ sym (ap (λ (n : Nesting). repeats_after_marks n c.args.repeats.now.items) (closing n (sym is ∙ c.if-closes.true)).1)

pub returns-else-closes-clause-to : goal.returns-else-closes-clause-to
returns-else-closes-clause-to c n is = sym (passed_on n c.args.at c.args.end c.args.repeats.now.items (sym is ∙ c.if-closes.false))

pub returns-else-closes-clause-left : goal.returns-else-closes-clause-left
returns-else-closes-clause-left c n is = sym (open_on n c.args.repeats.now.items (sym is ∙ c.if-closes.false))
