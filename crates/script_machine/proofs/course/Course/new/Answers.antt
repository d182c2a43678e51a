use Rattle.std.proofs.Common.{◌∙◌, ap, sym, subst, List}
use Rattle.script_machine.specs.declared.course.Open.{Open}
use Rattle.script_machine.specs.Walk.{AreOpenAt, left_at}
use Rattle.script_machine.proofs.Walks.IdleLaws.{left-first}
use Rattle.script_machine.proofs.Walks.WalkLaws.{all_left, none_open, marked_by_script}
use Rattle.script_machine.proofs.course.Course.new.Goals as goal

pub settled-stand-requires-clause-opens : goal.settled-stand-requires-clause-opens
settled-stand-requires-clause-opens c =
    let P : List Open → Type 0 = λ r. AreOpenAt c.args.setup c.args.rank c.args.scripts.now.items c.first_of-first.result r in
    subst P (sym c.in_ok-repeats.ensures.items) (none_open c.args.setup c.args.rank c.args.scripts.now.items c.first_of-first.result)

pub returns : goal.returns
returns c =
    let items = c.args.scripts.now.items in
    let first = c.first_of-first.result in
    let left = c.settled-stand.ensures.same ∙ ap (λ (r : List Open). left_at c.args.setup c.args.rank items first r) c.in_ok-repeats.ensures.items
    ∙ left-first c.args.setup c.args.rank items first c.first_of-first.ensures
    ∙ all_left c.args.setup c.args.rank items ∙ marked_by_script c.args.setup c.args.rank c.args.scripts.now c.requires.ranks c.requires.communicators in
    λ i. record { script = c.args.scripts.now; setup = c.args.setup; rank = c.args.rank; left = left i }
