use Rattle.std.proofs.Common.{◌++◌, ◌∙◌, subst, sym, rules}
use Rattle.lab_reader.specs.declared.steps.Action.{Action}
use Rattle.lab_plain.specs.Meaning.{after_action}
use Rattle.lab_plain.specs.Scenes.{say_buffer, say_lines}
use Rattle.lab_run.specs.Turns.{CoreTurned}
use Rattle.lab_run.proofs.MoveLaws.{printed_turn}
use Rattle.lab_run.proofs.acting.act.Goals as goal

pub returns-in_ok-print-in-Print-clause-turned : goal.returns-in_ok-print-in-Print-clause-turned
returns-in_ok-print-in-Print-clause-turned c =
    let core = c.args.core.now in
    let s = c.args.chip.now in
    let said = c.args.said.now.items in
    let end = c.print.new.said.items in
    subst (λ (a : Action). CoreTurned (after_action s.rank a) core s said core s end) (sym c.in-Print.is)
    (printed_turn s.rank core s said end c.requires.ready
    (c.in_ok-print-in-Print.ensures ∙ (λ i. said ++ say_lines (c.own.ensures i) core.lines ++ say_buffer (c.own.ensures i) core.out)))

-- Names the goal, so that the prover rejects a wrong body at once, without a search.
pub returns-in-Invalidate-clause-turned : goal.returns-in-Invalidate-clause-turned
returns-in-Invalidate-clause-turned c = search rules
