use Rattle.std.proofs.Common.{◌++◌, ◌∙◌, ap}
use Rattle.lab_plain.specs.Scenes.{CoreScene, line_in, say_got}
use Rattle.lab_run.proofs.MoveLaws.{got_turn}
use Rattle.lab_run.proofs.TurnLaws.{rank_kept}
use Rattle.lab_run.proofs.moves.get.Goals as goal

pub returns-clause-turned : goal.returns-clause-turned
returns-clause-turned c =
    let got = c.get_line-words.ensures in
    got_turn c.args.core.now c.flush.new.core c.get_line-words.new.core c.args.chip.now c.flush.new.chip c.get_line-words.new.chip c.args.said.now.items c.flush.new.said.items c.say_got.new.said.items c.args.at c.get_line-words.result
    c.in_ok-flush.ensures.turned got.words got.lines got.memory got.empty got.ready got.kept got.makes
    (c.in_ok-say_got.ensures ∙ (λ i. c.flush.new.said.items ++ say_got ((c.own.ensures ∙ rank_kept c.flush.new.chip c.get_line-words.new.chip got.kept) i) c.args.at c.get_line-words.result))

pub returns-clause-answers : goal.returns-clause-answers
returns-clause-answers c = c.get_line-words.ensures.words ∙ ap (λ (x : CoreScene). line_in x.memory c.args.at) c.in_ok-flush.ensures.turned.scene
