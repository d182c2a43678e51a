use Rattle.std.proofs.Common.{◌++◌, ◌∙◌, subst, sym}
use Rattle.scc_base.specs.Places.{WordAt, line_of_word}
use Rattle.write_combine.specs.Combining.{handed_out}
use Rattle.lab_reader.specs.Places.{IsInHeap}
use Rattle.lab_plain.specs.Scenes.{say_stores, word_written}
use Rattle.lab_run.specs.Turns.{CoreTurned}
use Rattle.lab_run.proofs.MoveLaws.{may_write, written_turn}
use Rattle.lab_run.proofs.moves.write_word.Goals as goal

pub word_write-requires : goal.word_write-requires
word_write-requires c = record { permitted = may_write c.args.core.now c.args.chip.now (line_of_word c.place-place.result) c.requires.ready }

pub returns : goal.returns
returns c =
    let s = c.args.chip.now in
    let place = c.place-place.result in
    let is = c.place-place.ensures.gives in
    let heap : IsInHeap (line_of_word place) = subst (λ (p : WordAt). IsInHeap (line_of_word p)) (sym is) c.number-word.ensures.valid.0 in
    let prints = c.in_ok-say_handed_out.ensures ∙ (λ i. c.args.said.now.items ++ say_stores s.rank (handed_out c.args.core.now.out (c.line_at.ensures.gives i))) in
    record {
      turned = subst (λ (p : WordAt). CoreTurned (word_written s.rank p c.args.value) c.args.core.now s c.args.said.now.items c.word_write.new.self c.word_write.new.port c.say_handed_out.new.said.items) is
          (written_turn c.args.core.now c.word_write.new.self s c.word_write.new.port place c.args.value c.args.said.now.items c.say_handed_out.new.said.items c.requires.ready heap c.word_write.ensures.writes prints);
    }
