use Rattle.std.proofs.Common.{ℕ, slice_index}
use Rattle.scc_base.specs.Places.{word_of_line}
use Rattle.lab_plain.specs.Scenes.{CoreScene, word_written}
use Rattle.lab_run.proofs.TurnLaws.{on_ok, turned_at, turned_four}
use Rattle.lab_run.proofs.moves.write_line.Goals as goal

pub returns : goal.returns
returns c =
    let at = c.args.at in
    let words = c.args.words.now in
    let step : ℕ → ℕ → CoreScene → CoreScene = λ k r. word_written r (word_of_line at k) (slice_index words k) in
    record {
      turned = on_ok c.write_word-4.result
          (λ then. turned_four (step 0) (step 1) (step 2) (step 3)
          c.args.core.now c.write_word.new.core c.write_word-2.new.core c.write_word-3.new.core c.write_word-4.new.core
          c.args.chip.now c.write_word.new.chip c.write_word-2.new.chip c.write_word-3.new.chip c.write_word-4.new.chip
          c.args.said.now.items c.write_word.new.said.items c.write_word-2.new.said.items c.write_word-3.new.said.items c.write_word-4.new.said.items
          (turned_at (λ p. word_written c.args.chip.now.rank p (slice_index words 0)) _ _ _ _ _ _ _ _ c.word.ensures.gives c.in_ok-write_word.ensures.turned)
          (turned_at (λ p. word_written c.write_word.new.chip.rank p (slice_index words 1)) _ _ _ _ _ _ _ _ c.word-2.ensures.gives c.in_ok-write_word-2.ensures.turned)
          (turned_at (λ p. word_written c.write_word-2.new.chip.rank p (slice_index words 2)) _ _ _ _ _ _ _ _ c.word-3.ensures.gives c.in_ok-write_word-3.ensures.turned)
          (turned_at (λ p. word_written c.write_word-3.new.chip.rank p (slice_index words 3)) _ _ _ _ _ _ _ _ c.word-4.ensures.gives then))
          c.write_word-4.ensures.turned;
    }
