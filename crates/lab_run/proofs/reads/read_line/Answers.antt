use Rattle.std.proofs.Common.{◌∙◌, ℕ, [], ◌∷◌, ap}
use Rattle.scc_base.specs.Places.{WordAt, word_of_line}
use Rattle.lab_plain.specs.Scenes.{CoreScene, answer, word_read}
use Rattle.lab_run.specs.Turns.{scene_of}
use Rattle.lab_run.proofs.TurnLaws.{turned_at, turned_four, turned_three, turned_two}
use Rattle.lab_run.proofs.reads.read_line.Goals as goal

pub returns-clause-turned : goal.returns-clause-turned
returns-clause-turned c =
    let at = c.args.at in
    let evict = c.args.evict.now in
    let step : ℕ → ℕ → CoreScene → CoreScene = λ k r. word_read r (word_of_line at k) evict in
    turned_four (step 0) (step 1) (step 2) (step 3)
    c.args.core.now c.read_word.new.core c.read_word-2.new.core c.read_word-3.new.core c.read_word-4.new.core
    c.args.chip.now c.read_word.new.chip c.read_word-2.new.chip c.read_word-3.new.chip c.read_word-4.new.chip
    c.args.said.now.items c.read_word.new.said.items c.read_word-2.new.said.items c.read_word-3.new.said.items c.read_word-4.new.said.items
    (turned_at (λ p. word_read c.args.chip.now.rank p evict) _ _ _ _ _ _ _ _ c.word.ensures.gives c.in_ok-first.ensures.turned)
    (turned_at (λ p. word_read c.read_word.new.chip.rank p evict) _ _ _ _ _ _ _ _ c.word-2.ensures.gives c.in_ok-second.ensures.turned)
    (turned_at (λ p. word_read c.read_word-2.new.chip.rank p evict) _ _ _ _ _ _ _ _ c.word-3.ensures.gives c.in_ok-third.ensures.turned)
    (turned_at (λ p. word_read c.read_word-3.new.chip.rank p evict) _ _ _ _ _ _ _ _ c.word-4.ensures.gives c.in_ok-fourth.ensures.turned)

pub returns-clause-answers : goal.returns-clause-answers
returns-clause-answers c =
    let at = c.args.at in
    let evict = c.args.evict.now in
    let start = scene_of c.args.core.now c.args.chip.now c.args.said.now.items in
    let step : ℕ → ℕ → CoreScene → CoreScene = λ k r. word_read r (word_of_line at k) evict in
    let one = turned_at (λ p. word_read c.args.chip.now.rank p evict) _ _ _ _ _ _ _ _ c.word.ensures.gives c.in_ok-first.ensures.turned in
    let two = turned_at (λ p. word_read c.read_word.new.chip.rank p evict) _ _ _ _ _ _ _ _ c.word-2.ensures.gives c.in_ok-second.ensures.turned in
    let three = turned_at (λ p. word_read c.read_word-2.new.chip.rank p evict) _ _ _ _ _ _ _ _ c.word-3.ensures.gives c.in_ok-third.ensures.turned in
    let second = turned_two (step 0) (step 1) _ _ _ _ _ _ _ _ _ one two in
    let third = turned_three (step 0) (step 1) (step 2) _ _ _ _ _ _ _ _ _ _ _ _ one two three in
    let first_is = c.in_ok-first.ensures.answers ∙ ap (λ (p : WordAt). answer p start) c.word.ensures.gives in
    let second_is = c.in_ok-second.ensures.answers ∙ (λ i. answer (c.word-2.ensures.gives i) (one.scene i)) in
    let third_is = c.in_ok-third.ensures.answers ∙ (λ i. answer (c.word-3.ensures.gives i) (second.scene i)) in
    let fourth_is = c.in_ok-fourth.ensures.answers ∙ (λ i. answer (c.word-4.ensures.gives i) (third.scene i)) in
    λ i. first_is i ∷ second_is i ∷ third_is i ∷ fourth_is i ∷ []
