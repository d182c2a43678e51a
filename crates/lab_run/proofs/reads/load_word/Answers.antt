use Rattle.std.proofs.Common.{◌++◌, ◌∷◌, [], ◌∙◌, ap, slice_index, sym}
use Rattle.scc_base.specs.Places.{LineAt}
use Rattle.line_cache.specs.Lines.{cached_words}
use Rattle.lab_plain.specs.declared.said.Said.TheVariants.{Answers, Loads}
use Rattle.lab_plain.specs.declared.said.Source.TheVariants.{Words}
use Rattle.lab_plain.specs.Scenes.{line_in, say_left}
use Rattle.lab_run.specs.Turns.{memory_in}
use Rattle.lab_run.proofs.MoveLaws.{loaded_turn}
use Rattle.lab_run.proofs.reads.load_word.Goals as goal

pub load_line-left-requires-clause-new : goal.load_line-left-requires-clause-new
load_line-left-requires-clause-new c = ap (λ (l : LineAt). cached_words c.args.core.now.lines l) c.line.ensures.gives ∙ c.requires.new

pub returns-clause-turned : goal.returns-clause-turned
returns-clause-turned c =
    let got = c.load_line-left.ensures.loads in
    let words = c.load_line-left.result.words in
    let left = c.load_line-left.result.left in
    let evict = c.args.evict.now in
    let same_line = c.line-3.ensures.gives ∙ c.line-2.ensures.gives ∙ sym c.line.ensures.gives in
    loaded_turn evict c.args.core.now c.load_line-left.new.core c.args.chip.now c.load_line-left.new.chip c.args.at c.line.result words left c.args.said.now.items c.say_evicted.new.said.items
    c.line.ensures.gives got.words got.left got.lines got.memory got.out got.ready got.kept got.makes
    (c.in_ok-say_evicted.ensures
    ∙ (λ i. c.in_ok-answer.ensures i ++ say_left evict left)
    ∙ (λ i. c.in_ok-push.ensures.items i ++ Answers c.args.at (slice_index words (c.number.ensures.gives i)) Words ∷ [] ++ say_left evict left)
    ∙ (λ i. c.args.said.now.items ++ Loads (c.own.ensures i) (same_line i) words ∷ [] ++ Answers c.args.at (slice_index words c.args.at.word) Words ∷ [] ++ say_left evict left))

pub returns-clause-answers : goal.returns-clause-answers
returns-clause-answers c =
    (λ i. slice_index (c.load_line-left.ensures.loads.words i) (c.number.ensures.gives i))
    ∙ ap (λ (l : LineAt). slice_index (line_in (memory_in c.args.chip.now) l) c.args.at.word) c.line.ensures.gives
