use Rattle.std.proofs.Common.{◌∙◌, ◌∷◌, ◌++◌, [], ℕ, List, ap, not, slice_index, subst}
use Rattle.scc_base.specs.Places.{LineAt, line_of_word}
use Rattle.line_cache.specs.declared.cache.Entry.{Entry}
use Rattle.line_cache.specs.Lines.{IsPlaceOf}
use Rattle.put_get.specs.Cores.{Fetch}
use Rattle.chip_memory.specs.Chips.{turn_sight}
use Rattle.lab_plain.specs.declared.said.Said.TheVariants.{Answers}
use Rattle.lab_plain.specs.declared.said.Source.TheVariants.{Cache}
use Rattle.lab_plain.specs.Scenes.{line_in}
use Rattle.lab_run.specs.Turns.{memory_in}
use Rattle.lab_run.proofs.EvictLaws.{words_held}
use Rattle.lab_run.proofs.MoveLaws.{cached_answer, cached_turn}
use Rattle.lab_run.proofs.reads.fetch_word.Goals as goal

pub returns-clause-turned : goal.returns-clause-turned
returns-clause-turned c =
    let line = c.line-line.ensures.gives ∙ c.line.ensures.gives in
    let place = subst (λ (l : LineAt). IsPlaceOf c.args.core.now.lines l c.place_of.result) line (subst (λ (es : List Entry). IsPlaceOf es c.line-line.result c.place_of.result) c.lines.ensures.lines c.place_of.ensures) in
    let kept = words_held c.args.core.now.lines (line_of_word c.args.at) c.place_of.result (c.is_none.ensures ∙ ap not c.if-is_none.false) place in
    let fetch = subst (λ (l : LineAt). Fetch (turn_sight c.args.chip.now) c.args.core.now l c.fetch-words.result (turn_sight c.fetch-words.new.port) c.fetch-words.new.self) line c.fetch-words.ensures.fetch in
    cached_turn c.args.core.now c.fetch-words.new.self c.args.chip.now c.fetch-words.new.port c.args.at c.args.evict.now c.fetch-words.result kept.0 c.args.said.now.items c.answer.new.said.items c.requires.ready kept.1 fetch
    (c.in_ok-answer.ensures ∙ (λ i. c.args.said.now.items ++ Answers c.args.at (slice_index c.fetch-words.result (c.number.ensures.gives i)) Cache ∷ []))

pub returns-clause-answers : goal.returns-clause-answers
returns-clause-answers c =
    let line = c.line-line.ensures.gives ∙ c.line.ensures.gives in
    let place = subst (λ (l : LineAt). IsPlaceOf c.args.core.now.lines l c.place_of.result) line (subst (λ (es : List Entry). IsPlaceOf es c.line-line.result c.place_of.result) c.lines.ensures.lines c.place_of.ensures) in
    let kept = words_held c.args.core.now.lines (line_of_word c.args.at) c.place_of.result (c.is_none.ensures ∙ ap not c.if-is_none.false) place in
    let fetch = subst (λ (l : LineAt). Fetch (turn_sight c.args.chip.now) c.args.core.now l c.fetch-words.result (turn_sight c.fetch-words.new.port) c.fetch-words.new.self) line c.fetch-words.ensures.fetch in
    ap (λ (k : ℕ). slice_index c.fetch-words.result k) c.number.ensures.gives
    ∙ cached_answer c.args.core.now c.fetch-words.new.self c.args.chip.now c.fetch-words.new.port c.args.at c.fetch-words.result kept.0 (line_in (memory_in c.args.chip.now) (line_of_word c.args.at)) kept.1 fetch
