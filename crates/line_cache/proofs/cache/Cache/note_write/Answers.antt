use Rattle.std.proofs.Common.{◌≡◌, ◌∙◌, List, None, Some, ap, sym, subst}
use Rattle.std.proofs.lemmas.List.{length-set}
use Rattle.scc_base.specs.Places.{LineAt}
use Rattle.line_cache.specs.declared.cache.Entry.{Entry}
use Rattle.line_cache.specs.Lines.{cached_words, lines_with_word, IsPlaceOf}
use Rattle.line_cache.proofs.LineLemmas.{noted_none}
use Rattle.line_cache.proofs.PlaceLemmas.{word_noted, marked_noted}
use Rattle.line_cache.proofs.cache.Cache.note_write.Goals as goal

pub invariant_of-self : goal.invariant_of-self
invariant_of-self c =
    marked_noted c.self.inside.entries _ c.self.inside.len c.self.inside.marks c.self.inside.pass c.args.place c.args.value (length-set c.self.inside.entries c.in-Some.at _)
    (word_noted c.self.inside.entries c.self.inside.len c.in-Some.at c.line_at.result c.index-self-at.result c.self.invariant.cache c.self.invariant.few
    (subst (λ (es : List Entry). IsPlaceOf es c.line_at.result (Some c.in-Some.at)) (sym c.self.view_is) c.in-Some.ensures.place) c.index-self-at.is
    c.args.place c.from.result c.args.value (sym c.line_at.ensures.gives) (c.from.ensures ∙ c.word.ensures.gives)) c.self.invariant

pub returns-in-Some-clause-lines : goal.returns-in-Some-clause-lines
returns-in-Some-clause-lines c =
    word_noted c.self.inside.entries c.self.inside.len c.in-Some.at c.line_at.result c.index-self-at.result c.self.invariant.cache c.self.invariant.few
    (subst (λ (es : List Entry). IsPlaceOf es c.line_at.result (Some c.in-Some.at)) (sym c.self.view_is) c.in-Some.ensures.place) c.index-self-at.is
    c.args.place c.from.result c.args.value (sym c.line_at.ensures.gives) (c.from.ensures ∙ c.word.ensures.gives)
    ∙ ap (λ (es : List Entry). lines_with_word es c.args.place c.args.value) c.self.view_is

pub returns-in-Some-clause-cache : goal.returns-in-Some-clause-cache
returns-in-Some-clause-cache c = (invariant_of-self c).cache

pub returns-in_default-clause-lines : goal.returns-in_default-clause-lines
returns-in_default-clause-lines c =
    sym (noted_none c.args.self.now c.args.place c.args.value (subst (λ (l : LineAt). cached_words c.args.self.now l ≡ None) c.line_at.ensures.gives c.in_default.ensures.place))
