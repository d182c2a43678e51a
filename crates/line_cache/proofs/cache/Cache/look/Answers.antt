use Rattle.std.proofs.Common.{◌∙◌, List, Some, ap, sym, subst}
use Rattle.line_cache.specs.declared.cache.Entry.{Entry}
use Rattle.line_cache.specs.Lines.{cached_words, IsPlaceOf}
use Rattle.line_cache.proofs.PlaceLemmas.{words_there}
use Rattle.line_cache.proofs.cache.Cache.look.Goals as goal

pub returns-in-Some : goal.returns-in-Some
returns-in-Some c =
    words_there c.self.inside.entries c.self.inside.len c.in-Some.at c.args.line c.index-self-at.result c.self.invariant.cache c.self.invariant.few
    (subst (λ (es : List Entry). IsPlaceOf es c.args.line (Some c.in-Some.at)) (sym c.self.view_is) c.in-Some.ensures.place) c.index-self-at.is
    ∙ ap (λ (es : List Entry). cached_words es c.args.line) c.self.view_is
