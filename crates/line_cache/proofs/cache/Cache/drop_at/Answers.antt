use Rattle.std.proofs.Common.{◌∙◌, ◌<◌, ◌-◌, List, ap, sym, subst, take, remove, length, arith}
use Rattle.line_cache.specs.declared.cache.Entry.{Entry}
use Rattle.line_cache.proofs.PlaceLemmas.{len_first, shifted, marked_removed}
use Rattle.line_cache.proofs.cache.Cache.drop_at.Goals as goal

shorter : goal.returns-clause-lines
shorter c =
    let first = len_first c.self.inside.entries c.self.inside.len c.self.invariant.few in
    let here : c.args.at < length (take c.self.inside.len c.self.inside.entries) = subst (λ (es : List Entry). c.args.at < length es) (sym c.self.view_is) c.requires in
    ap (λ (es : List Entry). take (c.self.inside.len - 1) es) c.copy_within.ensures.after
    ∙ shifted c.self.inside.entries c.self.inside.len c.args.at (omega (arith, first, here)) c.self.invariant.few
    ∙ ap (λ (es : List Entry). remove es c.args.at) c.self.view_is

pub invariant_of-self : goal.invariant_of-self
invariant_of-self c =
    marked_removed c.self.inside.entries c.copy_within.new.self c.self.inside.len c.args.at c.self.inside.marks c.self.inside.pass c.copy_within.ensures.len
    (shorter c ∙ ap (λ (es : List Entry). remove es c.args.at) (sym c.self.view_is)) c.self.invariant

pub returns-clause-lines : goal.returns-clause-lines
returns-clause-lines c = shorter c

pub returns-clause-cache : goal.returns-clause-cache
returns-clause-cache c = (invariant_of-self c).cache
