use Rattle.std.proofs.Common.{◌∙◌, ap, sym, length}
use Rattle.std.proofs.lemmas.List.{length-take-le}
use Rattle.line_cache.proofs.cache.Cache.len.Goals as goal

pub returns-clause-value : goal.returns-clause-value
returns-clause-value c = sym (length-take-le c.self.inside.len c.self.inside.entries c.self.invariant.few) ∙ ap length c.self.view_is
