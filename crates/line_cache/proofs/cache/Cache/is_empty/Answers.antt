use Rattle.std.proofs.Common.{◌≡◌, ◌∙◌, ◌==◌, ap, sym, length}
use Rattle.std.proofs.lemmas.List.{length-take-le}
use Rattle.line_cache.proofs.cache.Cache.is_empty.Goals as goal

pub returns : goal.returns
returns c =
    let len : c.self.inside.len ≡ length c.args.self.now
    = sym (length-take-le c.self.inside.len c.self.inside.entries c.self.invariant.few) ∙ ap length c.self.view_is in
    ap (λ n. n == 0) len
