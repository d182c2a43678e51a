use Rattle.std.proofs.Common.{length, remove, ◌∙◌, ap, subst}
use Rattle.put_get.specs.Cores.{Private, Fills}
use Rattle.put_get.proofs.CoreLemmas.{fills_dropped}
use Rattle.put_get.proofs.cores.Core.bring.Goals as goal

pub returns-in-Some-clause-fills : goal.returns-in-Some-clause-fills
returns-in-Some-clause-fills g c =
    let len = c.len-held.ensures.value ∙ ap length c.fill.ensures.lines in
    subst (λ (x : Private). Fills x c.args.line c.args.words (record { lines = c.drop_at.new.self; out = c.self.inside.combiner; evictions = g.V.Evict.count c.drop_one.new.self; asked = g.V.Evict.asked c.drop_one.new.self; answers = g.V.Evict.answers c.drop_one.new.self }))
    c.self.view_is
    (fills_dropped c.self.inside.cache c.drop_at.new.self c.self.inside.combiner (g.V.Evict.count c.self.inside.evict) (g.V.Evict.count c.drop_one.new.self)
    (g.V.Evict.asked c.self.inside.evict) (g.V.Evict.asked c.drop_one.new.self) (g.V.Evict.answers c.self.inside.evict) (g.V.Evict.answers c.drop_one.new.self) c.args.line c.args.words _ c.in-Some.at len
    c.in-Some.ensures.below c.in-Some.ensures.given (c.drop_at.ensures.lines ∙ ap (λ es. remove es c.in-Some.at) c.fill.ensures.lines) c.in-Some.ensures.counted c.in-Some.ensures.once)
