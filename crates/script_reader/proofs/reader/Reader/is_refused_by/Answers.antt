use Rattle.std.proofs.Common.{◌∙◌, ◌<◌, arith, subst, sym}
use Rattle.script_rules.specs.Checks.{refuses}
use Rattle.script_reader.specs.Progress.{ReadingSoFar, past}
use Rattle.script_rules.proofs.CheckLemmas.{some_rank-at}
use Rattle.script_reader.proofs.reader.Reader.is_refused_by.Goals as goal

pub returns-then-refuses : goal.returns-then-refuses
returns-then-refuses c =
    let refused = refuses c.args.kind c.args.self.now.nue (past c.args.self.now) c.args.effect.now in
    let below : c.loop-rank.rank < c.self.inside.nue = omega arith in
    let in_range = subst (λ (p : ReadingSoFar). c.loop-rank.rank < p.nue) c.self.view_is below in
    sym (some_rank-at c.args.self.now.nue c.loop-rank.rank c.args.who.now refused in_range (sym c.has.ensures ∙ c.if-has.true) (sym c.refuses.ensures ∙ c.if-refuses.true))
