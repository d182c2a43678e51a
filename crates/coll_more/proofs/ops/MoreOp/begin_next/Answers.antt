use Rattle.std.proofs.Common.{◌≤◌, Some, None, sym, ap, ◌∙◌, subst}
use Rattle.std.specs.Prelude.{IsTrue}
use Rattle.scc_base.specs.Setups.{SetupView}
use Rattle.coll_more.specs.Ops.{MoreAt}
use Rattle.coll_more.specs.Turns.{is_between}
use Rattle.coll_more.specs.declared.ops.Stage.{Stage}
use Rattle.coll_more.proofs.OpAnswers.{at_between, begun_next, next_here, nothing_left, short_here}
use Rattle.coll_more.proofs.ops.MoreOp.begin_next.Goals as goal

pub begun-self-inside-requires : goal.begun-self-inside-requires
begun-self-inside-requires g c =
    let m : MoreAt = record { more = c.self.inside.more; len = c.self.inside.len; ended = c.self.inside.ended; stage = c.self.inside.stage } in
    record {
      short = short_here m (g.P.Port.sight c.args.port.now) c.in-Some.call c.known.ensures.few c.known.ensures.low (subst (λ (x : MoreAt). x.len ≤ 1024) (sym c.self.view_is) c.requires.short)
          (next_here m (g.P.Port.sight c.args.port.now) c.rank.result c.nue.result (Some c.in-Some.call) c.rank.ensures.gives (c.nue.ensures.gives ∙ ap (λ (x : SetupView). x.nue) c.setup.ensures.gives) c.in-Some.ensures.gives);
    }

pub returns-in-Some-clause-turns : goal.returns-in-Some-clause-turns
returns-in-Some-clause-turns g c =
    let m : MoreAt = record { more = c.self.inside.more; len = c.self.inside.len; ended = c.self.inside.ended; stage = c.self.inside.stage } in
    λ core slot src dst fit. begun_next m c.args.self.now _ (g.P.Port.sight c.args.port.now) core slot src dst fit c.known.ensures.few c.known.ensures.low c.in-Some.call
    (next_here m (g.P.Port.sight c.args.port.now) c.rank.result c.nue.result (Some c.in-Some.call) c.rank.ensures.gives (c.nue.ensures.gives ∙ ap (λ (x : SetupView). x.nue) c.setup.ensures.gives) c.in-Some.ensures.gives)
    (sym c.self.view_is ∙ at_between m (subst (λ (x : MoreAt). IsTrue (is_between x.stage)) (sym c.self.view_is) c.requires.between))
    (ap (λ (x : Stage). record m { stage = x }) c.begun-self-inside.ensures.gives)

pub returns-in-None-clause-turns : goal.returns-in-None-clause-turns
returns-in-None-clause-turns g c =
    let m : MoreAt = record { more = c.self.inside.more; len = c.self.inside.len; ended = c.self.inside.ended; stage = c.self.inside.stage } in
    let before = sym c.self.view_is ∙ at_between m (subst (λ (x : MoreAt). IsTrue (is_between x.stage)) (sym c.self.view_is) c.requires.between) in
    λ core slot src dst fit. nothing_left m c.args.self.now c.args.self.now (g.P.Port.sight c.args.port.now) core slot src dst fit
    (next_here m (g.P.Port.sight c.args.port.now) c.rank.result c.nue.result None c.rank.ensures.gives (c.nue.ensures.gives ∙ ap (λ (x : SetupView). x.nue) c.setup.ensures.gives) c.in-None.ensures.gives) before before
