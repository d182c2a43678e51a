use Rattle.std.proofs.Common.{arith, ◌<◌, ◌∙◌, subst, sym, ℕ}
use Rattle.scc_base.specs.Setups.{IsMemberAt}
use Rattle.scc_base.proofs.SetupLemmas.{root_answer, root_low, root_placed}
use Rattle.scc_base.specs.contracts.setups.Setup.{the_view}
use Rattle.scc_base.proofs.setups.Setup.root.Goals as goal

pub of-requires : goal.of-requires
of-requires c =
    let low : c.args.r < 48 = omega (arith, c.number.ensures.gives, c.number.ensures.below) in
    let is = root_answer (the_view c.self.inside) c.args.self.now c.self.view_is c.self.inside.groups c.self.invariant.1 c.args.comm c.args.r
    c.number.result c.requires.comm_below c.number.ensures.gives low in
    record { below = subst (λ (k : ℕ). k < 48) (sym is) (root_low c.args.self.now c.args.comm c.args.r low) }

pub returns-clause-gives : goal.returns-clause-gives
returns-clause-gives c =
    let low : c.args.r < 48 = omega (arith, c.number.ensures.gives, c.number.ensures.below) in
    c.of.ensures.gives ∙ root_answer (the_view c.self.inside) c.args.self.now c.self.view_is c.self.inside.groups c.self.invariant.1 c.args.comm c.args.r
    c.number.result c.requires.comm_below c.number.ensures.gives low

pub returns-clause-placed : goal.returns-clause-placed
returns-clause-placed c =
    subst (λ (k : ℕ). IsMemberAt c.args.self.now c.args.comm c.args.r 0 k) (sym (returns-clause-gives c))
    (root_placed c.args.self.now c.args.comm c.args.r c.requires.rank_below)
