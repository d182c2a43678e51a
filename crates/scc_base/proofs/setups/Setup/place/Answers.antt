use Rattle.std.proofs.Common.{arith, ◌<◌, subst, sym, ℕ}
use Rattle.scc_base.specs.Setups.{size_of}
use Rattle.scc_base.proofs.SetupLemmas.{place_answer, place_low}
use Rattle.scc_base.specs.contracts.setups.Setup.{the_view}
use Rattle.scc_base.proofs.setups.Setup.place.Goals as goal

pub returns-clause-gives : goal.returns-clause-gives
returns-clause-gives c =
    let low : c.args.r < 48 = omega (arith, c.number.ensures.gives, c.number.ensures.below) in
    place_answer (the_view c.self.inside) c.args.self.now c.self.view_is c.self.inside.groups c.self.invariant.1 c.args.comm c.args.r
    c.number.result c.requires.comm_below c.number.ensures.gives low

pub returns-clause-below : goal.returns-clause-below
returns-clause-below c =
    subst (λ (k : ℕ). k < size_of c.args.self.now c.args.comm c.args.r) (sym (returns-clause-gives c))
    (place_low c.args.self.now c.args.comm c.args.r c.requires.rank_below)
