use Rattle.std.proofs.Common.{arith, ◌<◌, subst, sym, Option, ℕ}
use Rattle.std.specs.Prelude.{◌↔◌, IsSome, IfSome}
use Rattle.scc_base.specs.Setups.{IsMemberAt, size_of}
use Rattle.scc_base.proofs.SetupLemmas.{members_answer, entry_found, entry_placed}
use Rattle.scc_base.specs.contracts.setups.Setup.{the_view}
use Rattle.scc_base.proofs.setups.Setup.member.Goals as goal

pub returns-clause-gives : goal.returns-clause-gives
returns-clause-gives c =
    let low : c.args.r < 48 = omega (arith, c.number.ensures.gives, c.number.ensures.below) in
    members_answer (the_view c.self.inside) c.args.self.now c.self.view_is c.self.inside.groups c.self.invariant.0 c.self.invariant.1 c.args.comm c.args.r
    c.number.result c.args.i c.nth_member.result c.requires.comm_below c.number.ensures.gives low c.nth_member.ensures.gives

pub returns-clause-found : goal.returns-clause-found
returns-clause-found c =
    subst (λ (o : Option ℕ). IsSome o ↔ (c.args.i < size_of c.args.self.now c.args.comm c.args.r)) (sym (returns-clause-gives c))
    (entry_found c.args.self.now c.args.comm c.args.r c.args.i)

pub returns-clause-placed : goal.returns-clause-placed
returns-clause-placed c =
    subst (λ (o : Option ℕ). IfSome o (λ m. IsMemberAt c.args.self.now c.args.comm c.args.r c.args.i m)) (sym (returns-clause-gives c))
    (entry_placed c.args.self.now c.args.comm c.args.r c.args.i)
