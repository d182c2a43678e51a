use Rattle.std.proofs.Common.{◌≡◌, ℕ, sym, subst}
use Rattle.std.proofs.lemmas.Option.{get_or_from_slice_get}
use Rattle.scc_base.specs.Setups.{SetupView, members_of}
use Rattle.barrier.specs.Flags.{member_at}
use Rattle.barrier.proofs.flags.member.Goals as goal

pub returns-clause-gives : goal.returns-clause-gives
returns-clause-gives g c =
    let found = sym (get_or_from_slice_get (members_of c.setup.result.now c.args.comm c.rank.result) c.args.place c.in-Some.member 0 (sym c.in-Some.ensures.gives)) in
    subst (λ (s : SetupView). c.in-Some.member ≡ member_at s c.args.comm (g.P.Port.sight c.args.port.now).seat.rank c.args.place) c.setup.ensures.gives
    (subst (λ (r : ℕ). c.in-Some.member ≡ member_at c.setup.result.now c.args.comm r c.args.place) c.rank.ensures.gives found)
