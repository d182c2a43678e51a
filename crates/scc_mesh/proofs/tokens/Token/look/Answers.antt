use Rattle.std.proofs.Common.{sym, subst}
use Rattle.scc_mesh.specs.SeatViews.{IsLoneSeat}
use Rattle.scc_mesh.proofs.AwaySteps.{knows_away}
use Rattle.scc_mesh.proofs.tokens.Token.look.Goals as goal

pub returns-clause-knows : goal.returns-clause-knows
returns-clause-knows c =
    let token = c.self.inside in
    let looked = c.look.ensures.looked in
    let lone = subst (λ me. IsLoneSeat token.rank me) (λ i. (sym looked.view i, sym c.look.ensures.held i)) c.self.invariant in
    knows_away c.args.space.now.about token.rank c.look.new.seat.me token.seat.table_id lone looked.knows
