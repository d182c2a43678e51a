use Rattle.std.proofs.Common.{◌≡◌, sym, ◌∙◌, ap, subst}
use Rattle.scc_mesh.specs.SeatViews.{IsKnown, list_at}
use Rattle.scc_mesh.specs.Scenes.{Scene}
use Rattle.scc_mesh.proofs.AwaySteps.{lone_new, new_list}
use Rattle.scc_mesh.proofs.board.Board.spread.Goals as goal

pub new-requires : goal.new-requires
new-requires c =
    let home = c.self.inside.seat.me.0 in
    let here = subst (λ (b : Scene). IsKnown b.home c.args.rank) (sym c.self.view_is) c.requires.known in
    record { lone = lone_new c.args.rank home c.split-seat.result.me here c.split-seat.ensures.right }

pub returns-clause-token : goal.returns-clause-token
returns-clause-token c =
    let board = c.self.inside in
    let table = c.split-seat.ensures.table.1 ∙ c.self.invariant.0 in
    let list = new_list c.args.rank board.seat.me.0 c.split-seat.result.me c.split-seat.ensures.right in
    let told : c.new.result ≡ record { table = board.space.table; rank = c.args.rank; events = list_at board.seat.me.0 c.args.rank }
    = c.new.ensures.gives ∙ (λ i. record { table = table i; rank = c.args.rank; events = list i }) in
    told ∙ ap (λ (b : Scene). record { table = b.table; rank = c.args.rank; events = list_at b.home c.args.rank }) c.self.view_is
