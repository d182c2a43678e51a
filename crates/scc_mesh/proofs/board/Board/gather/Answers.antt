use Rattle.std.proofs.Common.{Some, slice_set, ◌<◌, ◌∙◌, ap, subst}
use Rattle.scc_mesh.specs.SeatViews.{joined_seats}
use Rattle.scc_mesh.specs.Scenes.{Scene}
use Rattle.scc_mesh.proofs.AwaySteps.{gathered, gathered_below, gathered_known, gathered_ranks}
use Rattle.scc_mesh.proofs.board.Board.gather.Goals as goal

pub invariant_of-self : goal.invariant_of-self
invariant_of-self c =
    let board = c.self.inside in
    let was = c.self.invariant in
    let token = c.args.token in
    let looked = c.look.ensures.looked in
    let is = looked.view ∙ ap (λ me. me.0) c.join.ensures.both ∙ ap (λ me. joined_seats board.seat.me.0 me.0) c.into_seat.ensures.lone in (
      c.look.ensures.table ∙ c.join.ensures.table ∙ was.0,
      c.look.ensures.held ∙ ap (λ me. me.1) c.join.ensures.both ∙ was.1,
      looked.knows,
      gathered_ranks board.space.about board.seat.me.0 token.rank token.events c.look.new.seat.me.0 is looked.knows was.3,
    )

pub returns : goal.returns
returns c =
    let board = c.self.inside in
    let was = c.self.invariant in
    let token = c.args.token in
    let looked = c.look.ensures.looked in
    let is = looked.view ∙ ap (λ me. me.0) c.join.ensures.both ∙ ap (λ me. joined_seats board.seat.me.0 me.0) c.into_seat.ensures.lone in
    let home = gathered board.space.about board.seat.me.0 token.rank token.events c.look.new.seat.me.0 is looked.knows was.3 in
    let below = gathered_below board.space.about board.seat.me.0 token.rank token.events c.look.new.seat.me.0 is looked.knows was.3 in
    record {
      board = (λ i. record { about = board.space.about; table = board.space.table; home = home i }) ∙ ap (λ (b : Scene). record b { home = slice_set b.home token.rank (Some token.events) }) c.self.view_is;
      home = gathered_known board.space.about board.seat.me.0 token.rank token.events c.look.new.seat.me.0 is looked.knows was.3;
      below = subst (λ (b : Scene). token.rank < b.about.nue) c.self.view_is below;
    }
