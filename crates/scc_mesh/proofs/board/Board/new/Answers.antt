use Rattle.std.proofs.Common.{length, ◌∙◌, ap, sym}
use Rattle.scc_base.specs.Setups.{SetupView}
use Rattle.scc_mesh.specs.SeatViews.{SeatView}
use Rattle.scc_mesh.proofs.ViewLemmas.{newcomer_length}
use Rattle.scc_mesh.proofs.board.Board.new.Goals as goal

pub invariant_of-result : goal.invariant_of-result
invariant_of-result c =
    let about = c.in_ok-space.ensures.about in
    let seat = c.in_ok-space.ensures.seat in
    let looked = c.look.ensures.looked in (
      c.look.ensures.table ∙ seat.0,
      c.look.ensures.held ∙ ap (λ x. x.1) seat.1,
      looked.knows,
      ap (λ (v : SeatView). length v) (looked.view ∙ ap (λ x. x.0) seat.1) ∙ newcomer_length c.args.setup ∙ ap (λ (s : SetupView). s.nue) (sym about),
    )
