use Rattle.std.proofs.Common.{sym, ◌∙◌, ap, arith}
use Rattle.scc_mesh.specs.Spaces.{SpaceView}
use Rattle.scc_mesh.proofs.SeatLaws.{join_keeps}
use Rattle.scc_mesh.proofs.space.Space.join.Goals as goal

pub join_seat-requires : goal.join_seat-requires
join_seat-requires c =
    let w = c.self.inside.table.shared in
    let seat = c.args.seat.now in
    let other = c.args.other in
    let here = sym (ap (λ (v : SpaceView). v.table) c.self.view_is) in
    (c.requires.table.0 ∙ here, c.requires.table.1 ∙ here, c.requires.none, omega (arith, c.self.invariant.1), join_keeps w.key seat.id seat.me.0 other.id other.me.0)
