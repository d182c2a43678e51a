use Rattle.std.proofs.Common.{sym, ◌∙◌, ap, subst, arith}
use Rattle.atomic_table.specs.Table.{Splits}
use Rattle.scc_mesh.specs.SeatViews.{events_of_rank, without, lone_view}
use Rattle.scc_mesh.specs.Keeping.{KeepsRule}
use Rattle.scc_mesh.specs.Spaces.{SpaceView}
use Rattle.scc_mesh.proofs.SeatLaws.{split_keeps}
use Rattle.scc_mesh.proofs.space.Space.split_as.Goals as goal

pub split_seat-requires : goal.split_seat-requires
split_seat-requires g c =
    let w = c.self.inside.table.shared in
    let seat = c.args.seat.now in (
      c.requires.table ∙ sym (ap (λ (v : SpaceView). v.table) c.self.view_is),
      omega (arith, c.self.invariant.1),
      subst (λ r. Splits {S = Unit {0}} (KeepsRule w.key) seat.id seat.me.0 (without seat.me.0 r) (lone_view r (events_of_rank seat.me.0 r))) (sym c.requires.aim)
          (split_keeps w.key seat.id seat.me.0 c.args.rank c.requires.known),
    )
