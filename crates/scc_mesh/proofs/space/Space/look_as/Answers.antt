use Rattle.std.proofs.Common.{sym, ◌∙◌, ap, arith}
use Rattle.scc_mesh.specs.Spaces.{SpaceView}
use Rattle.scc_mesh.proofs.Allowed.{allowed_look}
use Rattle.scc_mesh.proofs.space.Space.look_as.Goals as goal

pub load-requires : goal.load-requires
load-requires g c =
    let w = c.self.inside.table.shared in
    let seat = c.args.seat.now in
    let key = c.self.invariant.0 ∙ ap (λ (v : SpaceView). v.about) c.self.view_is in (
      c.requires.table ∙ sym (ap (λ (v : SpaceView). v.table) c.self.view_is),
      omega (arith, c.self.invariant.1),
      allowed_look w.key w.table_id.slots seat.id seat.me g.N.Aim.about (c.requires.aim ∙ sym key),
    )
