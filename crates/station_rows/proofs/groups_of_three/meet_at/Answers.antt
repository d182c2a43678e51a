use Rattle.scc_mesh.specs.Scenes.{sight_away}
use Rattle.station_rows.proofs.groups_of_three.meet_at.Goals as goal

pub meet-requires : goal.meet-requires
meet-requires c = record { free = c.requires.free (sight_away c.args.port.now.about c.args.port.now.ticket) c.requires.fresh }
