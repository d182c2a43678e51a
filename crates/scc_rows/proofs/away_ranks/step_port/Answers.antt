use Rattle.scc_mesh.proofs.HandOuts.{same_ticket}
use Rattle.scc_rows.proofs.away_ranks.step_port.Goals as goal

pub returns : goal.returns
returns c = record { same = same_ticket c.args.port.now c.store_and_load.new.port c.store_and_load.ensures.kept }
