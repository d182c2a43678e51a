use Rattle.scc_rows.proofs.QuietLemmas.{quiet_sound}
use Rattle.scc_rows.proofs.listed_ports.ListedPortPort.rank.Goals as goal

pub returns-clause-sound : goal.returns-clause-sound
returns-clause-sound g c = quiet_sound _ c.args.self.now.quiet
