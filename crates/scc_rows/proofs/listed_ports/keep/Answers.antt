use Rattle.scc_rows.proofs.QuietLemmas.{quiet_pushed}
use Rattle.scc_rows.proofs.listed_ports.keep.Goals as goal

pub returns-clause-quiet : goal.returns-clause-quiet
returns-clause-quiet g c = quiet_pushed c.args.events.now.items c.push.new.self.items _ c.args.event c.push.ensures.items c.requires.events c.requires.event
