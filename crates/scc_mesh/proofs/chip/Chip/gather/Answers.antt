use Rattle.scc_mesh.proofs.ViewLemmas.{is_known, known_list}
use Rattle.scc_mesh.proofs.chip.Chip.gather.Goals as goal

pub returns-clause-home : goal.returns-clause-home
returns-clause-home c = is_known c.gather.new.self.home c.args.token.rank c.args.token.events c.gather.ensures.home

pub returns-clause-events : goal.returns-clause-events
returns-clause-events c = known_list c.gather.new.self.home c.args.token.rank c.args.token.events c.gather.ensures.home
