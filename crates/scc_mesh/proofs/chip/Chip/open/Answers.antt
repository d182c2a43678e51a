use Rattle.scc_mesh.proofs.HomeLaws.{new_chip}
use Rattle.scc_mesh.proofs.chip.Chip.open.Goals as goal

pub returns-clause-opened : goal.returns-clause-opened
returns-clause-opened c = new_chip c.args.setup c.in_ok-new.field-0 c.in_ok-new.ensures.made.0 c.in_ok-new.ensures.made.1
