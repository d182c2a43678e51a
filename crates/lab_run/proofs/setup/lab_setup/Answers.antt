use Rattle.std.proofs.Common.{rules}
use Rattle.lab_run.proofs.setup.lab_setup.Goals as goal

pub returns : goal.returns
returns c = search rules
