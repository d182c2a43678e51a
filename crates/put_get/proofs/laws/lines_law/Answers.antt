use Rattle.put_get.proofs.SinceLemmas.{lines}
use Rattle.put_get.proofs.laws.lines_law.Goals as goal

pub returns : goal.returns
returns c = lines
