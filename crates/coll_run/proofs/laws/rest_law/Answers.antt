use Rattle.coll_run.proofs.RestLemmas.{all_over}
use Rattle.coll_run.proofs.laws.rest_law.Goals as goal

pub returns : goal.returns
returns c = record { over = λ more len s memory lists members h k low. all_over more len s memory lists members h k low }
