use Rattle.plain_meaning.proofs.OwnWays.DoneLaws.{are_done}
use Rattle.plain_meaning.proofs.collective_laws.used_up_statements_are_done.Goals as goal

pub returns : goal.returns
returns c = record { law = λ script end reached. are_done script reached.0 end reached.1 }
