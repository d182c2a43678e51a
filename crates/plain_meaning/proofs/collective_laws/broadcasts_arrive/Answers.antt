use Rattle.plain_meaning.proofs.Collectives.BroadcastLaws.{broadcast}
use Rattle.plain_meaning.proofs.Collectives.CollectiveFits.{are_fit}
use Rattle.plain_meaning.proofs.Messages.MessageLaws.{cells_kept, delivered}
use Rattle.plain_meaning.proofs.Arrivals.OthersCame.{root_came}
use Rattle.plain_meaning.proofs.OwnWays.OwnWayLaws.{own_ways}
use Rattle.plain_meaning.proofs.Collectives.UntouchedLaws.{untouched}
use Rattle.plain_meaning.proofs.collective_laws.broadcasts_arrive.Goals as goal

pub returns-clause-law : goal.returns-clause-law
returns-clause-law c = λ script whole end reached. broadcast script end (delivered script reached.0 end reached.1) (are_fit script whole reached.0 end reached.1)

pub returns-clause-root_came : goal.returns-clause-root_came
returns-clause-root_came c = λ script whole end reached. root_came script end (delivered script reached.0 end reached.1) (are_fit script whole reached.0 end reached.1) (own_ways script reached.0 end reached.1) (cells_kept script reached.0 end reached.1)

pub returns-clause-untouched : goal.returns-clause-untouched
returns-clause-untouched c = untouched
