use Rattle.plain_meaning.proofs.Arrivals.CountLaws.{counted}
use Rattle.plain_meaning.proofs.collective_laws.calls_are_counted_alike.Goals as goal

pub returns : goal.returns
returns c = record { law = counted }
