use Rattle.plain_meaning.specs.Meaning.{next_of}
use Rattle.plain_meaning.proofs.Orders.OrderLaws.{either_order}
use Rattle.plain_meaning.proofs.laws.steps_commute.Goals as goal

pub returns : goal.returns
returns c = record { law = λ keys. either_order keys next_of }
