use Rattle.plain_meaning.specs.Meaning.{next_of}
use Rattle.plain_meaning.proofs.Orders.EndLaws.{is_still, taken}
use Rattle.plain_meaning.proofs.laws.lowest_owner_steps.Goals as goal

pub returns-clause-taken : goal.returns-clause-taken
returns-clause-taken c = λ keys. taken keys next_of

pub returns-clause-still : goal.returns-clause-still
returns-clause-still c = λ keys. is_still keys next_of
