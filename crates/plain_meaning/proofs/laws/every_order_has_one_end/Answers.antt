use Rattle.plain_meaning.specs.Meaning.{keys_of, next_of, start_of, steps_left}
use Rattle.plain_meaning.proofs.Orders.EndLaws.{one_end, reached}
use Rattle.plain_meaning.proofs.Runs.PlainLaws.{plain_end_still}
use Rattle.plain_meaning.proofs.laws.every_order_has_one_end.Goals as goal

pub returns-clause-law : goal.returns-clause-law
returns-clause-law c = λ keys. one_end keys next_of

pub returns-clause-reached : goal.returns-clause-reached
returns-clause-reached c = λ script. reached (keys_of script) next_of (steps_left (start_of script)) (start_of script) (plain_end_still script)
