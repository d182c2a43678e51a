use Rattle.std.proofs.Common.{rules}
use Rattle.texts.specs.Numbers.{number_of}
use Rattle.texts.proofs.numbers.number.Goals as goal

pub returns-in-Some : goal.returns-in-Some
unfolding number_of
returns-in-Some c = search rules

pub returns-in-None : goal.returns-in-None
unfolding number_of
returns-in-None c = search rules
