use Rattle.std.proofs.Common.{rules}
use Rattle.texts.specs.Numbers.{number_in}
use Rattle.texts.proofs.numbers.number_in.Goals as goal

pub returns-in-Some-clause-gives : goal.returns-in-Some-clause-gives
unfolding number_in
returns-in-Some-clause-gives c = search rules

pub returns-in_default-clause-gives : goal.returns-in_default-clause-gives
unfolding number_in
returns-in_default-clause-gives c = search rules

pub returns-in_default-2-clause-gives : goal.returns-in_default-2-clause-gives
unfolding number_in
returns-in_default-2-clause-gives c = search rules
