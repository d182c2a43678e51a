use Rattle.std.proofs.Common.{rules}
use Rattle.std.proofs.lemmas.Int.{wraps}
use Rattle.groups.proofs.folds.combine_ints.Goals as goal

pub returns-in-Sum : goal.returns-in-Sum
returns-in-Sum c = search (rules, wraps)
