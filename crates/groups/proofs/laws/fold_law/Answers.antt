use Rattle.groups.proofs.FoldLemmas.{fold_length, fold_next}
use Rattle.groups.proofs.laws.fold_law.Goals as goal

pub returns : goal.returns
returns c = record { long = fold_length; next = fold_next }
