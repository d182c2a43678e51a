use Rattle.std.proofs.Common.{◌≡◌, ◌*◌, ◌++◌, drop}
use Rattle.groups.specs.Folds.{bytes_in, fold_first}
use Rattle.groups.proofs.folds.fold_into.Given as goal

abbrev pub invariant-loop-i : goal.invariant-loop-i
invariant-loop-i l = l.acc ≡ fold_first l.op l.ty l.i l.initial.acc l.more ++ drop (l.i * bytes_in l.ty) l.initial.acc
