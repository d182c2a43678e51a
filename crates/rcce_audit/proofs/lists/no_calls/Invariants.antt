use Rattle.std.proofs.Common.{◌≡◌, [], replicate, vec_len}
use Rattle.rcce_audit.specs.Views.{data_lists}
use Rattle.rcce_audit.proofs.lists.no_calls.Given as goal

-- so many empty lists
abbrev pub invariant-loop-rank : goal.invariant-loop-rank
invariant-loop-rank l = record { lists : data_lists l.lists.items ≡ replicate l._rank []; ranks : vec_len l.lists ≡ l._rank }
