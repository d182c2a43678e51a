use Rattle.std.proofs.Common.{◌≡◌, ℕ, ◌≤◌, None, map, slice_index_or}
use Rattle.std.specs.List.{range_with_len}
use Rattle.plain_meaning.specs.Ends.{end_of_rank}
use Rattle.script_machine.specs.Local.{local_at}
use Rattle.script_plain.proofs.ends.end_all.Given as goal

abbrev pub invariant-loop-i : goal.invariant-loop-i
invariant-loop-i l = record {
  made : l.ranks.items ≡ map (λ rank. end_of_rank (slice_index_or l.slots rank None) (local_at l.initial.ues rank)) (range_with_len 0 l.i);
  rest : (k : ℕ) → l.i ≤ k → local_at l.ues k ≡ local_at l.initial.ues k;
}
