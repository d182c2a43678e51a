use Rattle.std.proofs.Common.{◌≡◌, ℕ, ◌<◌, ◌≤◌, slice_index_or}
use Rattle.script_rules.specs.declared.tally.Tally.{Tally}
use Rattle.script_rules.specs.Tally.{noted_at}
use Rattle.script_rules.proofs.tally.note_item.Given as goal

abbrev pub invariant-loop-rank : goal.invariant-loop-rank
invariant-loop-rank l = record {
  counted : (k : ℕ) (d : Tally) → k < l.rank → slice_index_or l.tallies k d ≡ noted_at l.run l.turns l.who l.effect k (slice_index_or l.fn.tallies k d);
  left : (k : ℕ) (d : Tally) → l.rank ≤ k → slice_index_or l.tallies k d ≡ slice_index_or l.fn.tallies k d;
}
