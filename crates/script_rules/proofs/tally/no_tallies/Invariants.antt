use Rattle.std.proofs.Common.{◌≡◌, ℕ, ◌<◌, slice_index_or, vec_len}
use Rattle.script_rules.specs.declared.tally.Tally.{Tally}
use Rattle.script_rules.specs.Tally.{empty_tally}
use Rattle.script_rules.proofs.tally.no_tallies.Given as goal

abbrev pub invariant-loop : goal.invariant-loop
invariant-loop l = record {
  ranks : vec_len l.tallies ≡ l.counter;
  empty : (k : ℕ) (d : Tally) → k < l.counter → slice_index_or l.tallies.items k d ≡ empty_tally;
}
