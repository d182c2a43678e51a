use Rattle.std.proofs.Common.{◌≡◌, length}
use Rattle.script_rules.specs.Ends.{with_ends}
use Rattle.script_rules.proofs.ends.tell_ends.Given as goal

abbrev pub invariant-loop-place : goal.invariant-loop-place
invariant-loop-place l = record {
  told : l.items ≡ with_ends l.place l.fn.items;
  long : length l.items ≡ length l.fn.items;
}
