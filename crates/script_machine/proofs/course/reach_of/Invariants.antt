use Rattle.std.proofs.Common.{◌≡◌, ◌<◌, ◌≤◌, ℕ, false, slice_get, Some}
use Rattle.script_rules.specs.declared.script.Item.{Item}
use Rattle.script_rules.specs.Script.{has_rank}
use Rattle.script_machine.specs.Depths.{depth_at}
use Rattle.script_machine.proofs.course.reach_of.Given as goal

abbrev pub invariant-loop-at : goal.invariant-loop-at
invariant-loop-at l = record {
  here : l.depth ≡ depth_at l.rank l.scripts.items l.at;
  few : l.depth ≤ l.at;
  so_far : (place : ℕ) → place ≤ l.at → depth_at l.rank l.scripts.items place ≤ l.most;
  reached : l.end ≤ l.at;
  idle : (place : ℕ) (item : Item) → l.end ≤ place → place < l.at → slice_get l.scripts.items place ≡ Some item → has_rank item.who l.rank ≡ false;
}
