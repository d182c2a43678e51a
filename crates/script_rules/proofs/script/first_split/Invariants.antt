use Rattle.std.proofs.Common.{◌≡◌, drop}
use Rattle.script_rules.specs.Script.{first_split}
use Rattle.script_rules.proofs.script.first_split.Given as goal

-- the splits that are left give what all of them give
abbrev pub invariant-loop-item : goal.invariant-loop-item
invariant-loop-item l = first_split (drop l.item-index l.items) l.comm ≡ first_split l.items l.comm
