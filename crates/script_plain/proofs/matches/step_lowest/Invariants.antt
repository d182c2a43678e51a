use Rattle.std.proofs.Common.{◌≡◌}
use Rattle.scc_base.specs.Setups.{setup_key}
use Rattle.script_plain.specs.Code.{config}
use Rattle.script_plain.specs.Facing.{IsStillTo}
use Rattle.script_plain.proofs.matches.step_lowest.Given as goal

-- no rank below `number` owns a step
abbrev pub invariant-loop-number : goal.invariant-loop-number
invariant-loop-number l = record {
  same : config l.ues l.slots ≡ config l.initial.ues l.initial.slots;
  none_more : l.matches ≡ l.initial.matches;
  still : IsStillTo (setup_key l.setup) l.number (config l.ues l.slots);
}
