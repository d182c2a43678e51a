use Rattle.std.proofs.Common.{sum_by}
use Rattle.scc_base.specs.Setups.{setup_key}
use Rattle.script_plain.specs.Code.{IsSetupOfUes, Moves, config}
use Rattle.script_machine.specs.Local.{most_steps_left}
use Rattle.script_plain.proofs.steps.go_on.Given as goal

abbrev pub invariant-loop-moved : goal.invariant-loop-moved
invariant-loop-moved l = record {
  run : IsSetupOfUes l.setup l.ues l.slots;
  so_far : Moves (setup_key l.setup) l.moved (config l.initial.ues l.initial.slots) (config l.ues l.slots);
}

abbrev pub decreases-loop-moved : goal.decreases-loop-moved
decreases-loop-moved l = sum_by most_steps_left l.ues
