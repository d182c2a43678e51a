use Rattle.std.proofs.Common.{◌≡◌, sum_by}
use Rattle.scc_base.specs.Setups.{setup_key}
use Rattle.script_plain.specs.Code.{IsSetupOfUes, config}
use Rattle.script_machine.specs.Local.{most_steps_left, local_next}
use Rattle.plain_meaning.specs.Step.{run_on}
use Rattle.script_plain.proofs.steps.run_on.Given as goal

abbrev pub invariant-loop : goal.invariant-loop
invariant-loop l = record {
  run : IsSetupOfUes l.setup l.ues l.slots;
  same_end : run_on (setup_key l.setup) local_next (sum_by most_steps_left l.ues) (config l.ues l.slots)
      ≡ run_on (setup_key l.setup) local_next (sum_by most_steps_left l.initial.ues) (config l.initial.ues l.initial.slots);
}

abbrev pub decreases-loop : goal.decreases-loop
decreases-loop l = sum_by most_steps_left l.ues
