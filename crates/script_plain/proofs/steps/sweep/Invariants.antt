use Rattle.scc_base.specs.Setups.{setup_key}
use Rattle.script_plain.specs.Code.{IsSetupOfUes, Sweeps, config}
use Rattle.script_plain.proofs.steps.sweep.Given as goal

abbrev pub invariant-loop-number : goal.invariant-loop-number
invariant-loop-number l = record {
  run : IsSetupOfUes l.setup l.ues l.slots;
  so_far : Sweeps (setup_key l.setup) l.moved l.number (config l.initial.ues l.initial.slots) (config l.ues l.slots);
}
