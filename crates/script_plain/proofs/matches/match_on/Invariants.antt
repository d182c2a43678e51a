use Rattle.std.proofs.Common.{◌≡◌, ◌++◌, sum_by}
use Rattle.scc_base.specs.Setups.{setup_key}
use Rattle.script_plain.specs.Code.{IsSetupOfUes, config}
use Rattle.script_plain.specs.Facing.{IsStillTo}
use Rattle.script_machine.specs.Local.{most_steps_left, local_next, statement_line}
use Rattle.script_plain.specs.Matches.{matches_on}
use Rattle.plain_meaning.specs.Step.{run_on}
use Rattle.script_plain.proofs.matches.match_on.Given as goal

abbrev pub invariant-loop-matches : goal.invariant-loop-matches
invariant-loop-matches l = record {
  run : IsSetupOfUes l.setup l.ues l.slots;
  still : IsStillTo (setup_key l.setup) l.from (config l.ues l.slots);
  so_far : l.matches ++ matches_on (setup_key l.setup) local_next statement_line (sum_by most_steps_left l.ues) (config l.ues l.slots)
      ≡ matches_on (setup_key l.setup) local_next statement_line (sum_by most_steps_left l.initial.ues) (config l.initial.ues l.initial.slots);
  same_end : run_on (setup_key l.setup) local_next (sum_by most_steps_left l.ues) (config l.ues l.slots)
      ≡ run_on (setup_key l.setup) local_next (sum_by most_steps_left l.initial.ues) (config l.initial.ues l.initial.slots);
}

abbrev pub decreases-loop-matches : goal.decreases-loop-matches
decreases-loop-matches l = sum_by most_steps_left l.ues
