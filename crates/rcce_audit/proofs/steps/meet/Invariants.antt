use Rattle.scc_base.specs.Setups.{setup_key}
use Rattle.scc_proto.specs.Legality.{in_group}
use Rattle.rcce_audit.specs.Standings.{Meets}
use Rattle.rcce_audit.specs.Views.{data_lists}
use Rattle.rcce_audit.proofs.steps.meet.Given as goal

-- the members so far have passed the barrier
abbrev pub invariant-loop-other : goal.invariant-loop-other
invariant-loop-other l = Meets l.setup (data_lists l.lists) (in_group l.setup.nue (setup_key l.setup) l.comm l.rank) l.other l.initial.progress l.progress
