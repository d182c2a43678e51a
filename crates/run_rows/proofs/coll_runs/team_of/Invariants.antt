use Rattle.std.proofs.Common.{◌≡◌, length}
use Rattle.coll_run.specs.Teams.{AreFreshMembers}
use Rattle.run_rows.proofs.coll_runs.team_of.Given as goal

abbrev pub invariant-loop-number : goal.invariant-loop-number
invariant-loop-number g l = record {
  each : length l.team.items ≡ l.number;
  fresh : AreFreshMembers l.more l.len l.nue l.team.items;
}
