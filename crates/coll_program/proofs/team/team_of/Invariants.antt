use Rattle.coll_program.specs.Runs.{AreRanksOf}
use Rattle.coll_program.proofs.team.team_of.Given as goal

abbrev pub invariant-loop-number : goal.invariant-loop-number
invariant-loop-number l = AreRanksOf l.job l.number l.team.items
