use Rattle.coll_run.proofs.EndLemmas.{have_ended, team_at_start}
use Rattle.coll_run.proofs.runs.run.Goals as goal

pub run_by_sweeps-requires : goal.run_by_sweeps-requires
run_by_sweeps-requires g c = let (more, len, fresh) = c.requires.fresh in record { crew = team_at_start more len c.args.chip.now c.args.team.now fresh }

pub returns : goal.returns
returns g c = record {
  ended = λ more len fresh.
      have_ended more len c.args.chip.now c.run_by_sweeps.new.chip c.args.team.now c.run_by_sweeps.new.crew c.agrees.ensures.words.0 c.agrees.ensures.words.1 fresh
      c.run_by_sweeps.ensures.stands.is_crew c.run_by_sweeps.ensures.stands.goes c.run_by_sweeps.ensures.rests;
}
