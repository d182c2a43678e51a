use Rattle.station.proofs.ReduceLemmas.{allreduced_run, bcast_calls_run, bcast_kept_run, reduced_run, same_run}
use Rattle.station.proofs.laws.group_law.Goals as goal

pub returns : goal.returns
returns c = record {
  same = λ start r op same run. same_run start r op same run;
  calls = λ start r comm root len same run. bcast_calls_run start r comm root len same run;
  kept = λ start r comm root len same run is. bcast_kept_run start r comm root len same run is;
  reduced = λ start r how comm root len same run. reduced_run start r how comm root len same run;
  allreduced = λ start r how comm len same run. allreduced_run start r how comm len same run;
}
