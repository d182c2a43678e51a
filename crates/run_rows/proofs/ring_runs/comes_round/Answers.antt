use Rattle.run_rows.proofs.RingLemmas.{four_seated}
use Rattle.run_rows.proofs.ring_runs.comes_round.Goals as goal

pub run-end-requires-clause-crew : goal.run-end-requires-clause-crew
run-end-requires-clause-crew g c κs within =
    four_seated c.in_ok-chip.chip c.seated.result c.seated-2.result c.seated-3.result c.seated-4.result c.in_ok-chip.ensures.new c.in_ok-chip.ensures.ranks
    c.seated.ensures.seated c.seated-2.ensures.seated c.seated-3.ensures.seated c.seated-4.ensures.seated
