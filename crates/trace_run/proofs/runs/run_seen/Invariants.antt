use Rattle.std.specs.Prelude.{ℕ}
use Rattle.rand_core.specs.Pcg32Seed.{pcg32_seed}
use Rattle.rand_pcg.specs.Pcg.{pcg32_of_seed}
use Rattle.scc_mesh.specs.Scenes.{about_in}
use Rattle.chip_run.specs.Crews.{CrewStands, all_left}
use Rattle.trace_run.proofs.RoundLaws.{AtRound}
use Rattle.trace_run.specs.Seen.{HasSeenAll}
use Rattle.trace_run.proofs.runs.run_seen.Given as goal

abbrev pub invariant-loop-picks : goal.invariant-loop-picks
invariant-loop-picks g l = record {
  stands : CrewStands g.W.Worker.behaviour l.fn.chip l.fn.crew l.chip l.crew;
  order : (n : ℕ) × AtRound g.W.Worker.behaviour (g.N.Witness.wanted_after l.witness) (pcg32_of_seed (pcg32_seed 16 l.fn.seed)) n l.picks l.fn.chip l.fn.crew l.chip l.crew;
  seen : HasSeenAll (g.N.Witness.setup l.witness) (g.N.Witness.noted l.witness) l.chip;
}

abbrev pub decreases-loop-picks : goal.decreases-loop-picks
decreases-loop-picks g l = all_left g.W.Worker.behaviour (about_in l.fn.chip) l.crew
