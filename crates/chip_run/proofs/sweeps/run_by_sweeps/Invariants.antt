use Rattle.std.specs.Prelude.{ℕ, length}
use Rattle.scc_mesh.specs.Scenes.{about_in}
use Rattle.chip_run.specs.Crews.{CrewStands, all_left}
use Rattle.chip_run.specs.Orders.{TurnsOf, sweeps_of}
use Rattle.chip_run.proofs.sweeps.run_by_sweeps.Given as goal

abbrev pub invariant-loop-end : goal.invariant-loop-end
invariant-loop-end g l = record {
  stands : CrewStands g.W.Worker.behaviour l.fn.chip l.fn.crew l.chip l.crew;
  order : (n : ℕ) × TurnsOf g.W.Worker.behaviour (sweeps_of n (length l.fn.crew)) l.fn.chip l.fn.crew l.chip l.crew;
}

abbrev pub decreases-loop-end : goal.decreases-loop-end
decreases-loop-end g l = all_left g.W.Worker.behaviour (about_in l.fn.chip) l.crew
