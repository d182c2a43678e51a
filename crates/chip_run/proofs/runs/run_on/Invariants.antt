use Rattle.std.specs.Prelude.{ℕ, ◌<◌, length}
use Rattle.scc_mesh.specs.Scenes.{about_in}
use Rattle.chip_run.specs.Away.{behaviour_of_members}
use Rattle.chip_run.specs.Crews.{CrewStands, all_left}
use Rattle.chip_run.specs.Marks.{ThreadsAfter}
use Rattle.chip_run.specs.Runs.{IsInThreads, RoundsTo, rounds_of}
use Rattle.chip_run.proofs.runs.run_on.Given as goal

abbrev pub invariant-loop-end : goal.invariant-loop-end
invariant-loop-end g l = record {
  stands : CrewStands (behaviour_of_members g.W.Worker.behaviour) l.fn.chip l.fn.crew l.chip l.crew;
  threads : 0 < l.threads;
  order : (n : ℕ) × RoundsTo (behaviour_of_members g.W.Worker.behaviour) (rounds_of l.fn.mode) n l.rounds l.fn.chip l.fn.crew l.chip l.crew
      × (IsInThreads (rounds_of l.fn.mode) → ThreadsAfter g.M.Marks.shown (length l.fn.crew) n l.threads);
}

abbrev pub decreases-loop-end : goal.decreases-loop-end
decreases-loop-end g l = all_left (behaviour_of_members g.W.Worker.behaviour) (about_in l.fn.chip) l.crew
