use Rattle.std.specs.Prelude.{◌≡◌}
use Rattle.scc_mesh.specs.Scenes.{IsHomeBelow, about_in, events_in, table_in}
use Rattle.chip_run.specs.Away.{IsAtHome, Served}
use Rattle.chip_run.proofs.threads.take_home.Given as goal

abbrev pub invariant-loop-at : goal.invariant-loop-at
invariant-loop-at g l = record {
  home : IsHomeBelow l.chip l.at;
  same : (about_in l.chip ≡ about_in l.fn.chip) × (table_in l.chip ≡ table_in l.fn.chip);
  served : Served (λ k m n. (n.worker ≡ m.worker) × IsAtHome (g.W.Worker.behaviour.tied n.worker) n.token (about_in l.fn.chip) k (events_in l.chip k)) l.at l.fn.crew l.crew;
}
