use Rattle.std.specs.Prelude.{◌≡◌, ℕ, ◌≤◌}
use Rattle.scc_mesh.specs.Scenes.{IsHomeFrom, about_in, events_in, table_in}
use Rattle.chip_run.specs.Away.{IsAway, Served}
use Rattle.chip_run.proofs.threads.hand_out.Given as goal

abbrev pub invariant-loop-at : goal.invariant-loop-at
invariant-loop-at g l = record {
  from : IsHomeFrom l.chip l.at;
  same : (about_in l.chip ≡ about_in l.fn.chip) × (table_in l.chip ≡ table_in l.fn.chip);
  events : (q : ℕ) → l.at ≤ q → events_in l.chip q ≡ events_in l.fn.chip q;
  served : Served (λ k m n. (n.worker ≡ m.worker) × IsAway (g.W.Worker.behaviour.tied n.worker) (about_in l.fn.chip) (table_in l.fn.chip) k n.token) l.at l.fn.crew l.crew;
}
