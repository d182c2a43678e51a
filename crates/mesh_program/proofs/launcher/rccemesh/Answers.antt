use Rattle.outcomes.proofs.PromiseLemmas.{keeps_promises}
use Rattle.mesh_program.specs.Program.{rccemesh}
use Rattle.mesh_program.proofs.launcher.rccemesh.Goals as goal

pub returns : goal.returns
returns g c = record { promises = keeps_promises rccemesh _ _ _ _ _ _ (_, c.run_words-ending.ensures, c.deliver.ensures) }
