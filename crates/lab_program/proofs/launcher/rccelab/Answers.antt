use Rattle.outcomes.proofs.PromiseLemmas.{keeps_promises}
use Rattle.lab_program.specs.Program.{rccelab}
use Rattle.lab_program.proofs.launcher.rccelab.Goals as goal

pub returns : goal.returns
returns g c = record {
  promises = keeps_promises rccelab _ _ _ _ _ _ (_, c.run_words-ending.ensures.meant, c.deliver.ensures);
  history = (_, c.run_words-ending.ensures.meant, c.deliver.ensures, c.run_words-ending.ensures.tells);
}
