use Rattle.outcomes.proofs.PromiseLemmas.{keeps_promises}
use Rattle.check_program.specs.Program.{rccecheck}
use Rattle.check_program.proofs.StatusLaws.{has_run_status}
use Rattle.check_program.proofs.launcher.rccecheck.Goals as goal

pub returns : goal.returns
returns g c = record {
  promises = keeps_promises rccecheck _ _ _ _ _ _ (_, c.run_words-ending.ensures, c.deliver.ensures);
  status = has_run_status _ _ _ _ _ _ (keeps_promises rccecheck _ _ _ _ _ _ (_, c.run_words-ending.ensures, c.deliver.ensures));
}
