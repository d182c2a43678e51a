use Rattle.outcomes.proofs.PromiseLemmas.{keeps_promises}
use Rattle.coll_program.specs.Program.{rccecoll}
use Rattle.coll_program.proofs.launcher.rccecoll.Goals as goal

pub returns : goal.returns
returns g c = record {
  promises = keeps_promises rccecoll _ _ _ _ _ _ (_, c.run_words-ending.ensures.0, c.deliver.ensures);
  history = (_, c.run_words-ending.ensures.0, c.deliver.ensures, c.run_words-ending.ensures.1);
}
