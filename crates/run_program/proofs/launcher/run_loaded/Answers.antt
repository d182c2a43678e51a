use Rattle.run_program.specs.Loading.{asked_by}
use Rattle.run_program.proofs.ChipLemmas.{ran_by}
use Rattle.run_program.proofs.launcher.run_loaded.Goals as goal

pub returns-clause-ran : goal.returns-clause-ran
returns-clause-ran g c = ran_by (asked_by c.args.loaded.now) _ _ _ _ _ c.launch-ending.ensures.ran c.deliver.ensures
