use Rattle.audit_program.proofs.RunPlanLemmas.{has_ran}
use Rattle.audit_program.proofs.logging.log_script.Goals as goal

pub returns-clause-ran : goal.returns-clause-ran
returns-clause-ran g c = has_ran c.args.file.now c.args.scripts.now _ _ _ _ _ c.launch-ending.ensures.launched c.deliver.ensures
