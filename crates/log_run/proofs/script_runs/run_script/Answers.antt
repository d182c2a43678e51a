use Rattle.log_run.proofs.script_runs.run_script.Goals as goal

-- Names the goal, so that the prover rejects a wrong body at once, without a search.
pub returns-clause-history : goal.returns-clause-history
returns-clause-history c = c.run_opened-run.ensures.history
