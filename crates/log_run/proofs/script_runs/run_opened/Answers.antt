use Rattle.log_run.proofs.script_runs.run_opened.Goals as goal

-- Names the goal, so that the prover rejects a wrong body at once, without a search.
pub new-requires-clause-answer : goal.new-requires-clause-answer
new-requires-clause-answer c = c.run_crew-end.ensures.answer

pub returns-clause-history : goal.returns-clause-history
returns-clause-history c = c.run_crew-end.ensures.history
