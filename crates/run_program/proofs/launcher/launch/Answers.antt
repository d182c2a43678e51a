use Rattle.run_program.proofs.launcher.launch.Goals as goal

-- Names the goal, so that the prover rejects a wrong body at once, without a search.
pub run_opened-run-requires-clause-evictors : goal.run_opened-run-requires-clause-evictors
run_opened-run-requires-clause-evictors g c = λ lifetimes outlive. c.in-Ok.ensures.evictors

pub returns-clause-ran : goal.returns-clause-ran
returns-clause-ran g c = (c.run_opened-run.ensures.shown, c.run_opened-run.ensures.ran)

pub returns-clause-legal : goal.returns-clause-legal
returns-clause-legal g c = λ opened. c.run_opened-run.ensures.legal
