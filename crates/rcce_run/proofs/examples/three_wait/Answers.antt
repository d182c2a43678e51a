use Rattle.rcce_run.proofs.ThreeWait.{slot_is_full, three_swept}
use Rattle.rcce_run.proofs.examples.three_wait.Goals as goal

pub returns-clause-swept : goal.returns-clause-swept
returns-clause-swept c = three_swept

pub returns-clause-full : goal.returns-clause-full
returns-clause-full c = slot_is_full
