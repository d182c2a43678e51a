use Rattle.steps_program.proofs.NumberLemmas.{parsed, not_parsed}
use Rattle.steps_program.proofs.jobs.number_of.Goals as goal

pub returns-in-Ok : goal.returns-in-Ok
returns-in-Ok c = parsed c.args.word.now c.in-Ok.number c.in-Ok.ensures.value.0

pub returns-in-Err : goal.returns-in-Err
returns-in-Err c = not_parsed c.args.word.now c.in-Err.ensures.value.0
