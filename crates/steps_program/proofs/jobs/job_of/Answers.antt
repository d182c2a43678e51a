use Rattle.std.proofs.Common.{string_bytes}
use Rattle.steps_program.proofs.NumberLemmas.{under_two}
use Rattle.steps_program.proofs.jobs.job_of.Goals as goal

pub returns-in_default : goal.returns-in_default
returns-in_default c = under_two string_bytes c.args.words.now c.in_default.len_below
