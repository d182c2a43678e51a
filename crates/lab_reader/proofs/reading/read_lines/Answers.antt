use Rattle.std.proofs.Common.{arith}
use Rattle.std.proofs.lemmas.Grind.{common_steps}
use Rattle.lab_reader.proofs.reading.read_lines.Goals as goal

-- Names the goal, so that the prover rejects a wrong body at once, without a search.
pub returns-in_err-read_line : goal.returns-in_err-read_line
returns-in_err-read_line c = grind (arith, common_steps)

pub loop-line-preserved : goal.loop-line-preserved
loop-line-preserved c = grind (arith, common_steps)
