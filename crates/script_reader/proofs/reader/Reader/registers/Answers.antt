use Rattle.std.proofs.Common.{rules}
use Rattle.script_reader.proofs.reader.Reader.registers.Goals as goal

-- Names the goal, so that the prover rejects a wrong body at once, without a search.
pub returns-clause-gives : goal.returns-clause-gives
returns-clause-gives c = search rules
