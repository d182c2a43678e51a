use Rattle.std.proofs.Common.{rules}
use Rattle.trace_writer.proofs.lines.comma_before.Goals as goal

-- Names the goal, so that the prover rejects a wrong body at once, without a search.
pub returns-then-number-eq0 : goal.returns-then-number-eq0
returns-then-number-eq0 c = search rules
