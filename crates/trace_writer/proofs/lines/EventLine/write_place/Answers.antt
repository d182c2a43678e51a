use Rattle.std.proofs.Common.{rules}
use Rattle.trace_writer.proofs.lines.EventLine.write_place.Goals as goal

-- Names the goal, so that the prover rejects a wrong body at once, without a search.
pub returns-in-Load : goal.returns-in-Load
returns-in-Load g c = search rules
