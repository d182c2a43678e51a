use Rattle.std.proofs.Common.{rules}
use Rattle.lab_plain.proofs.lines.source_name.Goals as goal

-- Names the goal, so that the prover rejects a wrong body at once, without a search.
pub returns-in-Cache : goal.returns-in-Cache
returns-in-Cache c = search rules
