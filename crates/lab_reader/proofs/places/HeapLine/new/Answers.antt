use Rattle.std.proofs.Common.{rules}
use Rattle.lab_reader.proofs.places.HeapLine.new.Goals as goal

-- Names the goal, so that the prover rejects a wrong body at once, without a search.
pub returns : goal.returns
returns c = search rules
