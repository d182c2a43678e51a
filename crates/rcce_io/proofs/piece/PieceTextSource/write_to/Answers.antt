use Rattle.std.proofs.Common.{rules}
use Rattle.rcce_io.proofs.piece.PieceTextSource.write_to.Goals as goal

-- Names the goal, so that the prover rejects a wrong body at once, without a search.
pub returns-in-Number : goal.returns-in-Number
returns-in-Number c = search rules
