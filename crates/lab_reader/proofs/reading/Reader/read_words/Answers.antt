use Rattle.std.proofs.Common.{rules}
use Rattle.lab_reader.proofs.reading.Reader.read_words.Goals as goal

-- Names the goal, so that the prover rejects a wrong body at once, without a search.
pub returns-then-says_version : goal.returns-then-says_version
returns-then-says_version c = search rules
