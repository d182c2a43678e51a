use Rattle.sync_flags.proofs.LookLemmas.{word_looks}
use Rattle.sync_flags.proofs.looks.look_word.Goals as goal

-- Names the goal, so that the prover rejects a wrong body at once, without a search.
pub returns-clause-looks : goal.returns-clause-looks
returns-clause-looks g c = search word_looks depth 2 fits 100 parts 0
