use Rattle.std.proofs.Common.{rules, tests}
use Rattle.std.proofs.lemmas.Iterator.{YieldsList-from_slice}
use Rattle.std.proofs.lemmas.Iterator.Search.{all_from_yields_List}
use Rattle.rcce_audit.proofs.HexTextLemmas.{lower_byte}
use Rattle.rcce_audit.proofs.words.is_lower.Goals as goal

-- Names the goal, so that the prover rejects a wrong body at once, without a search.
pub returns : goal.returns
returns c = all_from_yields_List lower_byte _ _ c.all.result c.all.ensures.ran (YieldsList-from_slice c.args.word.now c.iter.ensures.rest) (λ x b q called. search (rules, tests))
