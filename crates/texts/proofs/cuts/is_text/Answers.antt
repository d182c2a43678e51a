use Rattle.std.proofs.Common.{rules, tests}
use Rattle.std.proofs.lemmas.Iterator.{YieldsList-from_slice}
use Rattle.std.proofs.lemmas.Iterator.Search.{all_from_yields_List}
use Rattle.texts.specs.Cuts.{is_text_byte, without_comment}
use Rattle.texts.proofs.cuts.is_text.Goals as goal

pub returns : goal.returns
returns c = all_from_yields_List is_text_byte _ _ c.all.result c.all.ensures.ran (YieldsList-from_slice (without_comment c.args.line.now) cc) (λ x b q k. search (rules, tests))
