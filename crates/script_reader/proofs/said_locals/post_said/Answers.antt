use borrow.Author.Tests.{ltb-false, ltb-true}
use Rattle.std.proofs.Common.{[], arith}
use Rattle.script_reader.specs.Said.{post_words}
use Rattle.script_reader.proofs.CountLemmas.{two-is, two-other}
use Rattle.script_reader.proofs.said_locals.post_said.Goals.{in_default-via-then-words-lt2, in_default-via-else-words-lt2+else-words-lt3}
use Rattle.script_reader.proofs.said_locals.post_said.Goals as goal

pub returns-in-len2 : goal.returns-in-len2
returns-in-len2 c = two-is c.args.words.now (λ word. word.now) (record { ref_ptr = (0, 0); now = [] }) post_words c.post_words.result c.post_words.ensures (omega (arith, c.in-len2.len_at_least, c.in-len2.len_below))

pub returns-in_default : goal.returns-in_default
returns-in_default c =
    elim c.in_default.branch [
      | in_default-via-then-words-lt2 w ↦ two-other c.args.words.now (λ word. word.now) post_words (λ is. omega (arith, is, ltb-true))
      | in_default-via-else-words-lt2+else-words-lt3 w ↦ two-other c.args.words.now (λ word. word.now) post_words (λ is. omega (arith, is, ltb-false))
    ]
