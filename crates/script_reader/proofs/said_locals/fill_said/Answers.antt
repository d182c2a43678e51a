use borrow.Author.Tests.{ltb-false, ltb-true}
use Rattle.std.proofs.Common.{[], arith}
use Rattle.script_reader.specs.Said.{fill_words}
use Rattle.script_reader.proofs.CountLemmas.{three-is, three-other}
use Rattle.script_reader.proofs.said_locals.fill_said.Goals.{in_default-via-then-words-lt3, in_default-via-else-words-lt3+else-words-lt4}
use Rattle.script_reader.proofs.said_locals.fill_said.Goals as goal

pub returns-in-len3 : goal.returns-in-len3
returns-in-len3 c = three-is c.args.words.now (λ word. word.now) (record { ref_ptr = (0, 0); now = [] }) fill_words c.fill_words.result c.fill_words.ensures (omega (arith, c.in-len3.len_at_least, c.in-len3.len_below))

pub returns-in_default : goal.returns-in_default
returns-in_default c =
    elim c.in_default.branch [
      | in_default-via-then-words-lt3 w ↦ three-other c.args.words.now (λ word. word.now) fill_words (λ is. omega (arith, is, ltb-true))
      | in_default-via-else-words-lt3+else-words-lt4 w ↦ three-other c.args.words.now (λ word. word.now) fill_words (λ is. omega (arith, is, ltb-false))
    ]
