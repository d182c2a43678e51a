use borrow.Author.Tests.{ltb-false, ltb-true}
use Rattle.std.proofs.Common.{[], arith}
use Rattle.script_reader.specs.Said.{reduce_words}
use Rattle.script_reader.proofs.CountLemmas.{six-is, six-other}
use Rattle.script_reader.proofs.said_groups.reduce_said.Goals.{in_default-via-then-words-lt6, in_default-via-else-words-lt6+else-words-lt7}
use Rattle.script_reader.proofs.said_groups.reduce_said.Goals as goal

pub returns-in-len6 : goal.returns-in-len6
returns-in-len6 c = six-is c.args.words.now (λ word. word.now) (record { ref_ptr = (0, 0); now = [] }) reduce_words c.reduce_words.result c.reduce_words.ensures (omega (arith, c.in-len6.len_at_least, c.in-len6.len_below))

pub returns-in_default : goal.returns-in_default
returns-in_default c =
    elim c.in_default.branch [
      | in_default-via-then-words-lt6 w ↦ six-other c.args.words.now (λ word. word.now) reduce_words (λ is. omega (arith, is, ltb-true))
      | in_default-via-else-words-lt6+else-words-lt7 w ↦ six-other c.args.words.now (λ word. word.now) reduce_words (λ is. omega (arith, is, ltb-false))
    ]
