use borrow.Author.Tests.{ltb-false, ltb-true}
use Rattle.std.proofs.Common.{[], arith}
use Rattle.script_reader.specs.Said.{allreduce_words}
use Rattle.script_reader.proofs.CountLemmas.{five-is, five-other}
use Rattle.script_reader.proofs.said_groups.allreduce_said.Goals.{in_default-via-then-words-lt5, in_default-via-else-words-lt5+else-words-lt6}
use Rattle.script_reader.proofs.said_groups.allreduce_said.Goals as goal

pub returns-in-len5 : goal.returns-in-len5
returns-in-len5 c = five-is c.args.words.now (λ word. word.now) (record { ref_ptr = (0, 0); now = [] }) allreduce_words c.allreduce_words.result c.allreduce_words.ensures (omega (arith, c.in-len5.len_at_least, c.in-len5.len_below))

pub returns-in_default : goal.returns-in_default
returns-in_default c =
    elim c.in_default.branch [
      | in_default-via-then-words-lt5 w ↦ five-other c.args.words.now (λ word. word.now) allreduce_words (λ is. omega (arith, is, ltb-true))
      | in_default-via-else-words-lt5+else-words-lt6 w ↦ five-other c.args.words.now (λ word. word.now) allreduce_words (λ is. omega (arith, is, ltb-false))
    ]
