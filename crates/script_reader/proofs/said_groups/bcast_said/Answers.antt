use borrow.Author.Tests.{ltb-false, ltb-true}
use Rattle.std.proofs.Common.{[], arith}
use Rattle.script_reader.specs.Said.{bcast_words}
use Rattle.script_reader.proofs.CountLemmas.{four-is, four-other}
use Rattle.script_reader.proofs.said_groups.bcast_said.Goals.{in_default-via-then-words-lt4, in_default-via-else-words-lt4+else-words-lt5}
use Rattle.script_reader.proofs.said_groups.bcast_said.Goals as goal

pub returns-in-len4 : goal.returns-in-len4
returns-in-len4 c = four-is c.args.words.now (λ word. word.now) (record { ref_ptr = (0, 0); now = [] }) bcast_words c.bcast_words.result c.bcast_words.ensures (omega (arith, c.in-len4.len_at_least, c.in-len4.len_below))

pub returns-in_default : goal.returns-in_default
returns-in_default c =
    elim c.in_default.branch [
      | in_default-via-then-words-lt4 w ↦ four-other c.args.words.now (λ word. word.now) bcast_words (λ is. omega (arith, is, ltb-true))
      | in_default-via-else-words-lt4+else-words-lt5 w ↦ four-other c.args.words.now (λ word. word.now) bcast_words (λ is. omega (arith, is, ltb-false))
    ]
