use borrow.Author.Tests.{ltb-false, ltb-true}
use Rattle.std.proofs.Common.{[], arith}
use Rattle.script_reader.proofs.CountLemmas.{print-one, print-other, print-two}
use Rattle.script_reader.proofs.said_locals.print_said.Goals.{in_default-via-then-words-lt1, in_default-via-else-words-lt1+else-words-lt2+else-words-lt3}
use Rattle.script_reader.proofs.said_locals.print_said.Goals as goal

pub returns-in-len1 : goal.returns-in-len1
returns-in-len1 c = print-one c.args.words.now (λ word. word.now) (record { ref_ptr = (0, 0); now = [] }) c.hex_print_said.result c.hex_print_said.ensures (omega arith)

pub returns-in-len2 : goal.returns-in-len2
returns-in-len2 c = print-two c.args.words.now (λ word. word.now) (record { ref_ptr = (0, 0); now = [] }) c.typed_print_said.result c.typed_print_said.ensures (omega arith)

pub returns-in_default : goal.returns-in_default
returns-in_default c =
    elim c.in_default.branch [
      | in_default-via-then-words-lt1 w ↦ print-other c.args.words.now (λ word. word.now) (λ is. omega (arith, is, ltb-true)) (λ is. omega (arith, is, ltb-true))
      | in_default-via-else-words-lt1+else-words-lt2+else-words-lt3 w ↦ print-other c.args.words.now (λ word. word.now) (λ is. omega (arith, is, ltb-false)) (λ is. omega (arith, is, ltb-false))
    ]
