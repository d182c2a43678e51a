use borrow.Author.Tests.{ltb-false, ltb-true}
use Rattle.std.proofs.Common.{◌≡◌, [], Err, arith, map, subst, sym}
use Rattle.script_rules.specs.declared.fault.FaultKind.TheVariants as kind
use Rattle.script_rules.specs.declared.version.Version.{Version}
use Rattle.script_reader.specs.Said.{split_said}
use Rattle.script_reader.proofs.CountLemmas.{split-early, split-five, split-other, split-three}
use Rattle.script_reader.proofs.said_groups.split_said.Goals.{in_default-via-then-words-lt3, in_default-via-else-words-lt3+else-words-lt4+then-words-lt5, in_default-via-else-words-lt3+else-words-lt4+else-words-lt5+else-words-lt6}
use Rattle.script_reader.proofs.said_groups.split_said.Goals as goal

pub returns-in-len3 : goal.returns-in-len3
returns-in-len3 c = split-three c.args.version c.args.words.now (λ word. word.now) (record { ref_ptr = (0, 0); now = [] }) c.world_split_said.result c.world_split_said.ensures (omega arith)

pub returns-in-One : goal.returns-in-One
returns-in-One c =
    subst (λ (v : Version). Err kind.WrongCount ≡ split_said v (map (λ word. word.now) c.args.words.now)) (sym c.in-One.is)
    (split-early c.args.words.now (λ word. word.now) (omega (arith, c.in-len5.len_at_least, c.in-len5.len_below)))

pub returns-in-Two : goal.returns-in-Two
returns-in-Two c =
    subst (λ (v : Version). c.parent_split_said.result ≡ split_said v (map (λ word. word.now) c.args.words.now)) (sym c.in-Two.is)
    (split-five c.args.words.now (λ word. word.now) (record { ref_ptr = (0, 0); now = [] }) c.parent_split_said.result c.parent_split_said.ensures (omega (arith, c.in-len5.len_at_least, c.in-len5.len_below)))

pub returns-in_default : goal.returns-in_default
returns-in_default c =
    elim c.in_default.branch [
      | in_default-via-then-words-lt3 w ↦ split-other c.args.version c.args.words.now (λ word. word.now) (λ is. omega (arith, is, ltb-true)) (λ is. omega (arith, is, ltb-true))
      | in_default-via-else-words-lt3+else-words-lt4+then-words-lt5 w ↦ split-other c.args.version c.args.words.now (λ word. word.now) (λ is. omega (arith, is, ltb-true, ltb-false)) (λ is. omega (arith, is, ltb-true, ltb-false))
      | in_default-via-else-words-lt3+else-words-lt4+else-words-lt5+else-words-lt6 w ↦ split-other c.args.version c.args.words.now (λ word. word.now) (λ is. omega (arith, is, ltb-false)) (λ is. omega (arith, is, ltb-false))
    ]
