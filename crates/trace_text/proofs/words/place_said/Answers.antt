use Rattle.std.proofs.Common.{refl, ◌∙◌, rules}
use Rattle.rcce_audit.proofs.ThreeWords.{SaysThree, of_few, of_many, of_three}
use Rattle.trace_text.specs.Words.{place_said}
use Rattle.trace_text.proofs.words.place_said.Goals as goal
use Rattle.trace_text.proofs.words.place_said.Goals.{in_default-via-then-parts-lt3, in_default-via-else-parts-lt3+else-parts-lt4}

three_alone : SaysThree place_said
three_alone = record { none = refl; one = λ a. refl; two = λ a b. refl; more = λ a b c d rest. refl }

pub returns-in-len3 : goal.returns-in-len3
returns-in-len3 c = c.place_of.ensures ∙ of_three place_said (λ part. part.now) _ c.args.parts.now c.in-len3.len_at_least c.in-len3.len_below

pub returns-in_default : goal.returns-in_default
returns-in_default c = elim c.in_default.branch [ in_default-via-then-parts-lt3 w ↦ of_few place_said (λ word. word.now) three_alone c.args.parts.now (search rules) | in_default-via-else-parts-lt3+else-parts-lt4 w ↦ of_many place_said (λ word. word.now) three_alone c.args.parts.now (search rules) ]
