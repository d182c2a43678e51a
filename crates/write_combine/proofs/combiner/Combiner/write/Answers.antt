use Rattle.std.proofs.Common.{arith, rules}
use Rattle.write_combine.proofs.Masks.{list_any-written}
use Rattle.write_combine.proofs.combiner.Combiner.write.Goals as goal

pub invariant_of-self : goal.invariant_of-self
invariant_of-self c = list_any-written c.in-Some.out.mask c.from-word.result (let v = c.word.ensures.valid.word_below in omega arith)

pub returns-then-is-clause-some_word : goal.returns-then-is-clause-some_word
returns-then-is-clause-some_word c = invariant_of-self c

-- Names the goal, so that the prover rejects a wrong body at once, without a search.
pub returns-clause-out : goal.returns-clause-out
returns-clause-out c = search rules
