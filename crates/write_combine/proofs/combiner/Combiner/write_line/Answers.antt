use Rattle.std.proofs.Common.{◌∙◌, rules}
use Rattle.write_combine.proofs.Masks.{whole_written}
use Rattle.write_combine.proofs.combiner.Combiner.write_line.Goals as goal

pub returns-then-is-clause-held : goal.returns-then-is-clause-held
returns-then-is-clause-held c = whole_written c.args.line c.args.words.now c.told-words

-- Names the goal, so that the prover rejects a wrong body at once, without a search.
pub returns-clause-out : goal.returns-clause-out
returns-clause-out c = search rules

pub returns-clause-held : goal.returns-clause-held
returns-clause-held c = c.replace.ensures.after ∙ whole_written c.args.line c.args.words.now c.told-words
