use Rattle.std.proofs.Common.{sym, rules}
use Rattle.line_cache.proofs.LineLemmas.{line_none}
use Rattle.line_cache.proofs.cache.Cache.note_line.Goals as goal

pub returns-in_default-clause-lines : goal.returns-in_default-clause-lines
returns-in_default-clause-lines c = sym (line_none c.args.self.now c.args.line c.args.words.now c.in_default.ensures.place)

-- Names the goal, so that the prover rejects a wrong body at once, without a search.
pub returns-in-Some-clause-lines : goal.returns-in-Some-clause-lines
returns-in-Some-clause-lines c = search rules
