use Rattle.put_get.proofs.AnswerLemmas.{line_cost}
use Rattle.put_get.proofs.laws.line_cost_law.Goals as goal

pub returns : goal.returns
returns c = line_cost
