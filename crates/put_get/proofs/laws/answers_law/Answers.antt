use Rattle.put_get.proofs.AnswerLemmas.{answers}
use Rattle.put_get.proofs.laws.answers_law.Goals as goal

pub returns : goal.returns
returns c = answers
