use Rattle.trace_text.proofs.SaidLemmas.{trace_said}
use Rattle.trace_text.proofs.laws.said_law.Goals as goal

pub returns-clause-setup : goal.returns-clause-setup
returns-clause-setup c = λ bytes trace said. (trace_said bytes trace said).setup

pub returns-clause-made : goal.returns-clause-made
returns-clause-made c = λ bytes trace said. (trace_said bytes trace said).made
