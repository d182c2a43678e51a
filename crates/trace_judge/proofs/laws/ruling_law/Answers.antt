use Rattle.trace_judge.proofs.LegalLists.{ruling_from_taken, ruling_told}
use Rattle.trace_judge.proofs.laws.ruling_law.Goals as goal

pub returns : goal.returns
returns c = record { law = λ j e. (ruling_told j e, ruling_from_taken j e) }
