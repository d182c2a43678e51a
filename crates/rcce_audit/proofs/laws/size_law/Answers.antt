use Rattle.rcce_audit.proofs.SizeLemmas.{few_fit}
use Rattle.rcce_audit.proofs.laws.size_law.Goals as goal

pub returns : goal.returns
returns c = record { fits = λ log is few. few_fit log is few }
