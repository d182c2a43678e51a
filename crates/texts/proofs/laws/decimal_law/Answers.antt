use Rattle.texts.proofs.DecimalLemmas.{number_of-decimal}
use Rattle.texts.proofs.laws.decimal_law.Goals as goal

pub returns : goal.returns
returns c = record { reads = number_of-decimal }
