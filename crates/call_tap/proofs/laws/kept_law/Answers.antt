use Rattle.call_tap.proofs.TapLaws.{kept_calls}
use Rattle.call_tap.proofs.laws.kept_law.Goals as goal

pub returns : goal.returns
returns c = record { law = kept_calls }
