use Rattle.call_tap.proofs.ByteLaws.{calls_have_bytes}
use Rattle.call_tap.proofs.laws.bytes_law.Goals as goal

pub returns : goal.returns
returns c = record { law = λ s rank events. calls_have_bytes s rank events }
