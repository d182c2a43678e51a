use Rattle.plain_meaning.proofs.ProgramLengths.ReadyLemmas.{ready-law}
use Rattle.plain_meaning.proofs.call_laws.calls_can_be_made.Goals as goal

pub returns : goal.returns
returns c = record { law = λ script whole rank within u last came. ready-law script rank whole within u last came }
