use Rattle.scc_proto.proofs.Messages.MessageLaw.{pair_messages}
use Rattle.scc_proto.proofs.laws.pair_law.Goals as goal

pub returns : goal.returns
returns c = record { law = λ s memory records from to agrees below. pair_messages s from to records agrees.calls (agrees.singles.0 from below) }
