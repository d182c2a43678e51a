use Rattle.scc_proto.proofs.Runs.RestLaw.{resting_part}
use Rattle.scc_proto.proofs.laws.resting_law.Goals as goal

pub returns : goal.returns
returns c = record { law = λ s me rec before rest one two like. resting_part s me rec before rest one two like }
