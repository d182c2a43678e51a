use Rattle.scc_proto.proofs.laws.calls_law.Goals as goal

pub returns : goal.returns
returns c = record { law = λ s memory records me agrees below. (agrees.singles.0 me below).calls }
