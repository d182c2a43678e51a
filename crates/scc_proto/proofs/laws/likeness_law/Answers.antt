use Rattle.scc_proto.proofs.Words.FlagsTold.{flags_like}
use Rattle.scc_proto.proofs.laws.likeness_law.Goals as goal

pub returns : goal.returns
returns c = record { flags = λ s one other records recs a b like. flags_like s one other records recs a b like }
