use Rattle.scc_base.proofs.Confluence.{one_end}
use Rattle.scc_proto.specs.Legality.{OwnStep}
use Rattle.scc_proto.proofs.Legality.StepLaws.{only_one, either_order}
use Rattle.scc_proto.proofs.laws.end_law.Goals as goal

pub returns : goal.returns
returns c = record { law = λ nue keys. one_end (OwnStep nue keys) (only_one nue keys) (either_order nue keys) }
