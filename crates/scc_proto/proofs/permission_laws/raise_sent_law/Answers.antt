use Rattle.scc_proto.proofs.PermissionLaws.{raise_where}
use Rattle.scc_proto.proofs.permission_laws.raise_sent_law.Goals as goal

pub returns : goal.returns
returns c = record { law = λ size to rec. raise_where size to rec }
