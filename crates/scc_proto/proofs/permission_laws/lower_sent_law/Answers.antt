use Rattle.scc_proto.proofs.PermissionLaws.{lower_where}
use Rattle.scc_proto.proofs.permission_laws.lower_sent_law.Goals as goal

pub returns : goal.returns
returns c = record { law = λ size from rec. lower_where size from rec }
