use Rattle.scc_proto.proofs.PermissionLaws.{go_on_where}
use Rattle.scc_proto.proofs.permission_laws.lower_ready_law.Goals as goal

pub returns : goal.returns
returns c = record { law = λ size by rec. go_on_where size by rec }
