use Rattle.scc_proto.proofs.PermissionLaws.{ready_where}
use Rattle.scc_proto.proofs.permission_laws.raise_ready_law.Goals as goal

pub returns : goal.returns
returns c = record { law = λ size to rec. ready_where size to rec }
