use Rattle.scc_proto.proofs.PermissionLaws.{flip_where}
use Rattle.scc_proto.proofs.permission_laws.flip_gather_law.Goals as goal

pub returns : goal.returns
returns c = record { law = λ size comm value last rec. flip_where size comm value last rec }
