use Rattle.scc_proto.proofs.PermissionLaws.{release_where}
use Rattle.scc_proto.proofs.permission_laws.write_release_law.Goals as goal

pub returns : goal.returns
returns c = record { law = λ size comm to place value last rec. release_where size comm to place value last rec }
