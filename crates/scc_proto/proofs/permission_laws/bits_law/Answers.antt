use Rattle.scc_proto.proofs.PermissionLaws.{bits_where}
use Rattle.scc_proto.proofs.permission_laws.bits_law.Goals as goal

pub returns : goal.returns
returns c = record { stored = λ signal s me owner value rec place is. bits_where signal s me owner value rec place is }
