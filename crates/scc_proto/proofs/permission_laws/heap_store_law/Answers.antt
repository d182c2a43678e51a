use Rattle.scc_proto.proofs.PermissionLaws.{heap_stored_where}
use Rattle.scc_proto.proofs.permission_laws.heap_store_law.Goals as goal

pub returns : goal.returns
returns c = record { law = λ s me rec place value is. heap_stored_where s me rec place value is }
