use Rattle.scc_proto.proofs.PermissionLaws.{none_where}
use Rattle.scc_proto.proofs.permission_laws.register_law.Goals as goal

pub returns-clause-take : goal.returns-clause-take
returns-clause-take c = λ s me core rec taken. none_where (rec.held core)

pub returns-clause-free : goal.returns-clause-free
returns-clause-free c = λ s me core rec. (λ t. t, λ t. t)
