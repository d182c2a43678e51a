use Rattle.std.proofs.Common.{refl}
use Rattle.scc_proto.proofs.PermissionLaws.{idle_not_stored}
use Rattle.scc_proto.proofs.permission_laws.plain_words_law.Goals as goal

pub returns-clause-idle : goal.returns-clause-idle
returns-clause-idle c = λ s me rec place value is t. idle_not_stored s me rec place value is t

pub returns-clause-load : goal.returns-clause-load
returns-clause-load c = λ s me rec place value. refl
