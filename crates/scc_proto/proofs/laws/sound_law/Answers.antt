use Rattle.scc_proto.proofs.Agreement.SoundLaw.{sound_law}
use Rattle.scc_proto.proofs.Agreement.HonestLaw.{told_law}
use Rattle.scc_proto.proofs.laws.sound_law.Goals as goal

pub returns-clause-sound : goal.returns-clause-sound
returns-clause-sound c = λ s memory records me agrees below. sound_law s memory records agrees me below

pub returns-clause-told : goal.returns-clause-told
returns-clause-told c = λ s memory records me e agrees below is step. told_law s memory records agrees me below e is step
