use Rattle.std.proofs.Common.{refl}
use Rattle.scc_base.proofs.WorldRules as rules
use Rattle.scc_base.proofs.worlds.world_alone.Goals as goal

pub returns-clause-valid : goal.returns-clause-valid
returns-clause-valid c = rules.world_alone _ refl
