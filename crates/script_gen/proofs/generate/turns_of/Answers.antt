use Rattle.std.proofs.Common.{refl}
use Rattle.script_gen.proofs.generate.turns_of.Goals as goal

-- Names the goal, so that the prover rejects a wrong body at once, without a search.
pub returns : goal.returns
returns c = refl
