use Rattle.std.proofs.Common.{rules}
use Rattle.rcce_ue.proofs.calls.begin.Goals as goal

-- Names the goal, so that the prover rejects a wrong body at once, without a search.
pub returns-in-Some-Bar : goal.returns-in-Some-Bar
returns-in-Some-Bar c = search rules
