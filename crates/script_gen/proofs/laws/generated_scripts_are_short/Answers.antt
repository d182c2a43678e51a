use Rattle.std.proofs.Common.{arith}
use Rattle.script_gen.proofs.Usual.{gen_short}
use Rattle.script_gen.proofs.laws.generated_scripts_are_short.Goals as goal

pub returns : goal.returns
returns c = λ nue s rank few. let short = gen_short nue s rank few in omega (arith, short)
