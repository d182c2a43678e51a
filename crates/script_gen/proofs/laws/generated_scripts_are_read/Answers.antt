use Rattle.script_gen.proofs.GenLaws.{gen_read}
use Rattle.script_gen.proofs.laws.generated_scripts_are_read.Goals as goal

pub returns : goal.returns
returns c = gen_read
