use Rattle.std.proofs.Common.{refl}
use Rattle.sync_flags.proofs.LookLemmas.{flag_looks}
use Rattle.sync_flags.proofs.looks.look_flag.Goals as goal

pub returns-clause-reads : goal.returns-clause-reads
returns-clause-reads g c = flag_looks c.look_word.ensures.looks _ _ _ refl c.is_set_in.ensures.tells
