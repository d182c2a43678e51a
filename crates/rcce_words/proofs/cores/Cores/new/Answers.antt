use Rattle.rcce_words.proofs.HostLemmas.{no_cores}
use Rattle.rcce_words.proofs.cores.Cores.new.Goals as goal

pub invariant_of-result : goal.invariant_of-result
invariant_of-result c = rw c.new.ensures no_cores
