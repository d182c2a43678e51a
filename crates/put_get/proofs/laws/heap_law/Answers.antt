use Rattle.put_get.proofs.HeapLemmas.{law}
use Rattle.put_get.proofs.laws.heap_law.Goals as goal

pub returns : goal.returns
returns c = law
