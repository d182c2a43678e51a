use Rattle.scc_proto.proofs.Words.HeapLaw.{heap_loaded}
use Rattle.scc_proto.proofs.laws.heap_law.Goals as goal

pub returns : goal.returns
returns c = record { law = λ s memory lists place value agrees is step heap. heap_loaded s memory lists agrees place value is step heap }
