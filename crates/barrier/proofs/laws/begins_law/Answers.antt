use Rattle.barrier.proofs.StageLemmas.{parity_kept}
use Rattle.barrier.proofs.RestLemmas.{barrier_starts}
use Rattle.barrier.proofs.laws.begins_law.Goals as goal

pub returns : goal.returns
returns c = record {
  barrier = λ s d values comm free below present. barrier_starts free comm below present;
  parity = λ rec new values parity same. parity_kept rec new values parity same;
}
