use Rattle.barrier.proofs.RestLemmas.{kept_both, calls_of_both, flips_of_both}
use Rattle.barrier.proofs.laws.goes_on_law.Goals as goal

pub returns : goal.returns
returns c = record {
  calls = λ s m t core b d op polls before values later stop first second. calls_of_both first second;
  flips = λ s m t core b d op polls before values later stop first second. flips_of_both first second;
  rest = λ s m t core b d op polls before values later stop first second. kept_both first.rest second.rest;
}
