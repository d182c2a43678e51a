use Rattle.std.proofs.Common.{ap, refl}
use Rattle.put_get.specs.Cores.{Private}
use Rattle.coll_run.proofs.members.Member.new.Goals as goal

pub returns-clause-fresh : goal.returns-clause-fresh
returns-clause-fresh g c = record {
  op = c.new-3.ensures.starts;
  slot = c.new-2.ensures.empty;
  buffer = ap (λ (core : Private). core.out) c.new.ensures;
  met = refl;
}
