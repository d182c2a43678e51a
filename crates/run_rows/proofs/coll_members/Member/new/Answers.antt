use Rattle.std.proofs.Common.{ap}
use Rattle.put_get.specs.Cores.{Private}
use Rattle.run_rows.proofs.OpLemmas.{op_starts}
use Rattle.run_rows.proofs.coll_members.Member.new.Goals as goal

pub returns : goal.returns
returns g c = record {
  ready = λ s r. op_starts s r c.new.result c.new-2.result (ap (λ (x : Private). x.out) c.new.ensures) c.new-2.ensures.empty;
}
