use Rattle.std.proofs.Common.{ap}
use Rattle.put_get.specs.Cores.{Private}
use Rattle.scc_rows.proofs.EntrantLemmas.{starts_ready}
use Rattle.scc_rows.proofs.whole_barriers.PasserEnters.at.Goals as goal

pub returns : goal.returns
returns c = record {
  ready = λ s r present. starts_ready s r c.new.result c.args.comm c.new-2.result c.new-3.result (ap (λ (x : Private). x.out) c.new.ensures) c.new-2.ensures.starts c.new-3.ensures.unset c.requires.below present;
}
