use Rattle.std.proofs.Common.{ap}
use Rattle.put_get.specs.Cores.{Private}
use Rattle.scc_rows.proofs.TalkLemmas.{talk_starts}
use Rattle.scc_rows.proofs.callers.Caller.new.Goals as goal

pub returns : goal.returns
returns c = record {
  ready = λ s r peers. talk_starts s r c.new.result c.new-2.result c.args.peer c.new-3.result.items peers (ap (λ (x : Private). x.out) c.new.ensures) c.new-2.ensures.empty;
}
