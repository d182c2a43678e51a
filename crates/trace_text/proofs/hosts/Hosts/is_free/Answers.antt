use Rattle.std.proofs.Common.{◌≡◌, arith, sym, rules}
use Rattle.std.proofs.lemmas.Grind.{common_steps}
use Rattle.scc_base.specs.Setups.{host_of}
use Rattle.trace_text.proofs.HeadLemmas.{some_below}
use Rattle.trace_text.proofs.hosts.Hosts.is_free.Goals as goal

pub returns-then-eq : goal.returns-then-eq
returns-then-eq c =
    let at : host_of c.args.self.now.cores c.loop-rank.rank ≡ c.args.core = grind (arith, common_steps, c.if-eq.true, c.eq.ensures, c.index-self-rank.is) in
    sym (some_below c.args.self.now.count c.args.self.now.cores c.args.core c.loop-rank.rank c.loop-rank-test.true at)

-- Names the goal, so that the prover rejects a wrong body at once, without a search.
pub loop-rank-init : goal.loop-rank-init
loop-rank-init c = search rules
