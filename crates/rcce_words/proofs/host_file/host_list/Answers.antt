use Rattle.std.proofs.Common.{arith, rules}
use Rattle.rcce_words.proofs.HostLemmas.{filled_apart, hosts_filled}
use Rattle.rcce_words.proofs.host_file.host_list.Goals as goal

pub returns-clause-gives : goal.returns-clause-gives
returns-clause-gives c = hosts_filled c.args.nue c.args.cores.now c.loop-rank.hosts c.loop-rank.invariant.all (λ k h. c.loop-rank.invariant.each k (omega arith))

pub returns-clause-apart : goal.returns-clause-apart
returns-clause-apart c =
    filled_apart c.args.nue c.args.cores.now c.loop-rank.hosts c.loop-rank.invariant.all (λ k h. c.loop-rank.invariant.each k (omega arith))
    c.requires.most c.requires.enough c.at-hosts.ensures.valid

-- Names the goal, so that the prover rejects a wrong body at once, without a search.
pub loop-rank-preserved : goal.loop-rank-preserved
loop-rank-preserved c = search rules
