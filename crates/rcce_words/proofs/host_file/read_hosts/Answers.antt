use Rattle.std.proofs.Common.{◌≤◌, ℕ, rules, subst}
use Rattle.rcce_words.proofs.HostLemmas.{hosts_said}
use Rattle.rcce_words.proofs.host_file.read_hosts.Goals as goal

-- Names the goal, so that the prover rejects a wrong body at once, without a search.
pub returns-then-len-nue-clause-gives : goal.returns-then-len-nue-clause-gives
returns-then-len-nue-clause-gives c = search rules

pub returns-clause-gives : goal.returns-clause-gives
returns-clause-gives c =
    let cores = c.in_ok-entries.entries.cores in
    hosts_said c.args.nue c.args.bytes.now cores c.host_list.result c.if-bytes-gt-MOST_HOST_BYTES.false c.in_ok-entries.ensures.gives
    (subst (λ (n : ℕ). c.args.nue ≤ n) c.len.ensures c.if-len-nue.false) c.host_list.ensures.gives

pub returns-clause-apart : goal.returns-clause-apart
returns-clause-apart c = c.host_list.ensures.apart
