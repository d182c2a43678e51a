use Rattle.std.proofs.Common.{List, subst, sym}
use Rattle.scc_proto.specs.Words.{RankEvent}
use Rattle.trace_judge.specs.Followed.{IsFollowed}
use Rattle.trace_judge.proofs.FollowFacts.{nothing_made}
use Rattle.trace_judge.proofs.judge.Judge.new.Goals as goal

pub invariant_of-result : goal.invariant_of-result
invariant_of-result c =
    let monitors = c.in_ok-monitors.monitors.items in
    subst (λ (run : List RankEvent). IsFollowed c.args.setup monitors run) (sym c.in_ok-words.ensures.gives)
    (nothing_made c.args.setup monitors c.nue-nue.ensures.valid c.in_ok-monitors.ensures.count c.in_ok-monitors.ensures.follows)
