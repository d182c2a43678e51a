use Rattle.std.proofs.Common.{◌≡◌, ◌∙◌, ◌++◌, ◌+◌, ◌<◌, ◌∷◌, [], List, ℕ, ap, arith, length, subst, sym}
use Rattle.std.proofs.lemmas.List.{length-append}
use Rattle.std.specs.Prelude.{slice_get}
use Rattle.scc_proto.specs.Stages.{blank}
use Rattle.rank_monitor.specs.declared.monitors.RankMonitor.{RankMonitor}
use Rattle.trace_judge.specs.Followed.{FollowsAt}
use Rattle.trace_judge.proofs.FollowFacts.{one_more}
use Rattle.trace_judge.proofs.judge.new_monitors.Goals as goal

pub loop-number-preserved : goal.loop-number-preserved
loop-number-preserved c =
    let old = c.loop-number.monitors.items in
    let m = c.in_ok-monitor.monitor in
    let grown : c.push.new.self.items ≡ old ++ m ∷ [] = c.in_ok-push.ensures.items in
    let own = c.in_ok-monitor.ensures.setup in
    record {
      count = ap (λ (l : List RankMonitor). length l) grown ∙ length-append old (m ∷ []) ∙ omega (arith, c.loop-number.invariant.count);
      follows = subst (λ (l : List RankMonitor). (r : ℕ) → r < c.loop-number.number + 1 → FollowsAt c.args.setup.now r blank (slice_get l r)) (sym grown)
          (one_more c.args.setup.now c.loop-number.number old m c.loop-number.invariant.count c.loop-number.invariant.follows
          (own.0 ∙ c.copy.ensures.gives, own.1 ∙ c.of.ensures.gives) c.in_ok-monitor.ensures.follows);
    }
