use Rattle.std.proofs.Common.{[], ◌∙◌, ap, arith, get_or, subst, sym}
use Rattle.script_rules.proofs.TallyLemmas.{IsTally-empty, empty-more}
use Rattle.script_rules.specs.Tally.{IsTally}
use Rattle.script_rules.proofs.tally.no_tallies.Goals as goal

pub loop-preserved : goal.loop-preserved
loop-preserved c = record {
  ranks = omega (arith, c.in_ok-push.ensures.len);
  empty = λ k d below. ap (λ items. get_or items k d) c.in_ok-push.ensures.items ∙ empty-more c.loop.tallies.items c.loop.counter (omega (arith, c.loop.tallies.ok.0)) c.loop.invariant.empty k d below;
}

pub returns-clause-empty : goal.returns-clause-empty
returns-clause-empty c = λ rank d below. subst (λ tally. IsTally tally c.args.nue [] rank) (sym (c.loop.invariant.empty rank d (omega arith))) (IsTally-empty c.args.nue rank)
