use Rattle.std.proofs.Common.{◌≡◌, ◌-◌, ◌&&◌, ◌==◌, not, suc, false, sym, ◌∙◌, arith}
use Rattle.scc_proto.specs.Records.{lowers_bit}
use Rattle.rank_monitor.proofs.StepLaws.{lowered_next}
use Rattle.rank_monitor.proofs.changes.lowered.Goals as goal

pub loop-left-preserved : goal.loop-left-preserved
loop-left-preserved c =
    let one : c.loop-left.left ≡ suc (c.loop-left.left - 1) = omega (arith, c.loop-left-test.true) in
    let at = c.of-rank.ensures.gives in
    let none : (not ((c.loop-left.left - 1) == c.args.me) && lowers_bit (c.loop-left.left - 1) c.args.old c.args.new) ≡ false
    = (λ i. not (sym at i == c.args.me) && lowers_bit (sym at i) c.args.old c.args.new) ∙ (λ i. sym c.ne.ensures i && sym c.lowers_bit.ensures.tells i) ∙ sym c.both-found.ensures.tells ∙ c.if-found.false in
    record {
      rest = c.loop-left.invariant.rest ∙ lowered_next c.args.me c.args.old c.args.new c.loop-left.left (c.loop-left.left - 1) one none;
      within = omega (arith, c.loop-left.invariant.within);
    }
