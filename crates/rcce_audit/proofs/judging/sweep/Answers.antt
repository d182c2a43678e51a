use Rattle.std.proofs.Common.{◌+◌, ℕ, Bool, sym, subst}
use Rattle.rcce_audit.specs.Standings.{VisitDoes}
use Rattle.rcce_audit.specs.Views.{data_lists}
use Rattle.rcce_audit.proofs.StepLemmas.{IsSwept, swept_all, swept_none, swept_sleep, swept_step}
use Rattle.rcce_audit.proofs.judging.sweep.Goals as goal
use Rattle.rcce_audit.proofs.judging.sweep.Goals.{then-visit, else-visit}

pub loop-number-init : goal.loop-number-init
loop-number-init c = swept_none c.args.setup.now (data_lists c.args.lists.now) c.args.progress.now c.requires.quiet

pub loop-number-preserved : goal.loop-number-preserved
loop-number-preserved c =
    let s = c.args.setup.now in
    let lists = data_lists c.args.lists.now in
    let n = c.loop-number.number in
    let p = c.loop-number.progress in
    let q = c.visit.new.progress in
    let visits : VisitDoes s lists n p q c.visit.result = subst (λ (r : ℕ). VisitDoes s lists r p q c.visit.result) c.of.ensures.gives c.visit.ensures.visits in
    elim c.if-visit.branch [
      | then-visit w ↦
          subst (λ (m : Bool). IsSwept s lists (n + 1) c.args.progress.now q m) (sym w.moved-is)
          (swept_step s lists c.args.progress.now n p q c.loop-number.moved c.loop-number-test.true c.loop-number.invariant c.visit.ensures.quiet (subst (λ (b : Bool). VisitDoes s lists n p q b) w.if-visit.true visits))
      | else-visit w ↦
          subst (λ (m : Bool). IsSwept s lists (n + 1) c.args.progress.now q m) (sym w.moved-is)
          (swept_sleep s lists c.args.progress.now n p q c.loop-number.moved c.loop-number.invariant c.visit.ensures.quiet (subst (λ (b : Bool). VisitDoes s lists n p q b) w.if-visit.false visits))
    ]

pub returns-clause-sweeps : goal.returns-clause-sweeps
returns-clause-sweeps c = swept_all c.args.setup.now (data_lists c.args.lists.now) c.args.progress.now c.loop-number.number c.loop-number.progress c.loop-number.moved c.loop-number-test.false c.loop-number.invariant
