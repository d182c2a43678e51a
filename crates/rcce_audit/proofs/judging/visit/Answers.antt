use Rattle.std.proofs.Common.{◌<◌, ℕ, Bool, false, refl, ap, subst, arith, length, set}
use Rattle.rcce_audit.specs.Standings.{TriesFirst}
use Rattle.rcce_audit.specs.Views.{data_lists}
use Rattle.rcce_audit.proofs.StepLemmas.{sleep_quiet, step_quiet}
use Rattle.rcce_audit.proofs.judging.visit.Goals as goal

pub returns-then-not-stepped-clause-quiet : goal.returns-then-not-stepped-clause-quiet
returns-then-not-stepped-clause-quiet c =
    let s = c.args.setup.now in
    let lists = data_lists c.args.lists.now in
    let new = c.try_first-stepped.new.progress in
    let below : c.args.rank < length new.awake = omega arith in
    sleep_quiet s lists c.args.rank c.args.progress.now new _
    (subst (λ (b : Bool). TriesFirst s lists c.args.rank c.args.progress.now new b) c.if-not-stepped.true c.try_first-stepped.ensures)
    refl refl (ap (λ (n : ℕ). set new.awake n false) c.number-place.ensures.gives) below c.requires.quiet

pub returns-else-not-stepped-clause-quiet : goal.returns-else-not-stepped-clause-quiet
returns-else-not-stepped-clause-quiet c =
    let s = c.args.setup.now in
    let lists = data_lists c.args.lists.now in
    step_quiet s lists c.args.rank c.args.progress.now c.try_first-stepped.new.progress
    (subst (λ (b : Bool). TriesFirst s lists c.args.rank c.args.progress.now c.try_first-stepped.new.progress b) c.if-not-stepped.false c.try_first-stepped.ensures) c.requires.quiet
