use Rattle.std.proofs.Common.{ℕ, ◌+◌, ◌<◌, length, refl, ap, subst, arith, slice_index_or}
use Rattle.chip_run.specs.Away.{IsAway, Batches, slice_left}
use Rattle.chip_run.specs.declared.members.Member.{Member}
use Rattle.chip_run.proofs.ServedLaws.{one_entry, sum_set}
use Rattle.chip_run.proofs.ThreadLaws.{none_served, all_served, away_yet}
use Rattle.chip_run.proofs.TogetherLaws.{left_less, left_on, over_one, served_one}
use Rattle.chip_run.proofs.together.pass.Goals as goal

pub loop-at-init : goal.loop-at-init
loop-at-init g c = record { served = none_served _ c.args.members.now; left = omega arith; over = λ no k d low. absurd (omega (arith, low)) }

pub go_on-goes-requires : goal.go_on-goes-requires
go_on-goes-requires g c =
    let about = c.args.words.space.now.about in
    let table = c.args.words.space.now.table in
    let d = c.index-members-at.result in record {
      away = away_yet g.W.Worker.behaviour.tied about about (c.args.start + c.loop-at.at) (slice_index_or c.args.members.now c.loop-at.at d) (slice_index_or c.loop-at.members c.loop-at.at d) refl
          (c.loop-at.invariant.served.left c.loop-at.at d (omega arith)) table table refl (c.requires.away c.loop-at.at d c.loop-at-test.true);
    }

pub loop-at-preserved : goal.loop-at-preserved
loop-at-preserved g c =
    let d = c.index-members-at.result in
    let now = c.loop-at.members in
    let old = slice_index_or now c.loop-at.at d in
    let new = c.go_on-goes.new.member in
    let about = c.args.words.space.now.about in
    let left : ℕ → Member _ → ℕ = λ k m. slice_left 1000 (g.W.Worker.behaviour.seen about k m.worker).left m.failed in
    let so = c.loop-at.invariant.served in
    let many = so.count in
    let inside : c.loop-at.at < length c.args.members.now = omega (arith, c.loop-at-test.true, c.loop-at.auto.at-end) in
    let low : c.loop-at.at < length c.loop-at.members = omega (arith, inside, many) in
    record {
      served = served_one (λ k m n. IsAway (g.W.Worker.behaviour.tied n.worker) about c.args.words.space.now.table (c.args.start + k) n.token
          × Batches g.W.Worker.behaviour about m.worker m.token m.failed n.worker n.token n.failed) c.args.members.now now c.loop-at.at new d inside so
          (c.go_on-goes.ensures.away, subst (λ o. Batches g.W.Worker.behaviour about o.worker o.token o.failed new.worker new.token new.failed) (so.left c.loop-at.at d (omega arith)) c.go_on-goes.ensures.batches);
      left = left_on c.loop-at.goes c.go_on-goes.result _ _ _ (left (c.args.start + c.loop-at.at) old) (left (c.args.start + c.loop-at.at) new) c.loop-at.invariant.left
          (sum_set left c.args.start c.loop-at.at (c.args.start + c.loop-at.at) now old new refl low (one_entry now c.loop-at.at d old low))
          c.go_on-goes.ensures.less (λ no. ap (left (c.args.start + c.loop-at.at)) (c.go_on-goes.ensures.over no).0);
      over = over_one (λ m. m.failed) c.loop-at.goes c.go_on-goes.result now c.loop-at.at new low c.loop-at.invariant.over (λ no. (c.go_on-goes.ensures.over no).1);
    }

pub returns-clause-served : goal.returns-clause-served
returns-clause-served g c = all_served _ c.loop-at.at _ c.args.members.now c.loop-at.members c.loop-at.auto.at-end c.loop-at-test.false c.loop-at.invariant.served

pub returns-clause-less : goal.returns-clause-less
returns-clause-less g c = left_less c.loop-at.goes _ _ c.loop-at.invariant.left

pub returns-clause-over : goal.returns-clause-over
returns-clause-over g c = λ no k d low. c.loop-at.invariant.over no k d (omega (arith, low, c.loop-at.auto.members, c.loop-at-test.false))
