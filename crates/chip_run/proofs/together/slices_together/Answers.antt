use Rattle.std.proofs.Common.{rules, ℕ, ◌+◌, ◌<◌, sym, ◌∙◌, subst, arith, slice_index_or}
use Rattle.chip_run.specs.Away.{IsAway, NoBatch, Batches}
use Rattle.chip_run.proofs.ServedLaws.{some_worker}
use Rattle.chip_run.proofs.TogetherLaws.{batches_both, took_slice}
use Rattle.chip_run.proofs.together.slices_together.Goals as goal

pub begin_all-requires-clause-away : goal.begin_all-requires-clause-away
begin_all-requires-clause-away g c = c.requires.away

pub loop-start-init : goal.loop-start-init
loop-start-init g c = record {
  count = c.begin_all.ensures.served.count;
  done = λ k d low within.
      subst
      (λ n. IsAway (g.W.Worker.behaviour.tied n.worker) c.args.words.space.now.about c.args.words.space.now.table (c.args.start + k) n.token
      × Batches g.W.Worker.behaviour c.args.words.space.now.about (slice_index_or c.args.members.now k d).worker (slice_index_or c.args.members.now k d).token 0 n.worker n.token n.failed × g.G.Gate.passed c.args.gate.now (c.args.start + k))
      (sym (c.begin_all.ensures.served.done k d low within).0)
      (c.requires.away k d within, NoBatch, (c.begin_all.ensures.served.done k d low within).1);
  left = c.begin_all.ensures.served.left;
}

pub pass-requires-clause-room : goal.pass-requires-clause-room
pass-requires-clause-room g c = omega (arith, c.requires.room, c.loop-start.invariant.count)

pub pass-requires-clause-away : goal.pass-requires-clause-away
pass-requires-clause-away g c = λ k d low.
    let within = subst (λ (n : ℕ). k < n) c.loop-start.invariant.count low in
    (c.loop-start.invariant.done k d within within).0

pub loop-start-preserved : goal.loop-start-preserved
loop-start-preserved g c =
    let so = c.loop-start.invariant in
    let on = c.pass.ensures.served in record {
      count = on.count ∙ so.count;
      done = λ k d low within.
          let before = so.done k d low within in
          let inside = subst (λ (n : ℕ). k < n) (sym so.count) within in
          let step = on.done k d inside inside in
          (step.0, batches_both g.W.Worker.behaviour c.args.words.space.now.about _ _ _ _ 0 _ before.1 _ _ _ step.1, before.2);
      left = λ k d past. on.left k d (omega (arith, past, so.count)) ∙ so.left k d past;
    }

pub returns-then-not-pass-clause-count : goal.returns-then-not-pass-clause-count
returns-then-not-pass-clause-count g c = c.pass.ensures.served.count ∙ c.loop-start.invariant.count

pub returns-then-not-pass-clause-away : goal.returns-then-not-pass-clause-away
returns-then-not-pass-clause-away g c = λ k d within.
    let inside = subst (λ (n : ℕ). k < n) (sym c.loop-start.invariant.count) within in
    (c.pass.ensures.served.done k d inside inside).0

pub returns-then-not-pass-clause-slices : goal.returns-then-not-pass-clause-slices
returns-then-not-pass-clause-slices g c = λ k d within.
    let so = c.loop-start.invariant in
    let on = c.pass.ensures.served in
    let before = so.done k d within within in
    let inside = subst (λ (n : ℕ). k < n) (sym so.count) within in
    let step = on.done k d inside inside in
    took_slice g.W.Worker.behaviour (g.W.Worker.behaviour.tied (slice_index_or c.args.members.now k d).worker) c.args.words.space.now.about c.args.words.space.now.table (c.args.start + k)
    _ _ (slice_index_or c.args.members.now k d).token (slice_index_or c.pass.new.members k d).token (slice_index_or c.pass.new.members k d).failed (c.requires.away k d within)
    (batches_both g.W.Worker.behaviour c.args.words.space.now.about _ _ _ _ 0 _ before.1 _ _ _ step.1)
    (c.pass.ensures.over (search rules) k d (subst (λ (n : ℕ). k < n) (sym on.count) inside))

pub returns-then-not-pass-clause-passed : goal.returns-then-not-pass-clause-passed
returns-then-not-pass-clause-passed g c = λ k within. (c.loop-start.invariant.done k (some_worker c.args.members.now (omega (arith, within))) within within).2
