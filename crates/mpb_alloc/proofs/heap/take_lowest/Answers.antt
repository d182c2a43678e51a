use Rattle.std.proofs.Common.{rules, arith}
use Rattle.mpb_alloc.proofs.WalkLemmas.{fits_here, passed_one, rest_stays, rest_replaces}
use Rattle.mpb_alloc.proofs.heap.take_lowest.Goals as goal
use Rattle.mpb_alloc.proofs.heap.take_lowest.Goals.{then-lines-run, else-lines-run}

pub returns-then-lines-from-clause-free : goal.returns-then-lines-from-clause-free
returns-then-lines-from-clause-free c =
    let i = c.loop-at.invariant in
    let f = fits_here c.args.lines c.loop-at.at c.loop-at.free.items c.run_at-run.result (omega arith) c.run_at-run.ensures i.2 (omega arith) in
    elim c.if-lines-run.branch [
      | then-lines-run w ↦ cc (rest_replaces c.args.lines c.loop-at.at c.loop-at.free.items c.run_at-run.result (omega arith) f (omega arith))
      | else-lines-run w ↦ cc (rest_stays c.args.lines c.loop-at.at c.loop-at.free.items c.run_at-run.result f (omega arith))
    ]

-- Those below are answered by name, so that a body which turns them is refused at once, with no search.

pub returns-then-lines-from-clause-front : goal.returns-then-lines-from-clause-front
returns-then-lines-from-clause-front c =
    let f = fits_here c.args.lines c.loop-at.at c.loop-at.free.items c.run_at-run.result (omega arith) c.run_at-run.ensures c.loop-at.invariant.2 (omega arith) in
    search (rules, f.fit, f.within)

pub unwrap-requires : goal.unwrap-requires
unwrap-requires c =
    let f = fits_here c.args.lines c.loop-at.at c.loop-at.free.items c.run_at-run.result (omega arith) c.run_at-run.ensures c.loop-at.invariant.2 (omega arith) in
    search (rules, f.within)

pub overflow_add-run : goal.overflow_add-run
overflow_add-run c =
    let f = fits_here c.args.lines c.loop-at.at c.loop-at.free.items c.run_at-run.result (omega arith) c.run_at-run.ensures c.loop-at.invariant.2 (omega arith) in
    search (rules, f.within)

pub loop-at-preserved : goal.loop-at-preserved
loop-at-preserved c =
    let i = c.loop-at.invariant in
    (i.0, i.1, passed_one c.args.lines c.loop-at.at c.loop-at.free.items c.run_at-run.result (omega arith) c.run_at-run.ensures i.2 (omega arith))
