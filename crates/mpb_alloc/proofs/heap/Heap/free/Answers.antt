use Rattle.std.proofs.Common.{sym, subst, Contains}
use Rattle.mpb_alloc.specs.Heaps.{LineHeap, run_of_lines}
use Rattle.mpb_alloc.proofs.HeapLemmas.{comes, Comes}
use Rattle.mpb_alloc.proofs.heap.Heap.free.Goals as goal

back : (c : goal.After-give_back-arg-1) → Comes (record { free = c.self.inside.free.items; out = c.self.inside.out.items }) (run_of_lines c.args.buffer)
back c =
    comes (record { free = c.self.inside.free.items; out = c.self.inside.out.items }) (run_of_lines c.args.buffer) c.self.invariant
    (subst (λ (h : LineHeap). Contains h.out (run_of_lines c.args.buffer)) (sym c.self.view_is) c.requires)

pub give_back-requires-clause-room : goal.give_back-requires-clause-room
give_back-requires-clause-room c = (back c).room

pub give_back-requires-clause-within : goal.give_back-requires-clause-within
give_back-requires-clause-within c = (back c).within

pub invariant_of-self : goal.invariant_of-self
invariant_of-self c =
    let b =
    comes (record { free = c.self.inside.free.items; out = c.self.inside.out.items }) (run_of_lines c.args.buffer) c.self.invariant
    (subst (λ (h : LineHeap). Contains h.out (run_of_lines c.args.buffer)) (sym c.self.view_is) c.requires) in
    rw (c.give_back.ensures, c.strike.ensures, c.of-run.ensures) b.heap

pub returns-clause-heap : goal.returns-clause-heap
returns-clause-heap c = invariant_of-self c
