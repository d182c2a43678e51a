use Rattle.std.proofs.Common.{◌≡◌, ◌<◌, ◌==◌, false, sym, arith}
use Rattle.std.proofs.lemmas.Bool.{ne_eqb}
use Rattle.mpb_alloc.specs.Heaps.{lines_for}
use Rattle.mpb_alloc.proofs.RunLemmas.{within_from_apart}
use Rattle.mpb_alloc.proofs.HeapLemmas.{goes, taken_none, answer_none}
use Rattle.mpb_alloc.proofs.heap.Heap.malloc.Goals as goal

pub take_lowest-requires-clause-within : goal.take_lowest-requires-clause-within
take_lowest-requires-clause-within c = within_from_apart c.self.inside.free.items 225 (omega arith) c.self.invariant.free_apart

pub push-requires : goal.push-requires
push-requires c =
    let some : 0 < c.div_ceil-asked.result = omega arith in
    let g = goes (record { free = c.self.inside.free.items; out = c.self.inside.out.items }) c.div_ceil-asked.result c.in-Some.buffer c.self.invariant some c.in-Some.ensures.front in
    (omega arith, g.room)

pub invariant_of-self : goal.invariant_of-self
invariant_of-self c =
    let some : 0 < c.div_ceil-asked.result = omega arith in
    let g = goes (record { free = c.self.inside.free.items; out = c.self.inside.out.items }) c.div_ceil-asked.result c.in-Some.buffer c.self.invariant some c.in-Some.ensures.front in
    rw (c.push.ensures.items, c.of.ensures, c.take_lowest.ensures.free) g.heap

pub returns-in-Some-clause-heap : goal.returns-in-Some-clause-heap
returns-in-Some-clause-heap c = invariant_of-self c

pub invariant_of-self-in-None : goal.invariant_of-self-in-None
invariant_of-self-in-None c =
    rw (c.take_lowest.ensures.free, taken_none c.div_ceil-asked.result c.self.inside.free.items c.in-None.ensures.front) c.self.invariant

pub returns-in-None-clause-unchanged : goal.returns-in-None-clause-unchanged
returns-in-None-clause-unchanged c =
    rw (c.take_lowest.ensures.free, taken_none c.div_ceil-asked.result c.self.inside.free.items c.in-None.ensures.front) c.self.view_is

pub returns-in-None-clause-answer : goal.returns-in-None-clause-answer
returns-in-None-clause-answer c =
    let lines : c.div_ceil-asked.result ≡ lines_for c.args.bytes = omega arith in
    let t : (c.args.bytes == 0) ≡ false = ne_eqb c.args.bytes 0 c.if-bytes-eq0.false in
    let kept = taken_none c.div_ceil-asked.result c.self.inside.free.items c.in-None.ensures.front in
    let a = answer_none c.div_ceil-asked.result c.self.inside.free.items c.in-None.ensures.front in
    rw (c.longest.ensures, c.take_lowest.ensures.free, kept, ← c.self.view_is, t, ← lines) (sym a)
