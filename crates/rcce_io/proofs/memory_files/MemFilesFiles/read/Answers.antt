use Rattle.std.proofs.Common.{◌≡◌, ◌∙◌, Bool, Some, option_map, drop, length, length-append, length-take, ap, sym, rules, arith}
use Rattle.rcce_io.specs.Memory.{after_call}
use Rattle.rcce_io.specs.MemoryFiles.{contents_at}
use Rattle.rcce_io.proofs.EndLemmas.{at_end, at_some}
use Rattle.rcce_io.proofs.MemoryLemmas.{contents_at-file, least_first, least_of_room, place_known, place_moved, rest-moved}
use Rattle.rcce_io.proofs.ReadingLemmas.{front_size}
use Rattle.rcce_io.proofs.memory_files.MemFilesFiles.read.Goals as goal

pub invariant_of-self : goal.invariant_of-self
invariant_of-self c = c.self.invariant

pub slice_bounds-rest-count : goal.slice_bounds-rest-count
slice_bounds-rest-count c =
    place_known c.self.inside.files.items c.self.inside.place c.in-Some.place c.index.result.now c.deref.result.now c.self.invariant.0 c.in-Some.is c.index.ensures c.deref.ensures.value

pub invariant_of-self-then-len-eq0 : goal.invariant_of-self-then-len-eq0
invariant_of-self-then-len-eq0 c = c.self.invariant

pub returns-then-len-eq0 : goal.returns-then-len-eq0
returns-then-len-eq0 c =
    let place = c.in-Some.place in
    let within = (c.self.invariant.0 place c.in-Some.is).file in
    let told = contents_at-file c.self.inside.files.items place.file c.index.result.now within c.index.ensures ∙ sym c.deref.ensures.value in
    let counted = c.count.ensures ∙ ap (λ (b : Bool). after_call b c.self.inside.calls) c.if-failed.false in
    let ends = at_end c.self.inside c.count.new.self c.args.self.now place c.deref.result.now (length c.args.buf.now) c.min-room.result c.min-len.result
    c.self.view_is c.in-Some.is told c.if-failed.ensures counted c.min-room.ensures c.requires.room c.self.invariant.1 c.min-len.ensures c.if-len-eq0.true in
    record { reads = ends.0; answers = ends.1; state = ends.2 }

pub slice_bounds-copy_from_slice-end : goal.slice_bounds-copy_from_slice-end
slice_bounds-copy_from_slice-end c = least_of_room c.min-len.result _ c.min-room.result _ _ c.min-len.ensures c.min-room.ensures

pub slice_bounds-copy_from_slice-end-2 : goal.slice_bounds-copy_from_slice-end-2
slice_bounds-copy_from_slice-end-2 c = front_size c.min-len.result c.args.buf.now (least_of_room c.min-len.result _ c.min-room.result _ _ c.min-len.ensures c.min-room.ensures)

pub slice_bounds-copy_from_slice-end-3 : goal.slice_bounds-copy_from_slice-end-3
slice_bounds-copy_from_slice-end-3 c = front_size c.min-len.result _ (least_first c.min-len.result _ c.min-room.result c.min-len.ensures)

pub copy_from_slice-requires : goal.copy_from_slice-requires
copy_from_slice-requires c =
    sym (front_size c.min-len.result c.args.buf.now (least_of_room c.min-len.result _ c.min-room.result _ _ c.min-len.ensures c.min-room.ensures))
    ∙ front_size c.min-len.result _ (least_first c.min-len.result _ c.min-room.result c.min-len.ensures)

pub invariant_of-self-2 : goal.invariant_of-self-2
invariant_of-self-2 c = (
  place_moved c.self.inside.files.items c.self.inside.place c.in-Some.place c.index.result.now c.deref.result.now c.self.invariant.0 c.in-Some.is c.index.ensures c.deref.ensures.value
      c.min-len.result c.min-room.result c.min-len.ensures,
  c.self.invariant.1,
)

pub returns-clause-reads : goal.returns-clause-reads
returns-clause-reads c =
    let within = (c.self.invariant.0 c.in-Some.place c.in-Some.is).file in
    let contents : contents_at c.self.inside.files.items c.in-Some.place.file ≡ c.deref.result.now =
    contents_at-file c.self.inside.files.items c.in-Some.place.file c.index.result.now within c.index.ensures ∙ sym c.deref.ensures.value in
    let was : c.args.self.now.rest ≡ Some (drop c.in-Some.place.at (contents_at c.self.inside.files.items c.in-Some.place.file)) =
    sym (ap (λ s. s.rest) c.self.view_is)
    ∙ ap (option_map (λ p. drop p.at (contents_at c.self.inside.files.items p.file))) c.in-Some.is in
    let size : c.min-len.result ≡ length c.copy_from_slice.new.self =
    omega (arith, c.copy_from_slice.ensures.len, length-take c.min-len.result c.args.buf.now) in
    let moved = rest-moved c.deref.result.now c.copy_from_slice.new.self (drop c.min-len.result c.args.buf.now) c.in-Some.place.at c.min-len.result
    c.copy_from_slice.ensures.after size in (
      search rules,
      search rules,
      rw (length-append c.copy_from_slice.new.self (drop c.min-len.result c.args.buf.now)) (omega arith),
      was ∙ ap (λ b. Some b) (rw contents moved),
    )

pub returns-clause-answers : goal.returns-clause-answers
returns-clause-answers c =
    let place = c.in-Some.place in
    let within = (c.self.invariant.0 place c.in-Some.is).file in
    let told = contents_at-file c.self.inside.files.items place.file c.index.result.now within c.index.ensures ∙ sym c.deref.ensures.value in
    let counted = c.count.ensures ∙ ap (λ (b : Bool). after_call b c.self.inside.calls) c.if-failed.false in
    (at_some c.self.inside c.count.new.self c.args.self.now place c.deref.result.now (length c.args.buf.now) c.min-room.result c.min-len.result
    c.self.view_is c.in-Some.is told c.if-failed.ensures counted c.min-room.ensures c.min-len.ensures c.if-len-eq0.false).0

pub returns-clause-state : goal.returns-clause-state
returns-clause-state c =
    let place = c.in-Some.place in
    let within = (c.self.invariant.0 place c.in-Some.is).file in
    let told = contents_at-file c.self.inside.files.items place.file c.index.result.now within c.index.ensures ∙ sym c.deref.ensures.value in
    let counted = c.count.ensures ∙ ap (λ (b : Bool). after_call b c.self.inside.calls) c.if-failed.false in
    (at_some c.self.inside c.count.new.self c.args.self.now place c.deref.result.now (length c.args.buf.now) c.min-room.result c.min-len.result
    c.self.view_is c.in-Some.is told c.if-failed.ensures counted c.min-room.ensures c.min-len.ensures c.if-len-eq0.false).1
