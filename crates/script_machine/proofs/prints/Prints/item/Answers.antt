use Rattle.std.proofs.Common.{ℕ, List, ◌∙◌, ap, arith, sym, length, Some, take, drop}
use Rattle.script_machine.specs.Rooms.{PrintsView}
use Rattle.script_machine.proofs.ProgramLengths.RoomLaws.{item_there, piece}
use Rattle.script_machine.proofs.prints.Prints.item.Goals as goal

pub slice_bounds-rest-count : goal.slice_bounds-rest-count
slice_bounds-rest-count c =
    let old = c.self.inside in
    let there = item_there old.bytes.items old.table.items c.args.self.now.items c.args.i c.index-entry.result.now (ap (λ (p : PrintsView). p.items) c.self.view_is) c.requires c.self.invariant.0 c.index-entry.ensures in
    omega (arith, there.1, ap length c.as_slice.ensures.value)

pub slice_bounds-rest-start : goal.slice_bounds-rest-start
slice_bounds-rest-start c = slice_bounds-rest-count c

pub slice_bounds-result-end : goal.slice_bounds-result-end
slice_bounds-result-end c =
    let old = c.self.inside in
    let there = item_there old.bytes.items old.table.items c.args.self.now.items c.args.i c.index-entry.result.now (ap (λ (p : PrintsView). p.items) c.self.view_is) c.requires c.self.invariant.0 c.index-entry.ensures in
    (piece c.as_slice.result.now c.index-entry.result.now.start c.index-entry.result.now.len (omega (arith, there.1, ap length c.as_slice.ensures.value))).1

pub returns : goal.returns
returns c =
    let old = c.self.inside in
    let entry = c.index-entry.result.now in
    let there = item_there old.bytes.items old.table.items c.args.self.now.items c.args.i entry (ap (λ (p : PrintsView). p.items) c.self.view_is) c.requires c.self.invariant.0 c.index-entry.ensures in
    let part = (piece c.as_slice.result.now entry.start entry.len (omega (arith, there.1, ap length c.as_slice.ensures.value))).0 in
    let same = ap (λ (l : List ℕ). take entry.len (drop entry.start l)) (sym c.as_slice.ensures.value) ∙ sym part in
    there.0 ∙ (λ i. Some (record { reg = entry.reg; form = entry.form; bytes = same i }))
