use Rattle.std.proofs.Common.{◌≡◌, ◌+◌, ◌++◌, ◌∷◌, [], ◌∙◌, ap, sym, arith, subst, length, map, ℕ, List}
use Rattle.std.proofs.lemmas.List.{length-append}
use Rattle.script_machine.specs.Lengths.{printed_bytes}
use Rattle.script_machine.specs.Rooms.{AreCut, PrintsView, printed_of_entry}
use Rattle.script_machine.specs.Printed.{Printed}
use Rattle.script_machine.specs.declared.prints.Entry.{Entry}
use Rattle.script_machine.proofs.ProgramLengths.NextLengths.{printed_more}
use Rattle.script_machine.proofs.ProgramLengths.RoomLaws.{cut_last, cut_more, cut_push}
use Rattle.script_machine.proofs.prints.Prints.print.Goals as goal

pub invariant_of-self : goal.invariant_of-self
invariant_of-self c =
    let old = c.self.inside in
    let bytes = old.bytes.items in
    let table = old.table.items in
    let item : Printed = record { reg = c.args.reg; form = c.args.form; bytes = c.args.bytes.now } in
    let entry : Entry = record { reg = c.args.reg; form = c.args.form; start = length c.as_slice-start.result.now; len = c.short_len.result } in
    let long = ap length c.append.ensures.items ∙ length-append bytes c.args.bytes.now in
    let start : length c.as_slice-start.result.now ≡ length bytes = ap length c.as_slice-start.ensures.value in
    let items : map (printed_of_entry c.append.new.bytes.items) c.push_reserved.new.self.items ≡ map (printed_of_entry bytes) table ++ item ∷ [] =
    (λ i. map (printed_of_entry (c.append.ensures.items i)) (c.push_reserved.ensures.items i)) ∙ cut_last bytes c.args.bytes.now table entry c.self.invariant.0 start c.short_len.ensures in
    let P : List Entry → Type 0 = λ t. AreCut (length c.append.new.bytes.items) t in (
      subst P (sym c.push_reserved.ensures.items)
          (cut_push (length c.append.new.bytes.items) table entry (cut_more (length bytes) (length c.append.new.bytes.items) table (omega (arith, long)) c.self.invariant.0)
          (omega (arith, long, start, c.short_len.ensures))),
      (
        ap printed_bytes items ∙ printed_more (map (printed_of_entry bytes) table) item ∙ ap (λ (n : ℕ). n + length c.args.bytes.now) c.self.invariant.1.0 ∙ sym long,
        omega (arith, c.append.ensures.room, c.self.invariant.1.1),
      ),
    )

pub returns : goal.returns
returns c =
    let old = c.self.inside in
    let bytes = old.bytes.items in
    let table = old.table.items in
    let item : Printed = record { reg = c.args.reg; form = c.args.form; bytes = c.args.bytes.now } in
    let entry : Entry = record { reg = c.args.reg; form = c.args.form; start = length c.as_slice-start.result.now; len = c.short_len.result } in
    let start : length c.as_slice-start.result.now ≡ length bytes = ap length c.as_slice-start.ensures.value in
    let items : map (printed_of_entry c.append.new.bytes.items) c.push_reserved.new.self.items ≡ map (printed_of_entry bytes) table ++ item ∷ [] =
    (λ i. map (printed_of_entry (c.append.ensures.items i)) (c.push_reserved.ensures.items i)) ∙ cut_last bytes c.args.bytes.now table entry c.self.invariant.0 start c.short_len.ensures in
    (λ i. record { items = items i; room = c.push_reserved.ensures.capacity i; bytes = old.most })
    ∙ ap (λ (p : PrintsView). record { items = p.items ++ item ∷ []; room = p.room; bytes = p.bytes }) c.self.view_is
