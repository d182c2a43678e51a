use Rattle.std.proofs.Common.{◌∙◌, [], ap, arith}
use Rattle.script_machine.specs.Lengths.{lengths_of}
use Rattle.script_machine.specs.Program.{Prim}
use Rattle.script_machine.specs.Rooms.{AreWithin, PrintsView, local_by, rooms_by}
use Rattle.script_machine.specs.Walk.{WalkView}
use Rattle.script_machine.proofs.ProgramLengths.RoomLaws.{held_by, within_now}
use Rattle.script_machine.proofs.machines.Machine.take_items.Goals as goal

pub invariant_of-self : goal.invariant_of-self
invariant_of-self c =
    let m = c.self.inside in
    let none : PrintsView = record { items = []; room = 0; bytes = 0 } in
    let now = c.replace.ensures.after ∙ c.none.ensures in
    let room = rooms_by m.held.registers m.held.folded m.held.taken m.held.spare none in
    let lengths = lengths_of (local_by m.held.registers m.held.folded m.held.taken m.walk none m.state) in
    let fits = within_now (rooms_by m.held.registers m.held.folded m.held.taken m.held.spare m.held.prints) (lengths_of (local_by m.held.registers m.held.folded m.held.taken m.walk m.held.prints m.state)) m.walk.left c.self.invariant in
    let end : AreWithin room lengths [] = record { registers = fits.registers; accumulator = fits.accumulator; received = fits.received; items = omega arith; printed = omega arith } in
    held_by room (rooms_by m.held.registers m.held.folded m.held.taken m.held.spare c.replace.new.dest) lengths (lengths_of (local_by m.held.registers m.held.folded m.held.taken c.finish.new.self c.replace.new.dest m.state)) [] c.finish.new.self.left
    (λ i. rooms_by m.held.registers m.held.folded m.held.taken m.held.spare (now i)) (λ i. lengths_of (local_by m.held.registers m.held.folded m.held.taken c.finish.new.self (now i) m.state)) (ap (λ (w : WalkView). w.left) c.finish.ensures) end
