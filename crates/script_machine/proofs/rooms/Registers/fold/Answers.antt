use Rattle.std.proofs.Common.{◌∙◌, [], ap, List, ℕ, slice_index_or, slice_set}
use Rattle.script_machine.specs.Local.{fold_if_fits}
use Rattle.script_machine.specs.Rooms.{RegistersView}
use Rattle.script_machine.proofs.ProgramLengths.RoomLaws.{room_fold, room_put}
use Rattle.script_machine.proofs.rooms.Registers.fold.Goals as goal

pub returns-then-reg-len : goal.returns-then-reg-len
returns-then-reg-len c =
    let change : List ℕ → List ℕ = λ bytes. fold_if_fits c.args.op c.args.ty bytes c.args.more.now in
    let rooms = c.self.inside.rooms.items in
    let put = room_put rooms c.args.reg c.index_mut.result.now c.fold.new.self (change c.index_mut.result.now.bytes) c.fold.ensures c.index_mut.ensures.value in
    let same = room_fold change rooms c.args.reg c.index_mut.result.now c.index_mut.ensures.value in
    (λ i. record { registers = (put.0 ∙ same) i; rooms = put.1 i })
    ∙ ap (λ (r : RegistersView). record { registers = slice_set r.registers c.args.reg (change (slice_index_or r.registers c.args.reg [])); rooms = r.rooms }) c.self.view_is
