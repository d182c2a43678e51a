use Rattle.std.proofs.Common.{◌∙◌, ap, slice_set}
use Rattle.script_machine.specs.Rooms.{RegistersView}
use Rattle.script_machine.specs.Walk.{content_of}
use Rattle.script_machine.proofs.ProgramLengths.RoomLaws.{room_put}
use Rattle.script_machine.proofs.rooms.Registers.set.Goals as goal

pub returns-then-reg-len : goal.returns-then-reg-len
returns-then-reg-len c =
    let put = room_put c.self.inside.rooms.items c.args.reg c.index_mut.result.now c.set.new.self (content_of c.args.content.now) c.set.ensures c.index_mut.ensures.value in
    (λ i. record { registers = put.0 i; rooms = put.1 i })
    ∙ ap (λ (r : RegistersView). record { registers = slice_set r.registers c.args.reg (content_of c.args.content.now); rooms = r.rooms }) c.self.view_is
