use Rattle.std.proofs.Common.{ap, arith, drop, length, refl, sym}
use Rattle.script_machine.specs.Lengths.{lengths_of}
use Rattle.script_machine.specs.Local.{next_by_act}
use Rattle.script_machine.specs.Machine.{MachineView}
use Rattle.script_machine.specs.Program.{Prim}
use Rattle.script_machine.specs.Program.Act.{Recv, Gather}
use Rattle.script_machine.specs.Rooms.{local_by, rooms_by}
use Rattle.script_machine.specs.Walk.{WalkView}
use Rattle.script_machine.specs.declared.prims.Action.TheVariants as action
use Rattle.script_machine.proofs.ProgramLengths.NextLengths.{after}
use Rattle.script_machine.proofs.ProgramLengths.RoomLaws.{asked_here, got_fits, held_by, prim_here, put_fits, rooms_next}
use Rattle.script_machine.proofs.machines.Machine.receive.Goals as goal

pub write-requires : goal.write-requires
write-requires c =
    let m = c.self.inside in
    let u = local_by m.held.registers m.held.folded m.held.taken m.walk m.held.prints m.state in
    let room = rooms_by m.held.registers m.held.folded m.held.taken m.held.spare m.held.prints in
    let prim : Prim = record { line = c.copy-prim.result.line; act = Recv c.in-Recv.from c.in-Recv.reg c.in-Recv.head } in
    let here = prim_here c.args.self.now.local u c.prim.result c.in-Some.prim c.copy-prim.result (action.Recv c.in-Recv.from c.in-Recv.reg c.in-Recv.head) (ap (λ (v : MachineView). v.local) (sym c.self.view_is)) c.prim.ensures.same c.in-Some.is c.copy-prim.ensures c.in-Recv.is in
    let same = asked_here c.args.self.now.local u prim (length c.args.bytes.now) (ap (λ (v : MachineView). v.local) (sym c.self.view_is)) here c.requires.long in
    λ there.
    let fits = put_fits room u prim c.in-Recv.reg c.in-Recv.head.len here refl c.self.invariant there in
    omega (arith, fits, same)

pub invariant_of-self : goal.invariant_of-self
invariant_of-self c =
    let m = c.self.inside in
    let u = local_by m.held.registers m.held.folded m.held.taken m.walk m.held.prints m.state in
    let room = rooms_by m.held.registers m.held.folded m.held.taken m.held.spare m.held.prints in
    let prim : Prim = record { line = c.copy-prim.result.line; act = Recv c.in-Recv.from c.in-Recv.reg c.in-Recv.head } in
    let here = prim_here c.args.self.now.local u c.prim.result c.in-Some.prim c.copy-prim.result (action.Recv c.in-Recv.from c.in-Recv.reg c.in-Recv.head) (ap (λ (v : MachineView). v.local) (sym c.self.view_is)) c.prim.ensures.same c.in-Some.is c.copy-prim.ensures c.in-Recv.is in
    let same = asked_here c.args.self.now.local u prim (length c.args.bytes.now) (ap (λ (v : MachineView). v.local) (sym c.self.view_is)) here c.requires.long in
    held_by room (rooms_by c.write.new.self m.held.folded m.held.taken m.held.spare m.held.prints) (lengths_of (after (next_by_act u prim.line prim.act) c.args.bytes.now u)) (lengths_of (local_by c.write.new.self m.held.folded m.held.taken c.advance.new.self m.held.prints m.state))
    (drop 1 m.walk.left) c.advance.new.self.left (λ i. rooms_by (c.write.ensures i) m.held.folded m.held.taken m.held.spare m.held.prints) (λ i. lengths_of (local_by (c.write.ensures i) m.held.folded m.held.taken m.walk m.held.prints m.state)) (ap (λ (w : WalkView). w.left) c.advance.ensures)
    (rooms_next room u prim c.args.bytes.now here same c.self.invariant)

pub write-requires-in-Gather : goal.write-requires-in-Gather
write-requires-in-Gather c =
    let m = c.self.inside in
    let u = local_by m.held.registers m.held.folded m.held.taken m.walk m.held.prints m.state in
    let room = rooms_by m.held.registers m.held.folded m.held.taken m.held.spare m.held.prints in
    let prim : Prim = record { line = c.copy-prim.result.line; act = Gather c.in-Gather.from c.in-Gather.head c.in-Gather.sized } in
    let here = prim_here c.args.self.now.local u c.prim.result c.in-Some.prim c.copy-prim.result (action.Gather c.in-Gather.from c.in-Gather.head c.in-Gather.sized) (ap (λ (v : MachineView). v.local) (sym c.self.view_is)) c.prim.ensures.same c.in-Some.is c.copy-prim.ensures c.in-Gather.is in
    let same = asked_here c.args.self.now.local u prim (length c.args.bytes.now) (ap (λ (v : MachineView). v.local) (sym c.self.view_is)) here c.requires.long in
    got_fits room u c.copy-prim.result.line c.in-Gather.from c.in-Gather.head c.in-Gather.sized c.args.bytes.now here same c.self.invariant

pub invariant_of-self-in-Gather : goal.invariant_of-self-in-Gather
invariant_of-self-in-Gather c =
    let m = c.self.inside in
    let u = local_by m.held.registers m.held.folded m.held.taken m.walk m.held.prints m.state in
    let room = rooms_by m.held.registers m.held.folded m.held.taken m.held.spare m.held.prints in
    let prim : Prim = record { line = c.copy-prim.result.line; act = Gather c.in-Gather.from c.in-Gather.head c.in-Gather.sized } in
    let here = prim_here c.args.self.now.local u c.prim.result c.in-Some.prim c.copy-prim.result (action.Gather c.in-Gather.from c.in-Gather.head c.in-Gather.sized) (ap (λ (v : MachineView). v.local) (sym c.self.view_is)) c.prim.ensures.same c.in-Some.is c.copy-prim.ensures c.in-Gather.is in
    let same = asked_here c.args.self.now.local u prim (length c.args.bytes.now) (ap (λ (v : MachineView). v.local) (sym c.self.view_is)) here c.requires.long in
    held_by room (rooms_by m.held.registers m.held.folded c.write-in-Gather.new.self m.held.spare m.held.prints) (lengths_of (after (next_by_act u prim.line prim.act) c.args.bytes.now u)) (lengths_of (local_by m.held.registers m.held.folded c.write-in-Gather.new.self c.advance.new.self m.held.prints m.state))
    (drop 1 m.walk.left) c.advance.new.self.left (λ i. rooms_by m.held.registers m.held.folded (c.write-in-Gather.ensures i) m.held.spare m.held.prints) (λ i. lengths_of (local_by m.held.registers m.held.folded (c.write-in-Gather.ensures i) m.walk m.held.prints m.state)) (ap (λ (w : WalkView). w.left) c.advance.ensures)
    (rooms_next room u prim c.args.bytes.now here same c.self.invariant)
