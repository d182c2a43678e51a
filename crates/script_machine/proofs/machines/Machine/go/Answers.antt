use Rattle.std.proofs.Common.{◌≡◌, ◌∙◌, true, [], ap, drop, refl, sym}
use Rattle.script_machine.specs.Holds.{local_with, rooms_with}
use Rattle.script_machine.specs.declared.held.Held.{Held}
use Rattle.script_machine.specs.Lengths.{lengths_of}
use Rattle.script_machine.specs.Local.{Local, local_next, next_by_act}
use Rattle.script_machine.specs.Machine.{MachineView}
use Rattle.script_machine.specs.Moves.{went}
use Rattle.script_machine.specs.Next.{Next, is_going}
use Rattle.script_machine.specs.Program.{Prim}
use Rattle.script_machine.specs.Walk.{WalkView, prim_meant}
use Rattle.script_machine.proofs.ProgramLengths.HoldLaws.{after_went, next_here, none_asked, room_for, worked_local, worked_rooms}
use Rattle.script_machine.proofs.ProgramLengths.NextLengths.{after}
use Rattle.script_machine.proofs.ProgramLengths.RoomLaws.{held_by, prim_here, rooms_next}
use Rattle.script_machine.proofs.machines.Machine.go.Goals as goal

pub work-requires : goal.work-requires
work-requires c =
    let m = c.self.inside in
    let u = local_with m.held m.walk m.state in
    let prim = c.copy-prim.result in
    let here = prim_here c.args.self.now.local u c.prim.result c.in-Some.prim prim prim.action (ap (λ (v : MachineView). v.local) (sym c.self.view_is)) c.prim.ensures.same c.in-Some.is c.copy-prim.ensures refl in
    room_for m.held m.walk m.state prim.line prim.action here c.self.invariant

pub invariant_of-self : goal.invariant_of-self
invariant_of-self c =
    let m = c.self.inside in
    let u = local_with m.held m.walk m.state in
    let prim = c.copy-prim.result in
    let here = prim_here c.args.self.now.local u c.prim.result c.in-Some.prim prim prim.action (ap (λ (v : MachineView). v.local) (sym c.self.view_is)) c.prim.ensures.same c.in-Some.is c.copy-prim.ensures refl in
    let n = next_by_act u prim.line (prim_meant prim).act in
    let next = next_here u (prim_meant prim) here in
    let going : is_going n ≡ true = ap is_going (sym next) ∙ ap (λ (v : MachineView). is_going (local_next v.local)) c.self.view_is ∙ c.requires in
    let left = ap (λ (w : WalkView). w.left) c.advance.ensures in
    let now = ap (λ (h : Held). local_with h c.advance.new.self m.state) c.work.ensures ∙ worked_local m.held m.walk m.state prim.line prim.action c.advance.new.self going left in
    held_by (rooms_with m.held) (rooms_with c.work.new.self) (lengths_of (after n [] u)) (lengths_of (local_with c.work.new.self c.advance.new.self m.state)) (drop 1 m.walk.left) c.advance.new.self.left
    (ap rooms_with c.work.ensures ∙ worked_rooms prim.action m.held) (ap lengths_of now) left
    (rooms_next (rooms_with m.held) u (prim_meant prim) [] here (none_asked n going) c.self.invariant)

pub returns : goal.returns
returns c =
    let m = c.self.inside in
    let u = local_with m.held m.walk m.state in
    let prim = c.copy-prim.result in
    let here = prim_here c.args.self.now.local u c.prim.result c.in-Some.prim prim prim.action (ap (λ (v : MachineView). v.local) (sym c.self.view_is)) c.prim.ensures.same c.in-Some.is c.copy-prim.ensures refl in
    let n = next_by_act u prim.line (prim_meant prim).act in
    let next = next_here u (prim_meant prim) here in
    let going : is_going n ≡ true = ap is_going (sym next) ∙ ap (λ (v : MachineView). is_going (local_next v.local)) c.self.view_is ∙ c.requires in
    let left = ap (λ (w : WalkView). w.left) c.advance.ensures in
    let now = ap (λ (h : Held). local_with h c.advance.new.self m.state) c.work.ensures ∙ worked_local m.held m.walk m.state prim.line prim.action c.advance.new.self going left
    ∙ after_went n u going ∙ ap (λ (x : Next Local). went x u) (sym next) in
    (λ i. record { script = (c.advance.ensures i).script; setup = (c.advance.ensures i).setup; rank = (c.advance.ensures i).rank; local = now i })
    ∙ ap (λ (v : MachineView). record v { local = went (local_next v.local) v.local }) c.self.view_is
