use Rattle.std.proofs.Common.{◌≡◌, Bool, IfOk, List, ap, subst, ◌∙◌}
use Rattle.scc_base.specs.declared.calls.Call.{Call}
use Rattle.call_tap.specs.Planned.{has_room_for}
use Rattle.script_machine.specs.Rooms.{nothing_held}
use Rattle.script_machine.specs.Walk.{WalkView}
use Rattle.log_run.proofs.RoomLaws.{start_same}
use Rattle.log_run.proofs.rooms.rank_has_room.Goals as goal

pub returns : goal.returns
returns c =
    let all = start_same c.args.scripts.now c.args.rank _ _ (c.in_ok-lengths.ensures ∙ ap nothing_held c.registers.ensures) (ap (λ (w : WalkView). w.left) c.in_ok-walk.ensures) in
    subst (λ (calls : List Call). IfOk c.rest_has_room.result (λ (room : Bool). room ≡ has_room_for calls)) all c.rest_has_room.ensures
