use Rattle.std.proofs.Common.{ap, arith, sym, ◌∙◌}
use Rattle.call_tap.specs.Planned.{has_room_for}
use Rattle.script_machine.specs.CallLists.{calls_of}
use Rattle.log_run.proofs.RoomLaws.{all_room, one_full, room_step}
use Rattle.log_run.proofs.rooms.has_room.Goals as goal

-- Names the goal, so that the prover rejects a wrong body at once, without a search.
pub loop-number-init : goal.loop-number-init
loop-number-init c = λ rank below. absurd (omega (arith, below))

pub returns-then-not-branch : goal.returns-then-not-branch
returns-then-not-branch c =
    let script = c.args.scripts.now in
    let number = c.loop-number.number in
    let ranks = c.nue-number-end.ensures.same in
    let below = c.loop-number-test.true in
    one_full script number (omega (arith, below, ranks))
    (ap (λ rank. has_room_for (calls_of script rank)) (sym c.of.ensures.gives) ∙ sym c.in_ok-rank_has_room.ensures ∙ c.if-not-branch.true)

pub loop-number-preserved : goal.loop-number-preserved
loop-number-preserved c =
    let script = c.args.scripts.now in
    room_step script c.loop-number.number c.loop-number.invariant
    (ap (λ rank. has_room_for (calls_of script rank)) (sym c.of.ensures.gives) ∙ sym c.in_ok-rank_has_room.ensures ∙ c.if-not-branch.false)

pub returns : goal.returns
returns c =
    let ranks = c.nue-number-end.ensures.same in
    let past = c.loop-number-test.false in
    let most = c.loop-number.auto.number-end in
    all_room c.args.scripts.now c.loop-number.number (omega (arith, past, ranks, most)) c.loop-number.invariant
