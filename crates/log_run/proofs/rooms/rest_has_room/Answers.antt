use Rattle.std.proofs.Common.{◌≡◌, ap, arith, drop, slice_get, subst, sym, ◌∙◌, refl, List, Some}
use Rattle.std.specs.Prelude.{nat_le}
use Rattle.std.specs.Option.{option_map}
use Rattle.std.proofs.lemmas.Bool.{leb-true}
use Rattle.scc_base.specs.declared.calls.Call.{Call}
use Rattle.scc_proto.proofs.Tests.{both_first, both_second}
use Rattle.script_machine.specs.CallLists.{calls_from}
use Rattle.script_machine.specs.Lengths.{lengths_after}
use Rattle.script_machine.specs.Walk.{WalkView, prim_meant}
use Rattle.log_run.proofs.RoomLaws.{AreCounted, counted_on, no_room, nothing_found, nothing_left, some_room}
use Rattle.log_run.proofs.rooms.rest_has_room.Goals as goal

pub loop-prim-init : goal.loop-prim-init
loop-prim-init c = record {
  few = omega arith;
  small = omega arith;
  counted = record { count = omega arith; sum = omega arith };
}

pub returns-then-not-add : goal.returns-then-not-add
returns-then-not-add c =
    let planned = calls_from c.args.lengths.now c.args.walk.now.left in
    let l = c.loop-prim.lengths in
    let left = c.loop-prim.walk.left in
    let prim = prim_meant c.in-Some.prim in
    let here : slice_get left 0 ≡ Some prim = sym c.front.ensures.same ∙ ap (option_map prim_meant) c.in-Some.is in
    no_room planned _ _ _
    (counted_on planned _ _ l (lengths_after l prim.act) left prim _ _ _ (drop 1 left) c.loop-prim.invariant.counted here c.moved-moved.ensures refl
    c.add.ensures.calls c.add.ensures.bytes refl)
    (sym c.add.ensures.within ∙ c.if-not-add.true)

pub loop-prim-preserved : goal.loop-prim-preserved
loop-prim-preserved c =
    let planned = calls_from c.args.lengths.now c.args.walk.now.left in
    let left = c.loop-prim.walk.left in
    let prim = prim_meant c.in-Some.prim in
    let here : slice_get left 0 ≡ Some prim = sym c.front.ensures.same ∙ ap (option_map prim_meant) c.in-Some.is in
    let within = sym c.add.ensures.within ∙ c.if-not-add.false in
    let calls = c.add.new.self.calls in
    let bytes = c.add.new.self.bytes in
    record {
      few = leb-true calls 10000 (both_first (nat_le calls 10000) (nat_le bytes 262144) within);
      small = leb-true bytes 262144 (both_second (nat_le calls 10000) (nat_le bytes 262144) within);
      counted = counted_on planned _ _ c.loop-prim.lengths c.go.new.self left prim _ _ _ _ c.loop-prim.invariant.counted here c.moved-moved.ensures c.in_ok-go.ensures
          c.add.ensures.calls c.add.ensures.bytes (ap (λ (w : WalkView). w.left) c.advance.ensures);
    }

pub returns : goal.returns
returns c =
    let planned = calls_from c.args.lengths.now c.args.walk.now.left in
    let left = c.loop-prim.walk.left in
    let none = nothing_found prim_meant c.front.result (slice_get left 0) c.front.ensures.same c.in_default.not-Some in
    some_room planned c.loop-prim.tally.calls c.loop-prim.tally.bytes
    (subst (λ (rest : List Call). AreCounted planned c.loop-prim.tally.calls c.loop-prim.tally.bytes rest) (nothing_left c.loop-prim.lengths left none) c.loop-prim.invariant.counted)
    c.loop-prim.invariant.few c.loop-prim.invariant.small
