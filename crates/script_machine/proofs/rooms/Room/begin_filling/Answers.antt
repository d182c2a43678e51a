use Rattle.std.proofs.Common.{ℕ, ◌+◌, ◌%◌, List, [], ◌∷◌, ◌++◌, ◌∙◌, ap, length, sym, arith}
use Rattle.std.proofs.lemmas.List.FromFn.{length-map-range_with_len, map-range_with_len_more}
use Rattle.script_machine.specs.Rooms.{RoomView}
use Rattle.script_machine.proofs.rooms.Room.begin_filling.Goals as goal

pub invariant_of-self : goal.invariant_of-self
invariant_of-self c =
    let inv = c.loop-i.invariant in
    let long = ap length inv.bytes ∙ length-map-range_with_len (λ (i : ℕ). (c.args.start + i) % 251) 0 c.loop-i.i in
    let room = ap (λ (r : RoomView). r.room) c.self.view_is in
    (omega (arith, long, c.loop-i.auto.i-end, c.requires, room, inv.same), omega (arith, inv.room, inv.same, c.clear.ensures.capacity, c.self.invariant.1))

pub push_reserved-requires : goal.push_reserved-requires
push_reserved-requires c =
    let inv = c.loop-i.invariant in
    let room = ap (λ (r : RoomView). r.room) c.self.view_is in
    omega (arith, inv.count, inv.room, c.clear.ensures.capacity, c.self.invariant.1, c.requires, room, c.loop-i-test.true)

pub loop-i-preserved : goal.loop-i-preserved
loop-i-preserved c =
    let inv = c.loop-i.invariant in
    record {
      bytes = c.push_reserved.ensures.items ∙ ap (λ (l : List ℕ). l ++ (c.args.start + c.loop-i.i) % 251 ∷ []) inv.bytes
          ∙ sym (map-range_with_len_more (λ (i : ℕ). (c.args.start + i) % 251) 0 c.loop-i.i c.loop-i.i (omega arith));
      count = omega (arith, c.push_reserved.ensures.len, inv.count);
      room = c.push_reserved.ensures.capacity ∙ inv.room;
      same = inv.same;
    }
