use Rattle.std.proofs.Common.{◌≡◌, [], map, replicate, take}
use Rattle.script_machine.proofs.rooms.Registers.new.Given as goal

abbrev pub invariant-loop-i : goal.invariant-loop-i
invariant-loop-i l = record {
  unset : map (λ room. room.bytes) l.rooms.items ≡ replicate l.i [];
  rooms : map (λ room. room.room) l.rooms.items ≡ take l.i l.lengths;
}
