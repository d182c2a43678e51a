use Rattle.std.proofs.Common.{◌≡◌, vec_capacity, vec_len}
use Rattle.script_machine.specs.Program.{filling}
use Rattle.script_machine.proofs.rooms.Room.begin_filling.Given as goal

abbrev pub invariant-loop-i : goal.invariant-loop-i
invariant-loop-i l = record {
  bytes : l.self-inside.bytes.items ≡ filling l.i l.start;
  count : vec_len l.self-inside.bytes ≡ l.i;
  room : vec_capacity l.self-inside.bytes ≡ vec_capacity l.initial.self-inside.bytes;
  same : l.self-inside.room ≡ l.initial.self-inside.room;
}
