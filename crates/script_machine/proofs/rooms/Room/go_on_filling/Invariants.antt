use Rattle.std.proofs.Common.{◌≡◌, ◌≤◌, ◌%◌, ◌-◌, ◌⊎◌, vec_capacity, vec_len}
use Rattle.script_machine.specs.Program.{filling}
use Rattle.script_machine.proofs.rooms.Room.go_on_filling.Given as goal

abbrev pub invariant-loop-self : goal.invariant-loop-self
invariant-loop-self l = record {
  bytes : l.self-inside.bytes.items ≡ filling (vec_len l.self-inside.bytes) l.start;
  within : vec_len l.self-inside.bytes ≤ l.len;
  whole : (vec_len l.self-inside.bytes ≡ l.len) ⊎ ((251 ≤ vec_len l.self-inside.bytes) × (vec_len l.self-inside.bytes % 251 ≡ 0));
  room : vec_capacity l.initial.self-inside.bytes ≤ vec_capacity l.self-inside.bytes;
  same : l.self-inside.room ≡ l.initial.self-inside.room;
}

abbrev pub decreases-loop-self : goal.decreases-loop-self
decreases-loop-self l = l.len - vec_len l.self-inside.bytes
