-- What the machine of a rank holds, and how a local statement changes it.
use Rattle.std.specs.Prelude.{ℕ, ◌+◌, ◌<◌, ◌≤◌, List, [], ◌∷◌, ◌++◌, length, replicate, slice_index_or, slice_set}
use Rattle.script_rules.specs.declared.script.OwnStmt.TheVariants as own
use Rattle.script_machine.specs.declared.held.Held.{Held}
use Rattle.script_machine.specs.declared.prims.Action.{Action}
use Rattle.script_machine.specs.declared.prims.Action.TheVariants as action
use Rattle.script_machine.specs.declared.prims.Standing.{Standing}
use Rattle.script_machine.specs.Lengths.{printed_bytes}
use Rattle.script_machine.specs.Local.{Local, fold_if_fits}
use Rattle.script_machine.specs.Rooms.{Rooms, local_by, rooms_by}
use Rattle.script_machine.specs.Walk.{WalkView, content_of}

-- the state of a rank whose machine holds this
abbrev pub local_with : Held → WalkView → Standing → Local
local_with h walk state = local_by h.registers h.folded h.taken walk h.prints state

-- the capacities of what is held
abbrev pub rooms_with : Held → Rooms
rooms_with h = rooms_by h.registers h.folded h.taken h.spare h.prints

-- the bytes of a register
abbrev pub held_at : Held → ℕ → List ℕ
held_at h reg = slice_index_or h.registers.registers reg []

-- what is held at the start: nothing, with these capacities
abbrev pub empty : Rooms → Held
empty room =
    record {
      registers = record { registers = replicate (length room.lengths.registers) []; rooms = room.lengths.registers };
      folded = record { bytes = []; room = room.lengths.accumulator };
      taken = record { bytes = []; room = room.lengths.received };
      spare = record { bytes = []; room = room.spare };
      prints = record { items = []; room = room.lengths.items; bytes = room.lengths.printed };
    }

-- the capacities suffice for a statement
abbrev pub HasRoomFor : Action → Held → Type 0
HasRoomFor (action.Set reg content) h =
    reg < length h.registers.rooms → length (content_of content) ≤ slice_index_or h.registers.rooms reg 0
HasRoomFor (action.Own (own.Apply op ty dst src)) h = length (held_at h src) ≤ h.spare.room
HasRoomFor (action.Own (own.Print reg form)) h =
    (length h.prints.items < h.prints.room) × (printed_bytes h.prints.items + length (held_at h reg) ≤ h.prints.bytes)
HasRoomFor (action.Send to head source) h = Unit {0}
HasRoomFor (action.Post to reg) h = Unit {0}
HasRoomFor (action.Recv from reg head) h = Unit {0}
HasRoomFor (action.Gather from head sized) h = Unit {0}
HasRoomFor (action.Bar comm) h = Unit {0}
HasRoomFor (action.Begin reg) h = length (held_at h reg) ≤ h.folded.room
HasRoomFor (action.Fold op ty) h = Unit {0}
HasRoomFor (action.Accept reg) h = reg < length h.registers.rooms → length h.taken.bytes ≤ slice_index_or h.registers.rooms reg 0
HasRoomFor (action.Finish reg) h = reg < length h.registers.rooms → length h.folded.bytes ≤ slice_index_or h.registers.rooms reg 0

-- what is held after a register was set to these bytes
abbrev pub held_with : Held → ℕ → List ℕ → Held
held_with h reg bytes = record h { registers = record { registers = slice_set h.registers.registers reg bytes; rooms = h.registers.rooms } }

-- what is held after a local statement
abbrev pub held_after_own : Action → Held → Held
held_after_own (action.Set reg content) h = held_with h reg (content_of content)
held_after_own (action.Own (own.Apply op ty dst src)) h =
    record (held_with h dst (fold_if_fits op ty (held_at h dst) (held_at h src))) {
      spare = record {
        bytes = held_at h src;
        room = h.spare.room;
      };
    }
held_after_own (action.Own (own.Print reg form)) h =
    record h {
      prints = record {
        items = h.prints.items ++ record { reg = reg; form = form; bytes = held_at h reg } ∷ [];
        room = h.prints.room;
        bytes = h.prints.bytes;
      };
    }
held_after_own (action.Send to head source) h = h
held_after_own (action.Post to reg) h = h
held_after_own (action.Recv from reg head) h = h
held_after_own (action.Gather from head sized) h = h
held_after_own (action.Bar comm) h = h
held_after_own (action.Begin reg) h = record h { folded = record { bytes = held_at h reg; room = h.folded.room } }
held_after_own (action.Fold op ty) h =
    record h { folded = record { bytes = fold_if_fits op ty h.folded.bytes h.taken.bytes; room = h.folded.room } }
held_after_own (action.Accept reg) h = held_with h reg h.taken.bytes
held_after_own (action.Finish reg) h = held_with h reg h.folded.bytes
