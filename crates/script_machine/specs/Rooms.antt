-- The buffers of a machine that allocates all its memory at the start: their contents, and capacities that suffice for its
-- program.
use Rattle.std.specs.Prelude.{ℕ, ◌+◌, ◌≤◌, nat_lt, if◌then◌else◌, List, [], ◌∷◌, take, drop, replicate}
use Rattle.script_rules.specs.declared.script.OwnStmt.TheVariants as own
use Rattle.script_machine.specs.Printed.{Printed}
use Rattle.script_machine.specs.declared.prims.Standing.{Standing}
use Rattle.script_machine.specs.declared.prints.Entry.{Entry}
use Rattle.script_machine.specs.declared.reckoning.Needs.{Needs}
use Rattle.script_machine.specs.Lengths.{Lengths, length_of_register, lengths_after}
use Rattle.script_machine.specs.Local.{Local}
use Rattle.script_machine.specs.Program.{Act, Prim}
use Rattle.script_machine.specs.Program.Act.{Set, Own, Send, Post, Recv, Gather, Bar, Begin, Fold, Accept, Finish}
use Rattle.script_machine.specs.Walk.{WalkView}

-- the bytes in a buffer, and its capacity
pub record RoomView : Type 0 where
  pub bytes : List ℕ
  pub room : ℕ

-- the registers by number, and the capacity of each
pub record RegistersView : Type 0 where
  pub registers : List (List ℕ)
  pub rooms : List ℕ

-- the items printed so far, how many items the table can hold, and how many bytes
pub record PrintsView : Type 0 where
  pub items : List Printed
  pub room : ℕ
  pub bytes : ℕ

-- a printed item is a slice of the printed bytes
abbrev pub printed_of_entry : List ℕ → Entry → Printed
printed_of_entry bytes entry = record { reg = entry.reg; form = entry.form; bytes = take entry.len (drop entry.start bytes) }

-- each entry ends within the first `room` bytes
abbrev pub AreCut : ℕ → List Entry → Type 0
AreCut room [] = Unit {0}
AreCut room (entry ∷ table) = (entry.start + entry.len ≤ room) × AreCut room table

-- two lists of equal length, the first at most the second at each place
abbrev pub AreBelow : List ℕ → List ℕ → Type 0
AreBelow [] [] = Unit {0}
AreBelow [] (room ∷ rooms) = ⊥
AreBelow (len ∷ lens) [] = ⊥
AreBelow (len ∷ lens) (room ∷ rooms) = (len ≤ room) × AreBelow lens rooms

-- each length is at most its capacity
pub record IsWithin (l room : Lengths) : Type 0 where
  pub registers : AreBelow l.registers room.registers
  pub accumulator : l.accumulator ≤ room.accumulator
  pub received : l.received ≤ room.received
  pub items : l.items ≤ room.items
  pub printed : l.printed ≤ room.printed

-- the capacities for all that a rank holds, and for the copy of the register that `apply` reads
pub record Rooms : Type 0 where
  pub lengths : Lengths
  pub spare : ℕ

-- how many bytes of scratch an action needs: `apply` copies the register that it reads
abbrev pub spare_length : Lengths → Act → ℕ
spare_length l (Set reg content) = 0
spare_length l (Own (own.Apply op ty dst src)) = length_of_register l src
spare_length l (Own (own.Print reg form)) = 0
spare_length l (Send to head source) = 0
spare_length l (Post to reg) = 0
spare_length l (Recv from reg head) = 0
spare_length l (Gather from head sized) = 0
spare_length l (Bar comm) = 0
spare_length l (Begin reg) = 0
spare_length l (Fold op ty) = 0
spare_length l (Accept reg) = 0
spare_length l (Finish reg) = 0

-- the capacities suffice for these primitives, one after the other
abbrev pub AreWithin : Rooms → Lengths → List Prim → Type 0
AreWithin room l [] = IsWithin l room.lengths
AreWithin room l (prim ∷ prims) =
    IsWithin l room.lengths × ((spare_length l prim.act ≤ room.spare) × AreWithin room (lengths_after l prim.act) prims)

-- no capacity is smaller
pub record IsWider (old new : Rooms) : Type 0 where
  pub lengths : IsWithin old.lengths new.lengths
  pub spare : old.spare ≤ new.spare

-- the capacities that are allocated for these needs
abbrev pub rooms_of : Needs → Rooms
rooms_of needs =
    record {
      lengths = record {
        registers = needs.registers.items;
        accumulator = needs.accumulator;
        received = needs.received;
        items = needs.items;
        printed = needs.printed;
      };
      spare = needs.spare;
    }

-- the lengths at a point of a program, and the greatest capacities needed so far
pub record ReckoningView : Type 0 where
  pub lengths : Lengths
  pub most : Rooms

-- the greater of two numbers
abbrev pub greater : ℕ → ℕ → ℕ
greater one other = if nat_lt one other then other else one

-- the lengths of a rank that holds nothing yet and has `count` registers
abbrev pub nothing_held : ℕ → Lengths
nothing_held count = record { registers = replicate count 0; accumulator = 0; received = 0; items = 0; printed = 0 }

-- the state of a rank, by the parts of its machine
abbrev pub local_by : RegistersView → RoomView → RoomView → WalkView → PrintsView → Standing → Local
local_by contents folded taken walk prints state =
    record {
      registers = contents.registers;
      accumulator = folded.bytes;
      received = taken.bytes;
      left = walk.left;
      printed = prints.items;
      standing = state;
    }

-- the capacities of registers, work buffers and printed items
abbrev pub rooms_by : RegistersView → RoomView → RoomView → RoomView → PrintsView → Rooms
rooms_by contents folded taken spare prints =
    record {
      lengths = record {
        registers = contents.rooms;
        accumulator = folded.room;
        received = taken.room;
        items = prints.room;
        printed = prints.bytes;
      };
      spare = spare.room;
    }
