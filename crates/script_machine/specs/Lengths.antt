-- How many bytes a rank's registers and work buffers have, and how much it has printed, at each point of its program. All are
-- known before it runs (this project's profile).
use Rattle.std.specs.Prelude.{ℕ, ◌+◌, List, map, length, slice_index_or, slice_set, sum_by, Option, Some, None}
use Rattle.scc_base.specs.Heads.{MessageHead}
use Rattle.script_rules.specs.declared.script.OwnStmt.TheVariants as own
use Rattle.script_machine.specs.Printed.{Printed}
use Rattle.script_machine.specs.declared.prims.Source.{Source}
use Rattle.script_machine.specs.declared.prims.Source.TheVariants as source
use Rattle.script_machine.specs.Local.{Local}
use Rattle.script_machine.specs.Program.{Act}
use Rattle.script_machine.specs.Program.Act.{Set, Own, Send, Post, Recv, Gather, Bar, Begin, Fold, Accept, Finish}

-- the lengths in bytes of each register, of the accumulator and of the received bytes, and the number and the bytes of the
-- items printed so far
pub record Lengths : Type 0 where
  pub registers : List ℕ
  pub accumulator : ℕ
  pub received : ℕ
  pub items : ℕ
  pub printed : ℕ

-- the total length of printed items, in bytes
abbrev pub printed_bytes : List Printed → ℕ
printed_bytes items = sum_by (λ item. length item.bytes) items

-- the lengths of what a rank holds
abbrev pub lengths_of : Local → Lengths
lengths_of u =
    record {
      registers = map length u.registers;
      accumulator = length u.accumulator;
      received = length u.received;
      items = length u.printed;
      printed = printed_bytes u.printed;
    }

-- how many bytes a register has
abbrev pub length_of_register : Lengths → ℕ → ℕ
length_of_register l reg = slice_index_or l.registers reg 0

-- how many bytes a send sends
abbrev pub source_length : Lengths → Source → ℕ
source_length l (source.Own reg) = length_of_register l reg
source_length l source.Accumulator = l.accumulator

-- how many bytes a receive of a collective call asks for
abbrev pub asked_length : Lengths → MessageHead → Option ℕ → ℕ
asked_length l head None = head.len
asked_length l head (Some reg) = length_of_register l reg

-- the lengths after a register was set
abbrev pub with_register : Lengths → ℕ → ℕ → Lengths
with_register l reg len = record l { registers = slice_set l.registers reg len }

-- the lengths after a primitive: a fold keeps the length, and a receive takes as many bytes as it asks for
abbrev pub lengths_after : Lengths → Act → Lengths
lengths_after l (Set reg content) = with_register l reg (length content)
lengths_after l (Own (own.Apply op ty dst src)) = l
lengths_after l (Own (own.Print reg form)) = record l { items = l.items + 1; printed = l.printed + length_of_register l reg }
lengths_after l (Send to head source) = l
lengths_after l (Post to reg) = l
lengths_after l (Recv from reg head) = with_register l reg head.len
lengths_after l (Gather from head sized) = record l { received = asked_length l head sized }
lengths_after l (Bar comm) = l
lengths_after l (Begin reg) = record l { accumulator = length_of_register l reg }
lengths_after l (Fold op ty) = l
lengths_after l (Accept reg) = with_register l reg l.received
lengths_after l (Finish reg) = with_register l reg l.accumulator
