-- What a rank holds, and its next action. A register is a number and its bytes; a register that is not set has no bytes.
use Rattle.std.specs.Prelude.{ℕ, ◌+◌, ◌%◌, ◌==◌, ◌&&◌, min, if◌then◌else◌, List, [], ◌∷◌, ◌++◌, Option, Some, None, length, drop, slice_get, slice_index_or, slice_set, replicate}
use Rattle.std.specs.Option.{option_map_or}
use Rattle.scc_base.specs.Heads.{MessageHead, plain_head, most_post}
use Rattle.scc_base.specs.declared.calls.Call.{Call}
use Rattle.scc_base.specs.declared.calls.Call.TheVariants as call
use Rattle.groups.specs.declared.operations.Op.{Op}
use Rattle.groups.specs.declared.operations.Ty.{Ty}
use Rattle.groups.specs.Folds.{bytes_in, fold_values}
use Rattle.script_rules.specs.declared.script.OwnStmt.{OwnStmt}
use Rattle.script_rules.specs.declared.script.OwnStmt.TheVariants as own
use Rattle.script_rules.specs.Script.{Script}
use Rattle.script_machine.specs.declared.ends.UeEnd.{UeEnd}
use Rattle.script_machine.specs.declared.ends.UeEnd.TheVariants as ue_end
use Rattle.script_machine.specs.declared.posts.Posted.{Posted}
use Rattle.script_machine.specs.Printed.{Printed}
use Rattle.script_machine.specs.declared.prims.Source.{Source}
use Rattle.script_machine.specs.declared.prims.Source.TheVariants as source
use Rattle.script_machine.specs.declared.prims.Standing.{Standing}
use Rattle.script_machine.specs.declared.prims.Standing.TheVariants as standing
use Rattle.script_machine.specs.Next.{Next, call_next}
use Rattle.script_machine.specs.Next.Next.{Ends, Goes, Posts, Sends, Recvs, Bars}
use Rattle.script_machine.specs.Program.{Act, Prim, program_of}
use Rattle.script_machine.specs.Program.Act.{Set, Own, Send, Post, Recv, Gather, Bar, Begin, Fold, Accept, Finish}

-- the state of a rank: registers by number, the two work buffers of collective calls (accumulator and received bytes), the
-- primitives left, the items printed so far, and whether the rank is running
pub record Local : Type 0 where
  pub registers : List (List ℕ)
  pub accumulator : List ℕ
  pub received : List ℕ
  pub left : List Prim
  pub printed : List Printed
  pub standing : Standing

-- a rank at the start of a script: no register is set, nothing is printed, and all primitives are left
abbrev pub local_start : Script → ℕ → Local
local_start script rank =
    record {
      registers = replicate (length script.names) [];
      accumulator = [];
      received = [];
      left = program_of script rank;
      printed = [];
      standing = standing.Running;
    }

-- the bytes of a register
abbrev pub register_at : Local → ℕ → List ℕ
register_at u reg = slice_index_or u.registers reg []

-- a rank after its next primitive
abbrev pub gone_on : Local → Local
gone_on u = record u { left = drop 1 u.left }

-- a rank after its next primitive, which set a register
abbrev pub gone_on_with : Local → ℕ → List ℕ → Local
gone_on_with u reg bytes = record u { left = drop 1 u.left; registers = slice_set u.registers reg bytes }

-- a rank after its next primitive, which set the accumulator
abbrev pub gone_on_folding : Local → List ℕ → Local
gone_on_folding u bytes = record u { left = drop 1 u.left; accumulator = bytes }

-- a rank after its next primitive, which received these bytes
abbrev pub gone_on_gathering : Local → List ℕ → Local
gone_on_gathering u bytes = record u { left = drop 1 u.left; received = bytes }

-- a rank that a message with another head than it asked for has stopped
abbrev pub stopped_at : Local → ℕ → ℕ → MessageHead → MessageHead → Local
stopped_at u line from asked sent = record u { standing = standing.Mismatched line from sent asked }

-- acc op more, value by value. (Lists whose lengths do not fit stay as they are: an accepted script folds none.)
abbrev pub fold_if_fits : Op → Ty → List ℕ → List ℕ → List ℕ
fold_if_fits op ty acc more =
    if (length acc == length more) && (length acc % bytes_in ty == 0) then fold_values op ty acc more else acc

-- the registers after a local statement: dst becomes dst op src, value by value
abbrev pub own_registers : Local → OwnStmt → List (List ℕ)
own_registers u (own.Apply op ty dst src) = slice_set u.registers dst (fold_if_fits op ty (register_at u dst) (register_at u src))
own_registers u (own.Print reg form) = u.registers

-- the printed items after a local statement
abbrev pub own_printed : Local → OwnStmt → List Printed
own_printed u (own.Apply op ty dst src) = u.printed
own_printed u (own.Print reg form) = u.printed ++ record { reg = reg; form = form; bytes = register_at u reg } ∷ []

-- a rank after its next primitive, which was a local statement
abbrev pub gone_on_alone : Local → OwnStmt → Local
gone_on_alone u own = record u { left = drop 1 u.left; registers = own_registers u own; printed = own_printed u own }

-- the bytes that a send sends
abbrev pub source_bytes : Local → Source → List ℕ
source_bytes u (source.Own reg) = register_at u reg
source_bytes u source.Accumulator = u.accumulator

-- a head with another length
abbrev pub head_with_length : MessageHead → ℕ → MessageHead
head_with_length head len = record head { len = len }

-- the head that a receive of a collective call asks for
abbrev pub asked_head : Local → MessageHead → Option ℕ → MessageHead
asked_head u head None = head
asked_head u head (Some reg) = head_with_length head (length (register_at u reg))

-- the message that a post puts into its slot. (The grammar ensures that a posted register has at most 3,584 bytes.)
abbrev pub message_posted : Local → ℕ → ℕ → ℕ → Posted
message_posted u line to reg =
    record { to = to; head = plain_head (min (length (register_at u reg)) most_post); bytes = register_at u reg; line = line }

-- what an action means for a rank: a local step with the state after it, or a call
abbrev pub next_by_act : Local → ℕ → Act → Next Local
next_by_act u line (Set reg content) = Goes (gone_on_with u reg content)
next_by_act u line (Own own) = Goes (gone_on_alone u own)
next_by_act u line (Send to head source) =
    Sends to (head_with_length head (length (source_bytes u source))) (source_bytes u source) (gone_on u)
next_by_act u line (Post to reg) = Posts (message_posted u line to reg) (gone_on u)
next_by_act u line (Recv from reg head) = Recvs from head (gone_on_with u reg) (stopped_at u line from head)
next_by_act u line (Gather from head sized) =
    Recvs from (asked_head u head sized) (gone_on_gathering u) (stopped_at u line from (asked_head u head sized))
next_by_act u line (Bar comm) = Bars comm (gone_on u)
next_by_act u line (Begin reg) = Goes (gone_on_folding u (register_at u reg))
next_by_act u line (Fold op ty) = Goes (gone_on_folding u (fold_if_fits op ty u.accumulator u.received))
next_by_act u line (Accept reg) = Goes (gone_on_with u reg u.received)
next_by_act u line (Finish reg) = Goes (gone_on_with u reg u.accumulator)

-- the next primitive of a rank: none if a mismatch stopped it
abbrev pub prim_by_standing : Standing → List Prim → Option Prim
prim_by_standing standing.Running left = slice_get left 0
prim_by_standing (standing.Mismatched line from sent asked) left = None

-- the next primitive of a rank, unless a mismatch stopped it
abbrev pub next_prim : Local → Option Prim
next_prim u = prim_by_standing u.standing u.left

-- the line of a rank's next statement
abbrev pub statement_line : Local → ℕ
statement_line u = option_map_or (λ prim. prim.line) (next_prim u) 0

-- a rank's next action: that of its next primitive, or none if its program has ended
abbrev pub next_by_prim : Local → Option Prim → Next Local
next_by_prim u None = Ends
next_by_prim u (Some prim) = next_by_act u prim.line prim.act

-- a rank's next action
unfoldable pub local_next : Local → Next Local
local_next u = next_by_prim u (next_prim u)

-- 1 if the rank is running, since one more step may stop it; 0 if it was stopped
abbrev pub runs : Standing → ℕ
runs standing.Running = 1
runs (standing.Mismatched line from sent asked) = 0

-- how many more steps a rank takes at most, alone or as the receiver of a message
abbrev pub most_steps_left : Local → ℕ
most_steps_left u = length u.left + runs u.standing

-- a rank at a primitive waits in its call. (A rank at a local statement has not ended.)
abbrev pub end_waiting_at : ℕ → Option Call → UeEnd
end_waiting_at line (Some call) = ue_end.Waits line call
end_waiting_at line None = ue_end.Finished

-- a rank whose program has ended waits until the message that it posted is taken
abbrev pub end_by_slot : Option Posted → UeEnd
end_by_slot None = ue_end.Finished
end_by_slot (Some message) = ue_end.Waits message.line (call.Post message.to message.head)

-- how a rank that was not stopped ended: waiting in its next call, or after its program by its slot
abbrev pub end_by_prim : Option Posted → Local → Option Prim → UeEnd
end_by_prim slot u None = end_by_slot slot
end_by_prim slot u (Some prim) = end_waiting_at prim.line (call_next (next_by_act u prim.line prim.act))

-- how a rank ended: by its program, or stopped by a message with another head
abbrev pub end_by_standing : Option Posted → Local → Standing → UeEnd
end_by_standing slot u standing.Running = end_by_prim slot u (slice_get u.left 0)
end_by_standing slot u (standing.Mismatched line from sent asked) = ue_end.Mismatch line from sent asked

-- how a rank's run ended: stopped by a mismatch; finished, if nothing is left and its slot is empty; or waiting at the post in
-- its slot or at its next call
abbrev pub end_of : Option Posted → Local → UeEnd
end_of slot u = end_by_standing slot u u.standing

-- the state of no rank, as a default
abbrev pub nobody : Local
nobody = record { registers = []; accumulator = []; received = []; left = []; printed = []; standing = standing.Running }

-- the state of a rank, by its number
abbrev pub local_at : List Local → ℕ → Local
local_at c rank = slice_index_or c rank nobody
