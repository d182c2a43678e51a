-- How many turns of a UE that do not wait are left (this project's profile).
use Rattle.std.specs.Prelude.{ℕ, ◌+◌, ◌-◌, ◌*◌, Bool, true, false, min, if◌then◌else◌, List, [], ◌∷◌, length}
use Rattle.scc_base.specs.Layouts.{chunk_size}
use Rattle.scc_base.specs.Setups.{SetupView, place_of, size_of}
use Rattle.send_recv.specs.Chunks.{message_bound}
use Rattle.send_recv.specs.Ops.{SlotAt, slot_left}
use Rattle.send_recv.specs.Receiving.{recv_left}
use Rattle.send_recv.specs.Sending.{send_left}
use Rattle.barrier.specs.Stages.{left_by}
use Rattle.script_machine.specs.Lengths.{Lengths, asked_length, length_of_register, lengths_after, lengths_of, source_length}
use Rattle.script_machine.specs.Local.{Local, local_next}
use Rattle.script_machine.specs.Moves.{is_stopped}
use Rattle.script_machine.specs.Next.{Next}
use Rattle.script_machine.specs.Next.Next.{Ends, Goes, Posts, Sends, Recvs, Bars}
use Rattle.script_machine.specs.Program.{Act, Prim}
use Rattle.rcce_ue.specs.Ues.{UeView}
use Rattle.rcce_ue.specs.declared.calls.Open.{Open}
use Rattle.rcce_ue.specs.declared.calls.Open.TheVariants.{Nothing, Sending, Receiving, Meeting}
use Rattle.scc_base.specs.Heads.{most_post}

-- the bound of a barrier: two turns for each member of the group, and one more
abbrev pub barrier_bound : SetupView → ℕ → ℕ → ℕ
barrier_bound s rank comm = 2 * size_of s comm rank + 1

-- the bound of a primitive that is a message or a barrier
abbrev pub bound_of : SetupView → ℕ → Lengths → Act → ℕ
bound_of s rank l (Act.Send to head source) = message_bound s.layout (source_length l source)
bound_of s rank l (Act.Post to reg) = message_bound s.layout (min (length_of_register l reg) most_post)
bound_of s rank l (Act.Recv from reg head) = message_bound s.layout head.len
bound_of s rank l (Act.Gather from head sized) = message_bound s.layout (asked_length l head sized)
bound_of s rank l (Act.Bar comm) = barrier_bound s rank comm
bound_of s rank l (Act.Set reg content) = 0
bound_of s rank l (Act.Own own) = 0
bound_of s rank l (Act.Begin reg) = 0
bound_of s rank l (Act.Fold op ty) = 0
bound_of s rank l (Act.Accept reg) = 0
bound_of s rank l (Act.Finish reg) = 0

-- the sum of the bounds of primitives, by the lengths of the registers before the first of them
abbrev pub bounds_left : SetupView → ℕ → Lengths → List Prim → ℕ
bounds_left s rank l [] = 0
bounds_left s rank l (prim ∷ prims) = bound_of s rank l prim.act + bounds_left s rank (lengths_after l prim.act) prims

-- what is left of a rank's program: one turn for each primitive, and the bounds of its messages and barriers
abbrev pub rest_of : SetupView → ℕ → Local → ℕ
rest_of s rank u = length u.left + bounds_left s rank (lengths_of u) u.left

-- the bound of the call that stands next
abbrev pub next_bound : {U : Type 0} → SetupView → ℕ → Next U → ℕ
next_bound s rank Ends = 0
next_bound s rank (Goes after) = 0
next_bound s rank (Posts message after) = message_bound s.layout message.head.len
next_bound s rank (Sends to head bytes after) = message_bound s.layout head.len
next_bound s rank (Recvs from head take refuse) = message_bound s.layout head.len
next_bound s rank (Bars comm after) = barrier_bound s rank comm

-- the turn that ends a call goes on to what comes next; behind a post there are two more, of its slot
abbrev pub turns_at_end : Bool → ℕ
turns_at_end posted = if posted then 3 else 1

-- what is left of the call that stands next, and of the slot
abbrev pub open_left : SetupView → ℕ → Open → SlotAt → ℕ
open_left s rank Nothing slot = slot_left slot
open_left s rank (Sending op) slot = turns_at_end op.posted + send_left s.layout (chunk_size s.layout) op slot
open_left s rank (Receiving op) slot = slot_left slot + 1 + recv_left (chunk_size s.layout) op
open_left s rank (Meeting op) slot = slot_left slot + 1 + left_by (size_of s op.comm rank) (place_of s op.comm rank) op.stage

-- what is left of the program behind it
abbrev pub rest_after : SetupView → ℕ → Open → Local → ℕ
rest_after s rank Nothing u = rest_of s rank u
rest_after s rank op u = rest_of s rank u - (1 + next_bound s rank (local_next u))

-- a rank that a mismatch stopped has no turns left
abbrev pub unless : Bool → ℕ → ℕ
unless true n = 0
unless false n = n

-- how many turns are left at most to a UE; none to one that a mismatch stopped
abbrev pub ue_left : UeView → ℕ
ue_left ue = unless (is_stopped ue.machine.local)
    (open_left ue.machine.setup ue.machine.rank ue.op ue.slot + rest_after ue.machine.setup ue.machine.rank ue.op ue.machine.local)
