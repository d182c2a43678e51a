-- A sweep in which no rank moves: how the rank's program and its record fit together, and what every rank waits for
-- (this project's profile). All is said of any program: `next` tells what stands next at a state.
use Rattle.std.specs.Prelude.{◌≡◌, ◌≢◌, ℕ, ◌<◌, ◌⊎◌, true, nat_lt, if◌then◌else◌, List, Option, Some, None, slice_get}
use Rattle.scc_base.specs.Heads.{MessageHead}
use Rattle.scc_base.specs.Setups.{SetupView}
use Rattle.scc_proto.specs.Agreement.{Agrees}
use Rattle.scc_proto.specs.Legality.{Outgoing}
use Rattle.scc_proto.specs.Messages.{Notes, has_all, head_of}
use Rattle.scc_proto.specs.Passed.{slot_of}
use Rattle.scc_proto.specs.Stages.{Idle, Record}
use Rattle.scc_proto.specs.Views.{View, view_of}
use Rattle.scc_proto.specs.Words.{Memory, are_peers}
use Rattle.script_machine.specs.declared.posts.Posted.{Posted}
use Rattle.script_machine.specs.Next.{Next}
use Rattle.script_machine.specs.Next.Next.{Ends, Goes, Posts, Sends, Recvs, Bars}
use Rattle.plain_meaning.specs.Paths.{DidCalls}
use Rattle.plain_meaning.specs.Step.{Configuration}
use Rattle.chip_run.specs.Waiting.{BarWaits, RaiseWaits, SlotWaits, TakeWaits}

-- a rank that a message with another head stopped: it saw the message's `sent`, its noted header words say the head
pub record Refused {U : Type 0} (next : U → Next U) (s : SetupView) (me : ℕ) (rec : Record) (before now : U) : Type 0 where
  pub from : ℕ
  pub asked : MessageHead
  pub take : List ℕ → U
  pub refuse : MessageHead → U
  pub header : Notes
  pub peers : are_peers s from me ≡ true
  pub stands : next before ≡ Recvs from asked take refuse
  pub seen : rec.notes from ≡ Some header
  pub noted : has_all header 3 ≡ true
  pub another : head_of header ≢ asked
  pub stopped : now ≡ refuse (head_of header)
  pub ends : next now ≡ Ends

-- a rank's state against its record: from its start the rank has done of its program the finished calls of its record,
-- with their bytes; or it has come so to a receive, and a message with another head stopped it there. Seven parameters: what
-- is next in a state, the rank in its setup and its start, and the three that are compared: its record, its state and the
-- message that it posted last.
pub data IsStateOfRecord {U : Type 0} (next : U → Next U) (s : SetupView) (me : ℕ) (start : U) (rec : Record) (u : U)
    (last : Option Posted) : Type 0 where
  Running : DidCalls next u last start None rec.calls → IsStateOfRecord next s me start rec u last
  Stopped : (before : U) → DidCalls next before last start None rec.calls → Refused next s me rec before u
      → IsStateOfRecord next s me start rec u last

-- what a rank waits for, by what stands next there. At its end nothing is open; a statement of its own does not wait; a
-- post, and a send before its first chunk, wait for the rank's own slot
abbrev pub Failed : {U : Type 0} → SetupView → View → ℕ → Record → Next U → Type 0
Failed s view me rec Ends = rec.stage ≡ Idle
Failed s view me rec (Goes after) = ⊥
Failed s view me rec (Posts message after) = SlotWaits view me rec
Failed s view me rec (Sends to head bytes after) = SlotWaits view me rec ⊎ RaiseWaits s view me to head rec
Failed s view me rec (Recvs from head take refuse) = TakeWaits s view me from rec
Failed s view me rec (Bars comm after) = BarWaits s view me comm rec

-- a sweep has found every rank waiting: words and records agree, each rank's state fits its record, and each look that a
-- rank waits at is vain. Seven parameters: what is next in a state, the setup and the words, and by rank the record, the
-- start, the state and the message that it posted last.
pub record Swept {U : Type 0} (next : U → Next U) (s : SetupView) (memory : Memory) (records : ℕ → Record)
    (starts states : ℕ → U) (lasts : ℕ → Option Posted) : Type 0 where
  pub agrees : Agrees s memory records
  pub stands : (k : ℕ) → k < s.nue → IsStateOfRecord next s k (starts k) (records k) (states k) (lasts k)
  pub failed : (k : ℕ) → k < s.nue → Failed s (view_of s memory) k (records k) (next (states k))

-- the message posted last, where the slot is full
abbrev pub keep : Option Outgoing → Option Posted → Option Posted
keep None last = None
keep (Some message) last = last

-- the messages that stand in the slots, each with the line of its post
abbrev pub slots_by : SetupView → (ℕ → Record) → (ℕ → Option Posted) → ℕ → Option Posted
slots_by s records lasts k = keep (slot_of s records k) (lasts k)

-- a message without its line
abbrev pub outgoing : Posted → Outgoing
outgoing message = record { to = message.to; head = message.head; bytes = message.bytes }

-- an entry of a list with one entry a rank
abbrev pub at_rank : {A : Type 0} → ℕ → ℕ → A → Option A
at_rank nue k x = if nat_lt k nue then Some x else None

-- a configuration of nue ranks has these states and slots
pub record HoldsStates {U : Type 0} (nue : ℕ) (c : Configuration U) (cells : ℕ → U) (slots : ℕ → Option Posted) : Type 0 where
  pub cells_at : (k : ℕ) → slice_get c.cells k ≡ at_rank nue k (cells k)
  pub slots_at : (k : ℕ) → slice_get c.slots k ≡ at_rank nue k (slots k)
