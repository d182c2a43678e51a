-- Ranks that pass a number round a ring: a worker that a user writes (this project's profile).
use Rattle.std.specs.Prelude.{◌≡◌, ℕ, ◌+◌, Bool, true, false, not, List, [], length, None}
use Rattle.scc_base.specs.Heads.{IsHead, MessageHead}
use Rattle.scc_base.specs.Setups.{SetupView}
use Rattle.scc_base.specs.declared.events.Event.{Event}
use Rattle.scc_proto.specs.Ports.{Sight, record_in}
use Rattle.scc_proto.specs.Records.{chunk_of}
use Rattle.scc_proto.specs.Words.{are_peers}
use Rattle.put_get.specs.Cores.{Private}
use Rattle.send_recv.specs.Calling.{IsBetweenMessages}
use Rattle.send_recv.specs.Ops.{SlotAt, new_receive, new_send}
use Rattle.send_recv.specs.Receiving.{RecvStands, recv_left}
use Rattle.send_recv.specs.Sending.{SendStands, SlotStands, send_left}
use Rattle.chip_run.specs.Behaves.{Behaviour, WorkerView}
use Rattle.chip_run.specs.Turns.{RankHoldsNone}
use Rattle.chip_run.specs.declared.members.Member.{Member}
use Rattle.chip_run.specs.Wants.{Want}
use Rattle.chip_teams.specs.Teams.{sight_alone}
use Rattle.run_rows.specs.declared.rings.Message.{Message}
use Rattle.run_rows.specs.declared.rings.Message.TheVariants.{Sending, Receiving, Over}
use Rattle.run_rows.specs.declared.rings.Passer.{Passer}

-- the message that a rank begins: a send to the next one, a receive from the one before, or none
abbrev pub message_to_begin : (sends gets : Bool) → MessageHead → (from to : ℕ) → Message
message_to_begin true gets head from to = Sending (new_send to head false)
message_to_begin false true head from to = Receiving (new_receive from head)
message_to_begin false false head from to = Over

-- what a rank begins after its send: the first rank receives the number last
abbrev pub after_sending : Passer → Message
after_sending p = message_to_begin false p.is_first p.head p.from p.to

-- what a rank begins after its receive: any rank except the first sends the number last
abbrev pub after_receiving : Passer → Message
after_receiving p = message_to_begin (not p.is_first) false p.head p.from p.to

-- the call of a rank: an unfinished send, an unfinished receive, or none
abbrev pub IsAtMessage : Sight → Private → SlotAt → List ℕ → Message → Type 0
IsAtMessage s core slot number (Sending op) = SendStands s core op slot number
IsAtMessage s core slot number (Receiving op) = RecvStands s core op number × SlotStands s.seat (record_in s) slot
IsAtMessage s core slot number Over = IsBetweenMessages s core slot

-- the state of a rank of the ring agrees with its events, and it may have messages with its two neighbours
pub record IsPassing (p : Passer) (s : SetupView) (rank : ℕ) (events : List Event) : Type 0 where
  pub at : IsAtMessage (sight_alone s rank events) p.core p.slot p.number p.message
  pub next : are_peers s rank p.to ≡ true
  pub before : are_peers s rank p.from ≡ true
  pub head : IsHead p.head
  pub long : length p.number ≡ p.head.len
  pub hands : RankHoldsNone s rank events

-- what a rank waits for, by its unfinished message
abbrev pub want_by : Message → Want
want_by (Sending op) = Want.Send op.to op.head
want_by (Receiving op) = Want.Recv op.from
want_by Over = Want.Nothing

-- how many turns without a failed poll a receive still has, plus one
abbrev pub left_of_receive : SetupView → Message → ℕ
left_of_receive s (Sending op) = 0
left_of_receive s (Receiving op) = recv_left (chunk_of s) op + 1
left_of_receive s Over = 0

-- how many a send still has, plus one
abbrev pub left_of_send : SetupView → SlotAt → Message → ℕ
left_of_send s slot (Sending op) = send_left s.layout (chunk_of s) op slot + 1
left_of_send s slot (Receiving op) = 0
left_of_send s slot Over = 0

-- how many the unfinished message and the one after it still have
abbrev pub ring_left : SetupView → SlotAt → (gets sends : Message) → Message → ℕ
ring_left s slot gets sends (Sending op) = left_of_send s slot (Sending op) + left_of_receive s gets
ring_left s slot gets sends (Receiving op) = left_of_receive s (Receiving op) + left_of_send s slot sends
ring_left s slot gets sends Over = 0

-- how a run sees a rank of the ring
abbrev pub passer_seen : SetupView → ℕ → Passer → WorkerView
passer_seen s rank p = record {
  want = want_by p.message;
  left = ring_left s p.slot (after_sending p) (after_receiving p) p.message;
  is_stopped = p.stopped;
}

-- each turn keeps a rank's place
pub record KeepsPlace (old new : Passer) : Type 0 where
  pub from : new.from ≡ old.from
  pub to : new.to ≡ old.to
  pub is_first : new.is_first ≡ old.is_first

-- the protocol of the ring's ranks in a run
abbrev pub passer_behaviour : Behaviour Passer
passer_behaviour = record { seen = passer_seen; tied = IsPassing; moves = KeepsPlace; stays = KeepsPlace }

-- a rank of the ring before its first turn; its port is with the chip, and its neighbours are these two
pub record IsSeated (m : Member Passer) (from to : ℕ) : Type 0 where
  pub ready : (s : SetupView) (rank : ℕ) → are_peers s rank from ≡ true → are_peers s rank to ≡ true → IsPassing m.worker s rank []
  pub home : m.token ≡ None
