-- A stretch of turns: the lines of a chunk that are left, one turn for each (this project's profile).
use Rattle.std.specs.Prelude.{◌≡◌, Bool, true, false}
use Rattle.scc_base.specs.declared.events.Turn.TheVariants as turn
use Rattle.scc_base.specs.declared.layouts.Layout.{Layout}
use Rattle.scc_base.specs.declared.layouts.Layout.TheVariants.{LineFlags, BitFlags}
use Rattle.scc_proto.specs.Ports.{Sight}
use Rattle.put_get.specs.Cores.{Private}
use Rattle.send_recv.specs.declared.answers.RecvTurn.TheVariants as recv_turn
use Rattle.send_recv.specs.declared.stages.RecvStage.{RecvStage}
use Rattle.send_recv.specs.declared.stages.RecvStage.TheVariants as receive
use Rattle.send_recv.specs.declared.stages.SendStage.{SendStage}
use Rattle.send_recv.specs.declared.stages.SendStage.TheVariants as send
use Rattle.send_recv.specs.Ops.{SendAt, SlotAt}
use Rattle.send_recv.specs.Ranks.{Receiver, Sender, sending}
use Rattle.send_recv.specs.Receiving.{RecvStands, RecvTurned}
use Rattle.send_recv.specs.Sending.{SendStands, SendTurned}

-- a change of a flag makes no try: with line flags it is a store, and with bit flags it takes a register first
abbrev pub changes_at_once : Layout → Bool
changes_at_once LineFlags = true
changes_at_once BitFlags = false

-- a send writes a line of its chunk next
abbrev pub is_writing : SendStage → Bool
is_writing (send.Lines i) = true
is_writing stage = false

-- turns of a send in a row, each of which wrote a line: none of them raised a flag or looked at one
pub data WroteLines (old : Sender) : Sight → Private → SendAt → SlotAt → Type 0 where
  WroteOne : (t : Sight) (d : Private) (next : SendAt) (after : SlotAt) → is_writing old.op.stage ≡ true
      → SendTurned old (sending t d next after old.bytes) turn.Moved → WroteLines old t d next after
  WroteMore : (s t : Sight) (c d : Private) (op next : SendAt) (slot after : SlotAt) → WroteLines old s c op slot
      → SendStands s c op slot old.bytes → is_writing op.stage ≡ true
      → SendTurned (sending s c op slot old.bytes) (sending t d next after old.bytes) turn.Moved → WroteLines old t d next after

-- a receive reads a line of its chunk next
abbrev pub is_reading : RecvStage → Bool
is_reading (receive.Lines i) = true
is_reading stage = false

-- turns of a receive in a row, each of which read a line
pub data ReadLines (old : Receiver) : Receiver → Type 0 where
  ReadOne : (now : Receiver) → is_reading old.op.stage ≡ true → RecvTurned old now recv_turn.Moved → ReadLines old now
  ReadMore : (mid now : Receiver) → ReadLines old mid → RecvStands mid.sight mid.core mid.op mid.bytes → is_reading mid.op.stage ≡ true
      → RecvTurned mid now recv_turn.Moved → ReadLines old now
