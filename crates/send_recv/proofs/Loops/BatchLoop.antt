-- A stretch of turns, as its loop comes on from line to line.
use Rattle.std.proofs.Common.{◌≡◌, ◌≢◌, ℕ, ◌+◌, ◌-◌, ◌<◌, Bool, true, false, if◌then◌else◌, nat_lt, refl, sym, ◌∙◌, arith}
use Rattle.scc_base.specs.Layouts.{chunk_size}
use Rattle.scc_base.specs.declared.events.Turn.TheVariants as turn
use Rattle.scc_base.specs.declared.layouts.Layout.{Layout}
use Rattle.scc_base.specs.declared.layouts.Layout.TheVariants.{LineFlags, BitFlags}
use Rattle.scc_proto.specs.Ports.{Sight}
use Rattle.put_get.specs.Cores.{Private}
use Rattle.send_recv.specs.declared.answers.RecvTurn.TheVariants as recv_turn
use Rattle.send_recv.specs.declared.stages.RecvStage.{RecvStage}
use Rattle.send_recv.specs.declared.stages.RecvStage.TheVariants as receive
use Rattle.send_recv.specs.declared.stages.SendStage.{SendStage}
use Rattle.send_recv.specs.declared.stages.SendStage.TheVariants as send
use Rattle.send_recv.specs.Chunks.{chunk_lines_of}
use Rattle.send_recv.specs.Ops.{RecvAt, SendAt, SlotAt}
use Rattle.send_recv.specs.Ranks.{Receiver, Sender, sending}
use Rattle.send_recv.specs.Receiving.{RecvStands, RecvTurned}
use Rattle.send_recv.specs.Sending.{SendStands, SendTurned}
use Rattle.send_recv.specs.Steps.{after_line, after_written, before_raise}
use Rattle.send_recv.specs.Batches.{WroteLines, WroteOne, WroteMore, is_writing, ReadLines, ReadOne, ReadMore, is_reading}

-- ---- a send

-- the lines that a stretch wrote so far: none, or some
pub data Wrote (old : Sender) : Sight → Private → SendAt → SlotAt → Type 0 where
  NoLine : Wrote old old.sight old.core old.op old.slot
  SomeLines : (t : Sight) (d : Private) (next : SendAt) (after : SlotAt) → WroteLines old t d next after → Wrote old t d next after

pub wrote_on : (old : Sender) (s t : Sight) (c d : Private) (op next : SendAt) (slot after : SlotAt) → Wrote old s c op slot → SendStands s c op slot old.bytes → is_writing op.stage ≡ true
    → SendTurned (sending s c op slot old.bytes) (sending t d next after old.bytes) turn.Moved → Wrote old t d next after
wrote_on old s t c d op next slot after NoLine stands on turned = SomeLines t d next after (WroteOne t d next after on turned)
wrote_on old s t c d op next slot after (SomeLines m b cur held lines) stands on turned = SomeLines t d next after (WroteMore s t c d op next slot after lines stands on turned)

pub wrote_rest : (old : Sender) (t : Sight) (d : Private) (next : SendAt) (after : SlotAt) → is_writing old.op.stage ≡ true → is_writing next.stage ≡ false → Wrote old t d next after → WroteLines old t d next after
wrote_rest old t d next after on off NoLine = absurd (cc (sym on ∙ off))
wrote_rest old t d next after on off (SomeLines m b cur held lines) = lines

-- no line comes next
pub not_writing : (stage : SendStage) → ((i : ℕ) → stage ≢ send.Lines i) → is_writing stage ≡ false
not_writing send.Header other = refl
not_writing (send.Lines i) other = absurd (other i refl)
not_writing send.Flush other = refl
not_writing send.Raise other = refl
not_writing send.Look other = refl
not_writing send.Lower other = refl
not_writing send.Finished other = refl

-- how far it is at most to the last line
abbrev pub to_write : SendStage → ℕ
to_write (send.Lines i) = 256 - i
to_write stage = 0

few_lines : (layout : Layout) (len chunk : ℕ) → chunk_lines_of (chunk_size layout) len chunk < 256
few_lines LineFlags len chunk = omega arith
few_lines BitFlags len chunk = omega arith

written_nearer : (b : Bool) (layout : Layout) (i : ℕ) → i < 256 → to_write (if b then send.Lines (i + 1) else before_raise layout) < 256 - i
written_nearer true layout i low = omega (arith, low)
written_nearer false LineFlags i low = omega (arith, low)
written_nearer false BitFlags i low = omega (arith, low)

pub writes_nearer : (layout : Layout) (i : ℕ) (op : SendAt) → i < chunk_lines_of (chunk_size layout) op.head.len op.chunk → to_write (after_written layout i op).stage < 256 - i
writes_nearer layout i op low =
    let few = few_lines layout op.head.len op.chunk in
    written_nearer (nat_lt (i + 1) (chunk_lines_of (chunk_size layout) op.head.len op.chunk)) layout i (omega (arith, low, few))

-- ---- a receive

-- the lines that a stretch read so far: none, or some
pub data Read (old : Receiver) : Receiver → Type 0 where
  NoLineRead : Read old old
  SomeRead : (now : Receiver) → ReadLines old now → Read old now

pub read_on : (old mid now : Receiver) → Read old mid → RecvStands mid.sight mid.core mid.op mid.bytes → is_reading mid.op.stage ≡ true → RecvTurned mid now recv_turn.Moved → Read old now
read_on old mid now NoLineRead stands on turned = SomeRead now (ReadOne now on turned)
read_on old mid now (SomeRead x lines) stands on turned = SomeRead now (ReadMore mid now lines stands on turned)

pub read_rest : (old now : Receiver) → is_reading old.op.stage ≡ true → is_reading now.op.stage ≡ false → Read old now → ReadLines old now
read_rest old now on off NoLineRead = absurd (cc (sym on ∙ off))
read_rest old now on off (SomeRead x lines) = lines

-- the message stays
pub read_same : {old now : Receiver} → ReadLines old now → now.op.head ≡ old.op.head
read_same (ReadOne now on turned) = turned.same.1
read_same (ReadMore mid now lines there on turned) = turned.same.1 ∙ read_same lines

-- no line comes next
pub not_reading : (stage : RecvStage) → ((i : ℕ) → stage ≢ receive.Lines i) → is_reading stage ≡ false
not_reading receive.Look other = refl
not_reading receive.Header other = refl
not_reading receive.Lower other = refl
not_reading (receive.Lines i) other = absurd (other i refl)
not_reading receive.Raise other = refl
not_reading receive.Finished other = refl

-- how far it is at most to the last line
abbrev pub to_read : RecvStage → ℕ
to_read (receive.Lines i) = 256 - i
to_read stage = 0

read_nearer : (b : Bool) (i : ℕ) → i < 256 → to_read (if b then receive.Lines (i + 1) else receive.Raise) < 256 - i
read_nearer true i low = omega (arith, low)
read_nearer false i low = omega (arith, low)

pub reads_nearer : (layout : Layout) (i : ℕ) (op : RecvAt) → i < chunk_lines_of (chunk_size layout) op.head.len op.chunk → to_read (after_line (chunk_size layout) i op).stage < 256 - i
reads_nearer layout i op low =
    let few = few_lines layout op.head.len op.chunk in
    read_nearer (nat_lt (i + 1) (chunk_lines_of (chunk_size layout) op.head.len op.chunk)) i (omega (arith, low, few))
