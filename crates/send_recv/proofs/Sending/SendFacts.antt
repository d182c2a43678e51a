-- What the turns of a send have in common: where it stands afterwards, and how many turns are left.
use Rattle.std.proofs.Common.{◌≡◌, ℕ, zero, suc, ◌+◌, ◌-◌, ◌*◌, ◌≤◌, Bool, true, false, ◌==◌, List, Option, Some, None, option_map, refl, sym, ◌∙◌, ap, subst, arith}
use Rattle.scc_base.specs.declared.events.Turn.{Turn}
use Rattle.scc_base.specs.declared.layouts.Layout.{Layout}
use Rattle.scc_base.specs.declared.layouts.Layout.TheVariants.{LineFlags, BitFlags}
use Rattle.scc_proto.specs.Stages.{Stage, InFlight, Record}
use Rattle.scc_proto.specs.Records.{chunk_of}
use Rattle.scc_proto.specs.Ports.{Seat, Sight}
use Rattle.put_get.specs.Cores.{Private}
use Rattle.send_recv.specs.declared.stages.SendStage.{SendStage}
use Rattle.send_recv.specs.declared.stages.SendStage.TheVariants.{Flush, Raise}
use Rattle.send_recv.specs.Chunks.{chunk_count, lines_from, chunk_lines_of}
use Rattle.send_recv.specs.Ops.{SendAt, SlotAt, slot_left}
use Rattle.send_recv.specs.Sending.{SlotStands, HasDrafted, First, Later, HasNoLines, DraftedBefore, IsBeforeRaise, IsAtSendStage, IsSending, SendStands, SendDoes, SendTurned, lines_in_hand, waiting, of_chunk, from_raise, send_left, send_left_by, send_spot, send_spot_by, slot_spot, was_answered}
use Rattle.send_recv.specs.Steps.{own_core, core_of, before_raise}
use Rattle.send_recv.specs.Ranks.{Sender, sending}
use Rattle.send_recv.proofs.Receiving.LookTurn.{holds_kept}

-- a turn of a send, and where it stands afterwards
pub record SendTurns (s : Sight) (c : Private) (op : SendAt) (slot : SlotAt) (bytes : List ℕ) (t : Sight) (d : Private) (now : SendAt) (after : SlotAt) (answer : Turn) : Type 0 where
  pub stands : SendStands t d now after bytes
  pub turned : SendTurned (sending s c op slot bytes) (sending t d now after bytes) answer

-- what a turn did, where its stage is known, and whether it was done
pub send_does : (old : Sender) (stage : SendStage) (done known : Bool) (t : Sight) (d : Private) → old.op.stage ≡ stage → done ≡ known → SendDoes old stage known t d → SendDoes old old.op.stage done t d
send_does old stage done known t d is same does = subst (λ b. SendDoes old old.op.stage b t d) (sym same) (subst (λ (st : SendStage). SendDoes old st known t d) (sym is) does)

pub slot_kept : (seat : Seat) (rec new : Record) (slot : SlotAt) → new.post ≡ rec.post → SlotStands seat rec slot → SlotStands seat new slot
slot_kept seat rec new slot same h = record {
  to = h.to ∙ ap (λ (o : Option InFlight). option_map (λ (p : InFlight). p.to) o) (sym same);
  seen = λ seen. ap was_answered same ∙ h.seen seen;
  peers = h.peers;
}

-- a stage later in the same chunk
pub stands_at : (seat : Seat) (rec new : Record) (c d : Private) (op : SendAt) (slot after : SlotAt) (bytes : List ℕ) (stage : SendStage) → IsSending seat rec c op slot bytes → new.held ≡ rec.held → SlotStands seat new after
    → IsAtSendStage seat new d (record op { stage = stage }) bytes stage → IsSending seat new d (record op { stage = stage }) after bytes
stands_at seat rec new c d op slot after bytes stage r hold slot_stands at = record {
  peers = r.peers;
  head = r.head;
  post_head = r.post_head;
  long = r.long;
  hands = holds_kept seat.setup.layout rec new hold r.hands;
  slot_stands = slot_stands;
  in_hand = r.in_hand;
  at = at;
}

-- what stands at a stage that is known
pub at_stage : (seat : Seat) (rec : Record) (c : Private) (op : SendAt) (slot : SlotAt) (bytes : List ℕ) (stage : SendStage) → IsSending seat rec c op slot bytes → op.stage ≡ stage → IsAtSendStage seat rec c op bytes stage
at_stage seat rec c op slot bytes stage r is = subst (λ (st : SendStage). IsAtSendStage seat rec c op bytes st) is r.at

-- an empty slot: no message is on its way
none_by : (post : Option InFlight) → None ≡ option_map (λ (p : InFlight). p.to) post → post ≡ None
none_by None e = refl
none_by (Some p) e = absurd (cc)

pub no_post : (seat : Seat) (rec : Record) (slot : SlotAt) → SlotStands seat rec slot → slot.to ≡ None → rec.post ≡ None
no_post seat rec slot h empty = none_by rec.post (sym empty ∙ h.to)

-- ---- drafts, with another stage of the op

pub drafted_as : (size : ℕ) (stage : Stage) (op : SendAt) (bytes : List ℕ) (n : ℕ) (next : SendStage) → HasDrafted size stage op bytes n → HasDrafted size stage (record op { stage = next }) bytes n
drafted_as size stage op bytes n next (First header chunk first at words lines) = First header chunk first at words lines
drafted_as size stage op bytes n next (Later chunk later at lines) = Later chunk later at lines

none_as : (b : Bool) (size : ℕ) (stage : Stage) (op : SendAt) (bytes : List ℕ) (next : SendStage) → HasNoLines size stage op bytes b → HasNoLines size stage (record op { stage = next }) bytes b
none_as true size stage op bytes next idle = idle
none_as false size stage op bytes next drafted = drafted_as size stage op bytes 0 next drafted

pub before_as : (size : ℕ) (stage : Stage) (op : SendAt) (bytes : List ℕ) (n : ℕ) (next : SendStage) → DraftedBefore size stage op bytes n → DraftedBefore size stage (record op { stage = next }) bytes n
before_as size stage op bytes zero next drafted = none_as (op.chunk == 0) size stage op bytes next drafted
before_as size stage op bytes (suc i) next drafted = drafted_as size stage op bytes i next drafted

-- the last line of the chunk was written
end_by : (layout : Layout) (seat : Seat) (rec : Record) (d : Private) (op : SendAt) (bytes : List ℕ) → seat.setup.layout ≡ layout → rec.post ≡ None
    → d.out ≡ waiting seat op bytes (lines_in_hand (chunk_of seat.setup) op) → DraftedBefore (chunk_of seat.setup) rec.stage op bytes (lines_in_hand (chunk_of seat.setup) op)
    → IsAtSendStage seat rec d (record op { stage = before_raise layout }) bytes (before_raise layout)
end_by LineFlags seat rec d op bytes lines none out drafted =
    (none, subst (λ (l : Layout). IsBeforeRaise l seat rec.stage d (record op { stage = Raise }) bytes) (sym lines) (out, before_as (chunk_of seat.setup) rec.stage op bytes (lines_in_hand (chunk_of seat.setup) op) Raise drafted))
end_by BitFlags seat rec d op bytes bits none out drafted =
    (bits, none, out, before_as (chunk_of seat.setup) rec.stage op bytes (lines_in_hand (chunk_of seat.setup) op) Flush drafted)

pub at_end : (seat : Seat) (rec : Record) (d : Private) (op : SendAt) (bytes : List ℕ) (n : ℕ) → n ≡ lines_in_hand (chunk_of seat.setup) op → rec.post ≡ None
    → d.out ≡ waiting seat op bytes n → DraftedBefore (chunk_of seat.setup) rec.stage op bytes n
    → IsAtSendStage seat rec d (record op { stage = before_raise seat.setup.layout }) bytes (before_raise seat.setup.layout)
at_end seat rec d op bytes n last none out drafted =
    end_by seat.setup.layout seat rec d op bytes refl none (subst (λ k. d.out ≡ waiting seat op bytes k) last out) (subst (λ k. DraftedBefore (chunk_of seat.setup) rec.stage op bytes k) last drafted)

-- ---- turns that are left

-- at the end of a chunk's lines
pub left_end : (layout : Layout) (posted : Bool) (slot more lines now : ℕ) → 1 ≤ more → send_left_by slot (of_chunk layout posted) (from_raise posted) more lines now (before_raise layout) ≡ (lines - now) + of_chunk layout posted * more
left_end LineFlags true slot more lines now some = omega (arith, some)
left_end LineFlags false slot more lines now some = omega (arith, some)
left_end BitFlags posted slot more lines now some = refl

-- after the flush
pub left_flush : (layout : Layout) (posted : Bool) (lines more : ℕ) → layout ≡ BitFlags → 1 ≤ more → lines + of_chunk layout posted * more ≡ lines + from_raise posted + of_chunk layout posted * (more - 1) + 1
left_flush LineFlags posted lines more bits some = absurd (cc)
left_flush BitFlags true lines more bits some = omega (arith, some)
left_flush BitFlags false lines more bits some = omega (arith, some)

pub left_at : (layout : Layout) (size : ℕ) (op : SendAt) (slot : SlotAt) (stage : SendStage) → op.stage ≡ stage
    → send_left layout size op slot ≡ send_left_by (slot_left slot) (of_chunk layout op.posted) (from_raise op.posted) (chunk_count size op.head.len - op.chunk) (lines_from size op.head.len op.chunk) (lines_in_hand size op) stage
left_at layout size op slot stage is =
    ap (λ (st : SendStage). send_left_by (slot_left slot) (of_chunk layout op.posted) (from_raise op.posted) (chunk_count size op.head.len - op.chunk) (lines_from size op.head.len op.chunk) (lines_in_hand size op) st) is

pub now_within : (size len chunk : ℕ) → chunk_lines_of size len chunk ≤ lines_from size len chunk
now_within size len chunk = omega arith

-- ---- the spot of a stage

pub spot_at : (seat : Seat) (op : SendAt) (slot : SlotAt) (stage : SendStage) → op.stage ≡ stage
    → send_spot seat op slot ≡ send_spot_by seat.setup.layout (own_core seat) (core_of seat op.to) op.to (slot_spot seat slot) stage
spot_at seat op slot stage is = ap (λ (st : SendStage). send_spot_by seat.setup.layout (own_core seat) (core_of seat op.to) op.to (slot_spot seat slot) st) is
