-- The turns of a send that write a line of a chunk, and that store the last one with bit flags.
use Rattle.std.proofs.Common.{◌≡◌, inr, ℕ, suc, ◌+◌, ◌-◌, ◌*◌, ◌<◌, ◌≤◌, Bool, true, false, if◌then◌else◌, nat_lt, List, Option, None, refl, sym, ◌∙◌, ap, subst, arith}
use Rattle.scc_base.specs.Layouts.{first_chunk}
use Rattle.scc_base.specs.Setups.{IsSetup}
use Rattle.scc_base.specs.declared.events.Spot.{Spot}
use Rattle.scc_base.specs.declared.events.Turn.TheVariants.{Moved}
use Rattle.scc_base.specs.declared.layouts.Layout.{Layout}
use Rattle.scc_base.specs.declared.layouts.Layout.TheVariants.{LineFlags, BitFlags}
use Rattle.scc_proto.specs.Stages.{Stage, Record}
use Rattle.scc_proto.specs.Records.{chunk_of}
use Rattle.scc_proto.specs.Ports.{Seat, Sight, MayMakeAll, record_in}
use Rattle.scc_proto.proofs.PortLaws.{seat_kept}
use Rattle.scc_proto.proofs.Layouts.Roles.{lt_is, lt_not}
use Rattle.write_combine.specs.Combining.{handed_out}
use Rattle.put_get.specs.Accesses.{stores_of}
use Rattle.put_get.specs.Cores.{Private, WritesLine, Flushes}
use Rattle.put_get.specs.Transfers.{line_at, load_count}
use Rattle.send_recv.specs.declared.stages.SendStage.{SendStage}
use Rattle.send_recv.specs.declared.stages.SendStage.TheVariants.{Lines, Flush, Raise}
use Rattle.send_recv.specs.Bytes.{words_at}
use Rattle.send_recv.specs.Chunks.{chunk_count, chunk_start, lines_from}
use Rattle.send_recv.specs.Ops.{SendAt, SlotAt, is_sent, slot_left}
use Rattle.send_recv.specs.Sending.{IsAtSendStage, IsSending, SendStands, HasDrafted, IsBeforeRaise, lines_in_hand, waiting, of_chunk, send_left, send_spot_by, slot_spot}
use Rattle.send_recv.specs.Steps.{own_core, core_of, before_raise, after_written, after_flush}
use Rattle.sync_flags.specs.Tries.{NoTry}
use Rattle.send_recv.specs.Tries.{aim_at}
use Rattle.send_recv.specs.Turns.{NoLoad}
use Rattle.send_recv.proofs.Lines.WaitingOut.{waiting_loads, waiting_freed}
use Rattle.send_recv.specs.Ranks.{sending}
use Rattle.send_recv.proofs.Sending.SendFacts.{SendTurns, send_does, slot_kept, stands_at, at_stage, drafted_as, at_end, left_end, left_flush, left_at, now_within, spot_at}
use Rattle.send_recv.proofs.Sending.SendWrites.{stored_waiting, may_store, line_is_other, only_drafts}
use Rattle.send_recv.proofs.Sending.SendWork.{none_work}

-- ---- a line of the chunk

-- what the write of a line asks
pub record MayWriteLine (s : Sight) (c : Private) (op : SendAt) (i : ℕ) : Type 0 where
  pub in_chunk : i < lines_in_hand (chunk_of s.seat.setup) op
  pub other : handed_out c.out (line_at (core_of s.seat s.seat.rank) (first_chunk s.seat.setup.layout + i)) ≡ c.out
  pub permitted : MayMakeAll s.seat (record_in s) (stores_of c.out)

pub may_write_line : (s : Sight) (c : Private) (op : SendAt) (slot : SlotAt) (bytes : List ℕ) (i : ℕ) → IsSetup s.seat.setup → SendStands s c op slot bytes → op.stage ≡ Lines i → MayWriteLine s c op i
may_write_line s c op slot bytes i valid r stage =
    let at = at_stage s.seat (record_in s) c op slot bytes (Lines i) r stage in
    let low = at.0 in
    record {
      in_chunk = low;
      other = line_is_other s.seat c op bytes i at.2;
      permitted = may_store s c op slot bytes i valid r at.1 (omega (arith, low)) at.2 at.3;
    }

abbrev line_next : Bool → Layout → ℕ → SendStage
line_next b layout i = if b then Lines (i + 1) else before_raise layout

line_at_next : (b : Bool) (seat : Seat) (rec : Record) (d : Private) (op : SendAt) (bytes : List ℕ) (i : ℕ) → nat_lt (i + 1) (lines_in_hand (chunk_of seat.setup) op) ≡ b → i < lines_in_hand (chunk_of seat.setup) op → rec.post ≡ None
    → d.out ≡ waiting seat op bytes (suc i) → HasDrafted (chunk_of seat.setup) rec.stage op bytes i → IsAtSendStage seat rec d (record op { stage = line_next b seat.setup.layout i }) bytes (line_next b seat.setup.layout i)
line_at_next true seat rec d op bytes i next low post out drafted =
    let now : SendAt = record op { stage = Lines (i + 1) } in
    let e : suc i ≡ i + 1 = omega arith in
    subst (λ n. IsAtSendStage seat rec d now bytes (Lines n)) e
    (subst (λ n. n < lines_in_hand (chunk_of seat.setup) op) (sym e) (lt_is (i + 1) (lines_in_hand (chunk_of seat.setup) op) next), post, out, drafted_as (chunk_of seat.setup) rec.stage op bytes i (Lines (i + 1)) drafted)
line_at_next false seat rec d op bytes i last low post out drafted =
    let high = lt_not (i + 1) (lines_in_hand (chunk_of seat.setup) op) last in
    at_end seat rec d op bytes (suc i) (omega (arith, low, high)) post out drafted

line_left : (lines i n p x : ℕ) → i < n → n ≤ lines → x ≡ (lines - (i + 1)) + p → (lines - i) + p ≡ x + 1
line_left lines i n p x low few is = omega (arith, low, few, is)

line_left_by : (b : Bool) (layout : Layout) (size : ℕ) (op : SendAt) (slot : SlotAt) (i : ℕ) → nat_lt (i + 1) (lines_in_hand size op) ≡ b → op.stage ≡ Lines i → i < lines_in_hand size op → op.chunk < chunk_count size op.head.len
    → send_left layout size op slot ≡ send_left layout size (record op { stage = line_next b layout i }) slot + 1
line_left_by true layout size op slot i next stage low below =
    left_at layout size op slot (Lines i) stage
    ∙ line_left (lines_from size op.head.len op.chunk) i (lines_in_hand size op) (of_chunk layout op.posted * (chunk_count size op.head.len - op.chunk)) _ low (now_within size op.head.len op.chunk) refl
line_left_by false layout size op slot i last stage low below =
    let high = lt_not (i + 1) (lines_in_hand size op) last in
    let e : lines_in_hand size op ≡ i + 1 = omega (arith, low, high) in
    left_at layout size op slot (Lines i) stage
    ∙ line_left (lines_from size op.head.len op.chunk) i (lines_in_hand size op) (of_chunk layout op.posted * (chunk_count size op.head.len - op.chunk)) _ low (now_within size op.head.len op.chunk)
    (left_end layout op.posted (slot_left slot) (chunk_count size op.head.len - op.chunk) (lines_from size op.head.len op.chunk) (lines_in_hand size op) (omega (arith, below))
    ∙ ap (λ n. (lines_from size op.head.len op.chunk - n) + of_chunk layout op.posted * (chunk_count size op.head.len - op.chunk)) e)

spot_lines : (layout : Layout) (own other to i : ℕ) (slot : Option Spot) → send_spot_by layout own other to slot (Lines i) ≡ None
spot_lines LineFlags own other to i slot = refl
spot_lines BitFlags own other to i slot = refl

raise_open : (layout : Layout) → is_sent (before_raise layout) ≡ false
raise_open LineFlags = refl
raise_open BitFlags = refl

line_open : (b : Bool) (layout : Layout) (i : ℕ) → is_sent (line_next b layout i) ≡ false
line_open true layout i = refl
line_open false layout i = raise_open layout

line_by : (b : Bool) (s t : Sight) (c d : Private) (op : SendAt) (slot : SlotAt) (bytes : List ℕ) (i : ℕ) → nat_lt (i + 1) (lines_in_hand (chunk_of s.seat.setup) op) ≡ b → IsSetup s.seat.setup → SendStands s c op slot bytes → op.stage ≡ Lines i
    → WritesLine s c (line_at (core_of s.seat s.seat.rank) (first_chunk s.seat.setup.layout + i)) (words_at bytes (chunk_start (chunk_of s.seat.setup) op.chunk + 32 * i)) t d
    → SendTurns s c op slot bytes t d (record op { stage = line_next b s.seat.setup.layout i }) slot Moved
line_by b s t c d op slot bytes i next valid r stage w =
    let size = chunk_of s.seat.setup in
    let layout = s.seat.setup.layout in
    let at = at_stage s.seat (record_in s) c op slot bytes (Lines i) r stage in
    let low = at.0 in
    let l = stored_waiting s t c op slot bytes i valid r at.1 (omega (arith, low)) at.2 at.3 w.did in
    let post : (record_in t).post ≡ (record_in s).post = ap (λ (x : Record). x.post) l.is in
    let drafted : HasDrafted size (record_in t).stage op bytes i = subst (λ (st : Stage). HasDrafted size st op bytes i) (sym (ap (λ (x : Record). x.stage) l.is)) l.drafted in
    record {
      stands = subst (λ (x : Seat). IsSending x (record_in t) d (record op { stage = line_next b layout i }) slot bytes) (sym (seat_kept s _ t l.did))
          (stands_at s.seat (record_in s) (record_in t) c d op slot slot bytes (line_next b layout i) r (ap (λ (x : Record). x.held) l.is)
          (slot_kept s.seat (record_in s) (record_in t) slot post r.slot_stands)
          (line_at_next b s.seat (record_in t) d op bytes i next low (post ∙ at.1) (ap (λ (x : Private). x.out) w.is) drafted));
      turned = record {
        events = stores_of (waiting s.seat op bytes i);
        did = l.did;
        does = send_does (sending s c op slot bytes) (Lines i) true true t d stage refl w;
        tried = NoTry (ap (λ (o : Option Spot). aim_at layout o) (spot_at s.seat op slot (Lines i) stage ∙ spot_lines layout (own_core s.seat) (core_of s.seat op.to) op.to i (slot_spot s.seat slot))) refl;
        freed = waiting_freed s.seat op bytes i;
        rests = λ spot e. absurd (cc);
        only = tt;
        same = (refl, refl, refl);
        means = (line_left_by b layout size op slot i next stage low r.in_hand, ap (λ (x : Record). x.calls) l.is, ap is_sent stage, line_open b layout i, inr refl);
        rest = record { flips = ap (λ (x : Record). x.flips) l.is; hold = ap (λ (x : Record). x.held) l.is; heap = ap (λ (x : Record). x.heap) l.is };
        ends = λ e. absurd (cc);
        drafts = only_drafts s.seat.setup c (waiting s.seat op bytes i) at.2;
        held = NoLoad (waiting_loads s.seat op bytes i);
        work = none_work (load_count (stores_of (waiting s.seat op bytes i))) c.evictions d.evictions _ (waiting_loads s.seat op bytes i) (ap (λ (x : Private). x.evictions) w.is);
      };
    }

pub line_turn : (s t : Sight) (c d : Private) (op : SendAt) (slot : SlotAt) (bytes : List ℕ) (i : ℕ) → IsSetup s.seat.setup → SendStands s c op slot bytes → op.stage ≡ Lines i
    → WritesLine s c (line_at (core_of s.seat s.seat.rank) (first_chunk s.seat.setup.layout + i)) (words_at bytes (chunk_start (chunk_of s.seat.setup) op.chunk + 32 * i)) t d
    → SendTurns s c op slot bytes t d (after_written s.seat.setup.layout i op) slot Moved
line_turn s t c d op slot bytes i valid r stage w = line_by (nat_lt (i + 1) (lines_in_hand (chunk_of s.seat.setup) op)) s t c d op slot bytes i refl valid r stage w

-- ---- the flush

pub may_flush : (s : Sight) (c : Private) (op : SendAt) (slot : SlotAt) (bytes : List ℕ) → IsSetup s.seat.setup → SendStands s c op slot bytes → op.stage ≡ Flush → MayMakeAll s.seat (record_in s) (stores_of c.out)
may_flush s c op slot bytes valid r flush =
    let at = at_stage s.seat (record_in s) c op slot bytes Flush r flush in
    may_store s c op slot bytes (lines_in_hand (chunk_of s.seat.setup) op) valid r at.1 (omega arith) at.2 at.3

spot_flush : (layout : Layout) (own other to : ℕ) (slot : Option Spot) → send_spot_by layout own other to slot Flush ≡ None
spot_flush LineFlags own other to slot = refl
spot_flush BitFlags own other to slot = refl

pub flush_turn : (s t : Sight) (c d : Private) (op : SendAt) (slot : SlotAt) (bytes : List ℕ) → IsSetup s.seat.setup → SendStands s c op slot bytes → op.stage ≡ Flush → Flushes s c t d
    → SendTurns s c op slot bytes t d (after_flush op) slot Moved
flush_turn s t c d op slot bytes valid r flush w =
    let size = chunk_of s.seat.setup in
    let layout = s.seat.setup.layout in
    let at = at_stage s.seat (record_in s) c op slot bytes Flush r flush in
    let lines = lines_in_hand size op in
    let l = stored_waiting s t c op slot bytes lines valid r at.1 (omega arith) at.2 at.3 w.did in
    let post : (record_in t).post ≡ (record_in s).post = ap (λ (x : Record). x.post) l.is in
    let now : SendAt = record op { stage = Raise } in
    let drafted : HasDrafted size (record_in t).stage now bytes lines = drafted_as size (record_in t).stage op bytes lines Raise (subst (λ (st : Stage). HasDrafted size st op bytes lines) (sym (ap (λ (x : Record). x.stage) l.is)) l.drafted) in
    let below = r.in_hand in
    record {
      stands = subst (λ (x : Seat). IsSending x (record_in t) d now slot bytes) (sym (seat_kept s _ t l.did))
          (stands_at s.seat (record_in s) (record_in t) c d op slot slot bytes Raise r (ap (λ (x : Record). x.held) l.is)
          (slot_kept s.seat (record_in s) (record_in t) slot post r.slot_stands)
          (post ∙ at.1, subst (λ (x : Layout). IsBeforeRaise x s.seat (record_in t).stage d now bytes) (sym at.0) (ap (λ (x : Private). x.out) w.is, drafted)));
      turned = record {
        events = stores_of (waiting s.seat op bytes lines);
        did = l.did;
        does = send_does (sending s c op slot bytes) Flush true true t d flush refl w;
        tried = NoTry (ap (λ (o : Option Spot). aim_at layout o) (spot_at s.seat op slot Flush flush ∙ spot_flush layout (own_core s.seat) (core_of s.seat op.to) op.to (slot_spot s.seat slot))) refl;
        freed = waiting_freed s.seat op bytes lines;
        rests = λ spot e. absurd (cc);
        only = tt;
        same = (refl, refl, refl);
        means = (
          left_at layout size op slot Flush flush ∙ left_flush layout op.posted (lines_from size op.head.len op.chunk - lines) (chunk_count size op.head.len - op.chunk) at.0 (omega (arith, below)),
          ap (λ (x : Record). x.calls) l.is,
          ap is_sent flush,
          refl,
          inr refl,
        );
        rest = record { flips = ap (λ (x : Record). x.flips) l.is; hold = ap (λ (x : Record). x.held) l.is; heap = ap (λ (x : Record). x.heap) l.is };
        ends = λ e. absurd (cc);
        drafts = only_drafts s.seat.setup c (waiting s.seat op bytes lines) at.2;
        held = NoLoad (waiting_loads s.seat op bytes lines);
        work = none_work (load_count (stores_of (waiting s.seat op bytes lines))) c.evictions d.evictions _ (waiting_loads s.seat op bytes lines) (ap (λ (x : Private). x.evictions) w.is);
      };
    }
