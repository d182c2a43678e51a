-- The turns of a send that write: its header line, a line of a chunk, and with bit flags the last line out of
-- the write-combining buffer.
use Rattle.std.proofs.Common.{◌≡◌, ◌≢◌, inr, ℕ, zero, suc, ◌+◌, ◌-◌, ◌*◌, ◌<◌, ◌≤◌, Bool, true, false, ◌==◌, ◌&&◌, if◌then◌else◌, List, [], Option, Some, None, refl, sym, ◌∙◌, ap, subst, arith, append-nil}
use Rattle.scc_base.specs.Places.{LineAt, same_line}
use Rattle.scc_base.specs.Layouts.{first_chunk}
use Rattle.scc_base.specs.Setups.{SetupView, IsSetup}
use Rattle.scc_base.specs.declared.events.Spot.{Spot}
use Rattle.scc_base.specs.declared.events.Turn.TheVariants.{Moved}
use Rattle.scc_base.specs.declared.layouts.Layout.{Layout}
use Rattle.scc_base.specs.declared.layouts.Layout.TheVariants.{LineFlags, BitFlags}
use Rattle.scc_proto.specs.Stages.{Stage, Record}
use Rattle.scc_proto.specs.Records.{chunk_of}
use Rattle.scc_proto.specs.Ports.{Seat, Sight, Did, MayMakeAll, record_in}
use Rattle.scc_proto.proofs.Tests.{peers_are, eqb_same, eqb_other}
use Rattle.scc_proto.proofs.PortLaws.{seat_kept, record_did}
use Rattle.scc_proto.proofs.Layouts.Roles.{if_yes, if_no, eq_is, eq_not}
use Rattle.write_combine.specs.declared.combiner.Out.{Out}
use Rattle.write_combine.specs.Combining.{handed_out}
use Rattle.put_get.specs.Accesses.{stores_of, whole_line}
use Rattle.put_get.specs.Cores.{Private, WritesLine}
use Rattle.put_get.specs.Transfers.{line_at}
use Rattle.send_recv.specs.declared.stages.SendStage.{SendStage}
use Rattle.send_recv.specs.declared.stages.SendStage.TheVariants.{Header, Lines}
use Rattle.send_recv.specs.Bytes.{words_at}
use Rattle.send_recv.specs.Chunks.{chunk_count, chunk_start, lines_from}
use Rattle.send_recv.specs.Ops.{SendAt, SlotAt, is_sent, slot_left, slot_left_by}
use Rattle.send_recv.specs.Sending.{IsAtSendStage, IsSending, SendStands, StartDoes, HasDrafted, HasNoLines, DraftedBefore, own_line, header_words, lines_in_hand, waiting, of_chunk, send_left, send_spot_by, slot_spot_by}
use Rattle.send_recv.specs.Steps.{own_core, core_of, before_raise, after_header}
use Rattle.sync_flags.specs.Tries.{NoTry}
use Rattle.send_recv.specs.Tries.{aim_at}
use Rattle.send_recv.specs.Turns.{StoresFromBuffer, NoLoad}
use Rattle.send_recv.proofs.Lines.WaitingOut.{waiting_out}
use Rattle.send_recv.specs.Ranks.{Sender, sending}
use Rattle.send_recv.proofs.Sending.SendFacts.{SendTurns, send_does, slot_kept, stands_at, at_stage, no_post, before_as, at_end, left_end, left_at, spot_at}
use Rattle.send_recv.proofs.Sending.SendWork.{none_work}

-- ---- the line that waited was stored

pub record StoredWaiting (s t : Sight) (op : SendAt) (bytes : List ℕ) (lines : ℕ) : Type 0 where
  pub new : Stage
  pub is : record_in t ≡ record (record_in s) { stage = new }
  pub drafted : HasDrafted (chunk_of s.seat.setup) new op bytes lines
  pub did : Did s (stores_of (waiting s.seat op bytes lines)) t

pub stored_waiting : (s t : Sight) (c : Private) (op : SendAt) (slot : SlotAt) (bytes : List ℕ) (i : ℕ) → IsSetup s.seat.setup → SendStands s c op slot bytes → (record_in s).post ≡ None → i ≤ lines_in_hand (chunk_of s.seat.setup) op
    → c.out ≡ waiting s.seat op bytes i → DraftedBefore (chunk_of s.seat.setup) (record_in s).stage op bytes i → Did s (stores_of c.out) t → StoredWaiting s t op bytes i
stored_waiting s t c op slot bytes i valid r none low out drafted did =
    let p = peers_are s.seat.setup s.seat.rank op.to r.peers in
    let l = waiting_out s.seat (record_in s) op bytes i valid p.one none low drafted in
    let done : Did s (stores_of (waiting s.seat op bytes i)) t = subst (λ (o : Option Out). Did s (stores_of o) t) out did in
    record { new = l.new; is = record_did s _ t done ∙ l.becomes; drafted = l.drafted; did = done }

-- it may be stored
pub may_store : (s : Sight) (c : Private) (op : SendAt) (slot : SlotAt) (bytes : List ℕ) (i : ℕ) → IsSetup s.seat.setup → SendStands s c op slot bytes → (record_in s).post ≡ None → i ≤ lines_in_hand (chunk_of s.seat.setup) op
    → c.out ≡ waiting s.seat op bytes i → DraftedBefore (chunk_of s.seat.setup) (record_in s).stage op bytes i → MayMakeAll s.seat (record_in s) (stores_of c.out)
may_store s c op slot bytes i valid r none low out drafted =
    let p = peers_are s.seat.setup s.seat.rank op.to r.peers in
    subst (λ (o : Option Out). MayMakeAll s.seat (record_in s) (stores_of o)) (sym out) (waiting_out s.seat (record_in s) op bytes i valid p.one none low drafted).may

-- the line that waits is another one than the next
other_by : (core one other : ℕ) (o : Out) → one ≢ other → same_line o.line (record { core = core; line = other }) ≡ ((core == core) && (one == other)) → handed_out (Some o) (record { core = core; line = other }) ≡ Some o
other_by core one other o ne is = if_no (same_line o.line (record { core = core; line = other })) None (Some o) (is ∙ (λ i. eqb_same core i && eqb_other one other ne i))

first_chunk-above : (layout : Layout) → 1 ≤ first_chunk layout
first_chunk-above LineFlags = omega arith
first_chunk-above BitFlags = omega arith

none_or : (b : Bool) (o : Out) (line : LineAt) → handed_out (Some o) line ≡ Some o → handed_out (if b then Some o else None) line ≡ (if b then Some o else None)
none_or true o line h = h
none_or false o line h = refl

waiting_other : (seat : Seat) (op : SendAt) (bytes : List ℕ) (i : ℕ) → handed_out (waiting seat op bytes i) (line_at (core_of seat seat.rank) (first_chunk seat.setup.layout + i)) ≡ waiting seat op bytes i
waiting_other seat op bytes zero =
    let above = first_chunk-above seat.setup.layout in
    none_or (op.chunk == 0) (whole_line (own_line seat 0) (header_words op.head op.posted)) (line_at (core_of seat seat.rank) (first_chunk seat.setup.layout + 0))
    (other_by (own_core seat) 0 (first_chunk seat.setup.layout + 0) (whole_line (own_line seat 0) (header_words op.head op.posted)) (λ e. absurd (omega (arith, e, above))) refl)
waiting_other seat op bytes (suc i) =
    other_by (own_core seat) (first_chunk seat.setup.layout + i) (first_chunk seat.setup.layout + suc i)
    (whole_line (own_line seat (first_chunk seat.setup.layout + i)) (words_at bytes (chunk_start (chunk_of seat.setup) op.chunk + 32 * i))) (λ e. absurd (omega (arith, e))) refl

pub line_is_other : (seat : Seat) (c : Private) (op : SendAt) (bytes : List ℕ) (i : ℕ) → c.out ≡ waiting seat op bytes i → handed_out c.out (line_at (core_of seat seat.rank) (first_chunk seat.setup.layout + i)) ≡ c.out
line_is_other seat c op bytes i out = subst (λ (o : Option Out). handed_out o (line_at (core_of seat seat.rank) (first_chunk seat.setup.layout + i)) ≡ o) (sym out) (waiting_other seat op bytes i)

-- the events are what was in the buffer, and nothing else
pub only_drafts : (setup : SetupView) (c : Private) (out : Option Out) → c.out ≡ out → StoresFromBuffer setup c (stores_of out)
only_drafts setup c out is = record {
  front = stores_of out;
  rest = [];
  is = sym (append-nil (stores_of out));
  none_or_all = inr (ap (λ (o : Option Out). stores_of o) (sym is));
  no_draft = refl;
}

-- ---- the header line

spot_empty : (layout : Layout) (own other to : ℕ) (slot : SlotAt) → slot.to ≡ None → send_spot_by layout own other to (slot_spot_by layout own slot.to slot.seen) Header ≡ None
spot_empty layout own other to slot empty = ap (λ (o : Option ℕ). slot_spot_by layout own o slot.seen) empty ∙ none_spot layout slot.seen
  where
    none_spot : (l : Layout) (b : Bool) → slot_spot_by l own None b ≡ None
    none_spot LineFlags true = refl
    none_spot LineFlags false = refl
    none_spot BitFlags true = refl
    none_spot BitFlags false = refl

header_left : (slot lines now p x : ℕ) → slot ≡ 0 → now ≡ 0 → x ≡ (lines - now) + p → slot + 1 + lines + p ≡ x + 1
header_left slot lines now p x empty none is = omega (arith, empty, none, is)

abbrev header_next : Bool → Layout → SendStage
header_next b layout = if b then before_raise layout else Lines 0

header_at : (b : Bool) (seat : Seat) (rec : Record) (d : Private) (op : SendAt) (bytes : List ℕ) → (lines_in_hand (chunk_of seat.setup) op == 0) ≡ b → rec.post ≡ None → d.out ≡ waiting seat op bytes 0
    → DraftedBefore (chunk_of seat.setup) rec.stage op bytes 0 → IsAtSendStage seat rec d (record op { stage = header_next b seat.setup.layout }) bytes (header_next b seat.setup.layout)
header_at true seat rec d op bytes none post out drafted = at_end seat rec d op bytes 0 (sym (eq_is (lines_in_hand (chunk_of seat.setup) op) 0 none)) post out drafted
header_at false seat rec d op bytes some post out drafted =
    let ne = eq_not (lines_in_hand (chunk_of seat.setup) op) 0 some in
    (omega (arith, ne), post, out, before_as (chunk_of seat.setup) rec.stage op bytes 0 (Lines 0) drafted)

header_left_by : (b : Bool) (layout : Layout) (size : ℕ) (op : SendAt) (slot : SlotAt) → (lines_in_hand size op == 0) ≡ b → op.stage ≡ Header → slot_left slot ≡ 0 → op.chunk < chunk_count size op.head.len
    → send_left layout size op slot ≡ send_left layout size (record op { stage = header_next b layout }) slot + 1
header_left_by true layout size op slot none header empty below =
    left_at layout size op slot Header header
    ∙ header_left (slot_left slot) (lines_from size op.head.len op.chunk) (lines_in_hand size op) (of_chunk layout op.posted * (chunk_count size op.head.len - op.chunk)) _ empty (eq_is (lines_in_hand size op) 0 none)
    (left_end layout op.posted (slot_left slot) (chunk_count size op.head.len - op.chunk) (lines_from size op.head.len op.chunk) (lines_in_hand size op) (omega (arith, below)))
header_left_by false layout size op slot some header empty below =
    left_at layout size op slot Header header
    ∙ header_left (slot_left slot) (lines_from size op.head.len op.chunk) 0 (of_chunk layout op.posted * (chunk_count size op.head.len - op.chunk)) _ empty refl refl

raise_open : (layout : Layout) → is_sent (before_raise layout) ≡ false
raise_open LineFlags = refl
raise_open BitFlags = refl

header_open : (b : Bool) (layout : Layout) → is_sent (header_next b layout) ≡ false
header_open true layout = raise_open layout
header_open false layout = refl

-- the header line is written where the slot is empty
first_line : (old : Sender) (t : Sight) (d : Private) (to : Option ℕ) → to ≡ None → StartDoes old None true t d → StartDoes old to true t d
first_line old t d to empty does = subst (λ (o : Option ℕ). StartDoes old o true t d) (sym empty) does

header_by : (b : Bool) (s t : Sight) (c d : Private) (op : SendAt) (slot : SlotAt) (bytes : List ℕ) → (lines_in_hand (chunk_of s.seat.setup) op == 0) ≡ b → SendStands s c op slot bytes → op.stage ≡ Header → slot.to ≡ None
    → WritesLine s c (line_at (core_of s.seat s.seat.rank) 0) (header_words op.head op.posted) t d → SendTurns s c op slot bytes t d (record op { stage = header_next b s.seat.setup.layout }) slot Moved
header_by b s t c d op slot bytes lines r header empty w =
    let size = chunk_of s.seat.setup in
    let layout = s.seat.setup.layout in
    let at = at_stage s.seat (record_in s) c op slot bytes Header r header in
    let did : Did s [] t = subst (λ (o : Option Out). Did s (stores_of o) t) at.2 w.did in
    let same : record_in t ≡ record_in s = record_did s [] t did in
    let first : (op.chunk == 0) ≡ true = ap (λ n. n == 0) at.0 in
    let post : (record_in t).post ≡ None = ap (λ (x : Record). x.post) same ∙ no_post s.seat (record_in s) slot r.slot_stands empty in
    let line = whole_line (own_line s.seat 0) (header_words op.head op.posted) in
    let out : d.out ≡ waiting s.seat op bytes 0 = ap (λ (x : Private). x.out) w.is ∙ sym (if_yes (op.chunk == 0) (Some line) None first) in
    let drafted : HasNoLines size (record_in t).stage op bytes (op.chunk == 0) = subst (λ x. HasNoLines size (record_in t).stage op bytes x) (sym first) (ap (λ (x : Record). x.stage) same ∙ at.1) in
    let none : slot_left slot ≡ 0 = ap (λ (o : Option ℕ). slot_left_by o slot.seen) empty in
    record {
      stands = subst (λ (x : Seat). IsSending x (record_in t) d (record op { stage = header_next b layout }) slot bytes) (sym (seat_kept s [] t did))
          (stands_at s.seat (record_in s) (record_in t) c d op slot slot bytes (header_next b layout) r (ap (λ (x : Record). x.held) same)
          (slot_kept s.seat (record_in s) (record_in t) slot (ap (λ (x : Record). x.post) same) r.slot_stands)
          (header_at b s.seat (record_in t) d op bytes lines post out drafted));
      turned = record {
        events = [];
        did = did;
        does = send_does (sending s c op slot bytes) Header true true t d header refl (first_line (sending s c op slot bytes) t d slot.to empty w);
        tried = NoTry (ap (λ (o : Option Spot). aim_at layout o) (spot_at s.seat op slot Header header ∙ spot_empty layout (own_core s.seat) (core_of s.seat op.to) op.to slot empty)) refl;
        freed = refl;
        rests = λ spot e. refl;
        only = tt;
        same = (refl, refl, refl);
        means = (header_left_by b layout size op slot lines header none r.in_hand, ap (λ (x : Record). x.calls) same, ap is_sent header, header_open b layout, inr refl);
        rest = record { flips = ap (λ (x : Record). x.flips) same; hold = ap (λ (x : Record). x.held) same; heap = ap (λ (x : Record). x.heap) same };
        ends = λ e. absurd (cc);
        drafts = only_drafts s.seat.setup c None at.2;
        held = NoLoad refl;
        work = none_work 0 c.evictions d.evictions _ refl (ap (λ (x : Private). x.evictions) w.is);
      };
    }

pub header_turn : (s t : Sight) (c d : Private) (op : SendAt) (slot : SlotAt) (bytes : List ℕ) → SendStands s c op slot bytes → op.stage ≡ Header → slot.to ≡ None
    → WritesLine s c (line_at (core_of s.seat s.seat.rank) 0) (header_words op.head op.posted) t d → SendTurns s c op slot bytes t d (after_header s.seat.setup.layout op) slot Moved
header_turn s t c d op slot bytes r header empty w = header_by (lines_in_hand (chunk_of s.seat.setup) op == 0) s t c d op slot bytes refl r header empty w
