-- The turn of a send that lowers `ready`: the chunk is through, and after the last one the message is sent.
use Rattle.std.proofs.Common.{◌≡◌, ◌≢◌, inr, ℕ, suc, ◌+◌, ◌-◌, ◌*◌, ◌<◌, Bool, true, false, ◌==◌, if◌then◌else◌, List, [], ◌∷◌, ◌++◌, Option, Some, None, option_map, length, take, refl, sym, ◌∙◌, ap, subst, arith}
use Rattle.scc_base.specs.Calls.{Send, Post}
use Rattle.scc_base.specs.Layouts.{chunk_size}
use Rattle.scc_base.specs.Setups.{IsSetup}
use Rattle.scc_base.specs.declared.events.Spot.{Spot}
use Rattle.scc_base.specs.declared.events.Spot.TheVariants.{Register}
use Rattle.scc_base.specs.declared.events.Turn.TheVariants.{Waiting}
use Rattle.scc_base.specs.declared.layouts.Layout.{Layout}
use Rattle.scc_base.specs.declared.layouts.Layout.TheVariants.{LineFlags, BitFlags}
use Rattle.scc_base.specs.declared.signals.Signal.TheVariants.{Ready}
use Rattle.scc_proto.specs.Messages.{bytes_from, is_last, with_chunk}
use Rattle.scc_proto.specs.Stages.{Filling, Answered, Stage, Idle, Sending, InFlight, Record}
use Rattle.scc_proto.specs.Moves.{LowerSignal, lower_ready, calls_sent, finished_if, after}
use Rattle.scc_proto.specs.Permission.{may_go_on}
use Rattle.scc_proto.specs.Soundness.{is_answered}
use Rattle.scc_proto.specs.Words.{are_peers}
use Rattle.scc_proto.specs.Records.{chunk_of}
use Rattle.scc_proto.specs.Ports.{Seat, Sight, record_in}
use Rattle.scc_proto.proofs.Tests.{eqb_same, eqb_other, peers_swap}
use Rattle.scc_proto.proofs.PortLaws.{seat_kept}
use Rattle.scc_proto.proofs.Layouts.Roles.{if_yes, if_no, le_is, le_not}
use Rattle.put_get.specs.Accesses.{whole_line}
use Rattle.put_get.specs.Cores.{Private}
use Rattle.put_get.specs.Transfers.{load_count}
use Rattle.send_recv.specs.declared.stages.SendStage.TheVariants.{Lines, Lower, Finished}
use Rattle.send_recv.specs.Chunks.{chunk_count, chunk_start, chunk_len, chunk_lines_of, lines_from, is_last_chunk}
use Rattle.send_recv.specs.Flags.{Changes, MayChange}
use Rattle.send_recv.specs.Ops.{SendAt, SlotAt, is_sent}
use Rattle.send_recv.specs.Receiving.{progress_at}
use Rattle.send_recv.specs.Sending.{IsSending, SendStands, SendMeans, HasDrafted, Later, HasNoLines, IsUp, header_words, lines_in_hand, own_line, of_chunk, send_spot, send_spot_by, slot_spot}
use Rattle.send_recv.specs.Ranks.{sending}
use Rattle.send_recv.specs.Steps.{moves_on, own_core, core_of, signal_flag, after_through, through_answer}
use Rattle.sync_flags.specs.Tries.{Tried}
use Rattle.send_recv.specs.Tries.{aim_at}
use Rattle.send_recv.specs.Turns.{OnlyTries}
use Rattle.send_recv.proofs.Receiving.LookTurn.{holds_kept}
use Rattle.send_recv.proofs.Looks.ChangeFacts.{change_facts}
use Rattle.send_recv.proofs.Receiving.FlagTurns.{went_on}
use Rattle.send_recv.proofs.Receiving.RaiseTurn.{whole, longer, last_is, next_below}
use Rattle.send_recv.proofs.Looks.FlagMoves.{MovesFlag, may_change, flag_moved, signal_lowers, ready_turns}
use Rattle.send_recv.proofs.Lines.DraftNone.{signal_is_flag, change_drafts_none}
use Rattle.send_recv.proofs.Lines.DraftNotes.{no_lines}
use Rattle.send_recv.proofs.Lines.DraftWhole.{AreBytes, as_receive, drafted_read}
use Rattle.send_recv.proofs.Sending.SendFacts.{SendTurns, send_does, slot_kept, stands_at, at_stage, left_at, spot_at}
use Rattle.send_recv.proofs.Sending.SendWork.{change_work}
use Rattle.send_recv.proofs.Sending.SendWaits.{no_stores, register_waits, next_answer, no_wait, goes_on, never_waits}

-- ---- the flag may be lowered

-- lowering the flag is this move
lowers_ready : (s : Sight) (op : SendAt) (bytes : List ℕ) → IsSetup s.seat.setup → are_peers s.seat.setup s.seat.rank op.to ≡ true → IsUp (chunk_of s.seat.setup) (record_in s).stage op bytes Answered
    → MovesFlag s.seat.setup.layout s.seat (record_in s) s.seat.rank Ready op.to false (LowerSignal Ready op.to)
lowers_ready s op bytes valid peers up =
    signal_lowers s.seat.setup.layout s Ready op.to refl valid peers (ready_turns s op.to (ap (λ (st : Stage). is_answered op.to st (record_in s).post) up.stage_is ∙ eqb_same op.to))
    (ap (λ (st : Stage). may_go_on op.to st (record_in s).post) up.stage_is ∙ eqb_same op.to)

pub may_lower_turn : (s : Sight) (c : Private) (op : SendAt) (slot : SlotAt) (bytes : List ℕ) → IsSetup s.seat.setup → SendStands s c op slot bytes → op.stage ≡ Lower → MayChange s c (own_core s.seat) (signal_flag s.seat Ready op.to) false
may_lower_turn s c op slot bytes valid r lower =
    let at = at_stage s.seat (record_in s) c op slot bytes Lower r lower in
    may_change s c s.seat.rank Ready op.to false (LowerSignal Ready op.to) valid r.hands at.2 (lowers_ready s op bytes valid r.peers at.3)

-- ---- the record after it

through_last : (layout : Layout) (rec new : Record) (op : SendAt) (bytes : List ℕ) → AreBytes bytes → IsUp (chunk_size layout) rec.stage op bytes Answered → length bytes ≡ op.head.len → op.chunk < chunk_count (chunk_size layout) op.head.len
    → is_last_chunk (chunk_size layout) op.head.len op.chunk ≡ true → new ≡ after (chunk_size layout) (LowerSignal Ready op.to) rec → (new.stage ≡ Idle) × (new.calls ≡ rec.calls ++ Send op.to op.head bytes ∷ [])
through_last layout rec new op bytes small up long below last is =
    let size = chunk_size layout in
    let message = progress_at size op.head op.chunk bytes in
    let t = last_is size (as_receive op) bytes true last in (
      ap (λ (r : Record). r.stage) is ∙ ap (λ (st : Stage). lower_ready size st) up.stage_is ∙ if_yes (is_last size message) Idle (Sending op.to Filling (with_chunk size message up.chunk) []) t,
      ap (λ (r : Record). r.calls) is ∙ ap (λ (st : Stage). calls_sent size st rec.calls) up.stage_is
          ∙ ap (λ b. finished_if b (Send op.to op.head (take (chunk_start size op.chunk) bytes ++ bytes_from up.chunk 0 (chunk_len size op.head.len op.chunk))) rec.calls) t
          ∙ ap (λ bs. rec.calls ++ Send op.to op.head bs ∷ [])
          (whole layout (as_receive op) bytes up.chunk long below (drafted_read size up.chunk op bytes small up.lines) (le_is op.head.len (size * (op.chunk + 1)) last)),
    )

through_next : (layout : Layout) (rec new : Record) (op : SendAt) (bytes : List ℕ) → AreBytes bytes → IsUp (chunk_size layout) rec.stage op bytes Answered → length bytes ≡ op.head.len → op.chunk < chunk_count (chunk_size layout) op.head.len
    → is_last_chunk (chunk_size layout) op.head.len op.chunk ≡ false → new ≡ after (chunk_size layout) (LowerSignal Ready op.to) rec
    → (new.stage ≡ Sending op.to Filling (progress_at (chunk_size layout) op.head (op.chunk + 1) bytes) []) × (new.calls ≡ rec.calls)
through_next layout rec new op bytes small up long below more is =
    let size = chunk_size layout in
    let message = progress_at size op.head op.chunk bytes in
    let f = last_is size (as_receive op) bytes false more in
    let bytes_is = longer layout (as_receive op) bytes up.chunk long below (drafted_read size up.chunk op bytes small up.lines) (le_not op.head.len (size * (op.chunk + 1)) more) in
    let one : suc op.chunk ≡ op.chunk + 1 = omega arith in (
      ap (λ (r : Record). r.stage) is ∙ ap (λ (st : Stage). lower_ready size st) up.stage_is ∙ if_no (is_last size message) Idle (Sending op.to Filling (with_chunk size message up.chunk) []) f
          ∙ (λ i. Sending op.to Filling (record { head = op.head; chunks = one i; bytes = bytes_is i }) []),
      ap (λ (r : Record). r.calls) is ∙ ap (λ (st : Stage). calls_sent size st rec.calls) up.stage_is
          ∙ ap (λ b. finished_if b (Send op.to op.head (take (chunk_start size op.chunk) bytes ++ bytes_from up.chunk 0 (chunk_len size op.head.len op.chunk))) rec.calls) f,
    )

-- ---- numbers, at each of the two sizes

next_lines : (layout : Layout) (len chunk : ℕ) → chunk_start (chunk_size layout) (chunk + 1) < len → 0 < chunk_lines_of (chunk_size layout) len (chunk + 1)
next_lines LineFlags len chunk more = omega (arith, more)
next_lines BitFlags len chunk more = omega (arith, more)

next_rest : (layout : Layout) (len chunk : ℕ) → chunk_start (chunk_size layout) (chunk + 1) < len → lines_from (chunk_size layout) len (chunk + 1) ≡ lines_from (chunk_size layout) len chunk - chunk_lines_of (chunk_size layout) len chunk
next_rest LineFlags len chunk more = omega (arith, more)
next_rest BitFlags len chunk more = omega (arith, more)

next_left : (rest each more lines count : ℕ) → lines ≡ rest → count ≡ more → rest + 1 + each * more ≡ (lines - 0) + each * count + 1
next_left rest each more lines count a b =
    let p : each * more ≡ each * count = ap (λ n. each * n) (sym b) in
    omega (arith, a, p)

-- ---- the turn

spot_lines : (layout : Layout) (own other to : ℕ) (slot : Option Spot) → layout ≡ LineFlags → send_spot_by layout own other to slot Lower ≡ None
spot_lines LineFlags own other to slot e = refl
spot_lines BitFlags own other to slot e = absurd (cc)

spot_bits : (layout : Layout) (own other to : ℕ) (slot : Option Spot) → layout ≡ BitFlags → send_spot_by layout own other to slot Lower ≡ Some (Register own)
spot_bits LineFlags own other to slot e = absurd (cc)
spot_bits BitFlags own other to slot e = refl

abbrev next_op : Bool → SendAt → SendAt
next_op b op = if b then record op { stage = Finished } else record op { chunk = op.chunk + 1; stage = Lines 0 }

lower_stands : (b : Bool) (seat : Seat) (rec new : Record) (c d : Private) (op : SendAt) (slot : SlotAt) (bytes : List ℕ) → AreBytes bytes → is_last_chunk (chunk_of seat.setup) op.head.len op.chunk ≡ b → IsSending seat rec c op slot bytes
    → op.stage ≡ Lower → new ≡ after (chunk_of seat.setup) (LowerSignal Ready op.to) rec → d.out ≡ None → IsSending seat new d (next_op b op) slot bytes
lower_stands true seat rec new c d op slot bytes small last r lower is out =
    let at = at_stage seat rec c op slot bytes Lower r lower in
    let ends = through_last seat.setup.layout rec new op bytes small at.3 r.long r.in_hand last is in
    stands_at seat rec new c d op slot slot bytes Finished r (ap (λ (x : Record). x.held) is) (slot_kept seat rec new slot (ap (λ (x : Record). x.post) is ∙ sym at.1) r.slot_stands) (ends.0, out)
lower_stands false seat rec new c d op slot bytes small more r lower is out =
    let size = chunk_of seat.setup in
    let at = at_stage seat rec c op slot bytes Lower r lower in
    let goes = through_next seat.setup.layout rec new op bytes small at.3 r.long r.in_hand more is in
    let low = le_not op.head.len (size * (op.chunk + 1)) more in
    let now : SendAt = record op { chunk = op.chunk + 1; stage = Lines 0 } in
    let ne : op.chunk + 1 ≢ 0 = omega arith in
    let later : (op.chunk + 1 == 0) ≡ false = eqb_other (op.chunk + 1) 0 ne in
    let drafted : HasDrafted size new.stage now bytes 0 = Later [] ne goes.0 (no_lines bytes (chunk_start size (op.chunk + 1)) []) in
    record {
      peers = r.peers;
      head = r.head;
      post_head = r.post_head;
      long = r.long;
      hands = holds_kept seat.setup.layout rec new (ap (λ (x : Record). x.held) is) r.hands;
      slot_stands = slot_kept seat rec new slot (ap (λ (x : Record). x.post) is ∙ sym at.1) r.slot_stands;
      in_hand = next_below seat.setup.layout op.head.len op.chunk low;
      at = (
        next_lines seat.setup.layout op.head.len op.chunk low,
        ap (λ (x : Record). x.post) is,
        out ∙ sym (if_no (op.chunk + 1 == 0) (Some (whole_line (own_line seat 0) (header_words op.head op.posted))) None later),
        subst (λ b. HasNoLines size new.stage now bytes b) (sym later) drafted,
      );
    }

lower_means : (b : Bool) (s t : Sight) (c d : Private) (op : SendAt) (slot : SlotAt) (bytes : List ℕ) → AreBytes bytes → is_last_chunk (chunk_of s.seat.setup) op.head.len op.chunk ≡ b
    → IsUp (chunk_of s.seat.setup) (record_in s).stage op bytes Answered → length bytes ≡ op.head.len → op.chunk < chunk_count (chunk_of s.seat.setup) op.head.len → op.stage ≡ Lower → op.posted ≡ false → slot.to ≡ None
    → record_in t ≡ after (chunk_of s.seat.setup) (LowerSignal Ready op.to) (record_in s) → SendMeans (sending s c op slot bytes) (sending t d (next_op b op) slot bytes) (next_answer b)
lower_means true s t c d op slot bytes small last up long below lower plain none is =
    let ends = through_last s.seat.setup.layout (record_in s) (record_in t) op bytes small up long below last is in
    let sent : is_sent op.stage ≡ false = ap is_sent lower in (
      refl,
      sym (if_no (is_sent op.stage) slot (if op.posted then record { to = Some op.to; seen = false } else slot) sent ∙ if_no op.posted (record { to = Some op.to; seen = false }) slot plain),
      ends.1 ∙ ap (λ cs. (record_in s).calls ++ cs) (sym (if_no (is_sent op.stage) [] (if op.posted then Post op.to op.head bytes ∷ [] else Send op.to op.head bytes ∷ []) sent
          ∙ if_no op.posted (Post op.to op.head bytes ∷ []) (Send op.to op.head bytes ∷ []) plain)),
      λ plain open_before. none,
    )
lower_means false s t c d op slot bytes small more up long below lower plain none is =
    let layout = s.seat.setup.layout in
    let size = chunk_of s.seat.setup in
    let goes = through_next layout (record_in s) (record_in t) op bytes small up long below more is in
    let low = le_not op.head.len (size * (op.chunk + 1)) more in (
      left_at layout size op slot Lower lower
          ∙ next_left (lines_from size op.head.len op.chunk - lines_in_hand size op) (of_chunk layout op.posted) (chunk_count size op.head.len - op.chunk - 1) (lines_from size op.head.len (op.chunk + 1)) (chunk_count size op.head.len - (op.chunk + 1))
          (next_rest layout op.head.len op.chunk low) (let e : chunk_count size op.head.len - (op.chunk + 1) ≡ chunk_count size op.head.len - op.chunk - 1 = omega arith in e),
      goes.1,
      ap is_sent lower,
      refl,
      inr refl,
    )

same_op : (b : Bool) (op : SendAt) → ((next_op b op).to ≡ op.to) × ((next_op b op).head ≡ op.head) × ((next_op b op).posted ≡ op.posted)
same_op true op = (refl, refl, refl)
same_op false op = (refl, refl, refl)

lower_goes : (b : Bool) (s t : Sight) (c d : Private) (op : SendAt) (slot : SlotAt) (bytes : List ℕ) → is_last_chunk (chunk_of s.seat.setup) op.head.len op.chunk ≡ b → IsSetup s.seat.setup → AreBytes bytes → SendStands s c op slot bytes → op.stage ≡ Lower
    → Changes s c (own_core s.seat) (signal_flag s.seat Ready op.to) false true t d → SendTurns s c op slot bytes t d (next_op b op) slot (next_answer b)
lower_goes b s t c d op slot bytes last valid small r lower changes =
    let layout = s.seat.setup.layout in
    let own = own_core s.seat in
    let at = at_stage s.seat (record_in s) c op slot bytes Lower r lower in
    let is = flag_moved s t c d s.seat.rank Ready op.to false (LowerSignal Ready op.to) valid r.hands at.2 (lowers_ready s op bytes valid r.peers at.3) changes in
    let facts = change_facts layout s t c d own Ready op.to false true at.2 changes in
    record {
      stands = subst (λ (x : Seat). IsSending x (record_in t) d (next_op b op) slot bytes) (sym (seat_kept s facts.events t facts.did))
          (lower_stands b s.seat (record_in s) (record_in t) c d op slot bytes small last r lower is facts.out);
      turned = record {
        events = facts.events;
        did = facts.did;
        does = send_does (sending s c op slot bytes) Lower (moves_on (next_answer b)) true t d lower (goes_on b) changes;
        tried = subst (λ (w : Option Spot). Tried (aim_at layout (send_spot s.seat op slot)) facts.events w) (sym (no_wait b))
            (went_on layout (send_spot s.seat op slot) own facts.events
            (λ e. spot_at s.seat op slot Lower lower ∙ spot_lines layout own (core_of s.seat op.to) op.to (slot_spot s.seat slot) e)
            (λ e. spot_at s.seat op slot Lower lower ∙ spot_bits layout own (core_of s.seat op.to) op.to (slot_spot s.seat slot) e) facts.tries facts.failed);
        freed = facts.freed;
        ends = λ done open_before aim n. facts.ends refl aim n;
        rests = λ spot e. never_waits b spot _ e;
        only = subst (λ (w : Option Spot). OnlyTries (aim_at layout w) facts.events) (sym (no_wait b)) tt;
        same = same_op b op;
        means = lower_means b s t c d op slot bytes small last at.3 r.long r.in_hand lower at.0
            (r.slot_stands.to ∙ ap (λ (o : Option InFlight). option_map (λ (p : InFlight). p.to) o) at.1) is;
        rest = record { flips = ap (λ (x : Record). x.flips) is; hold = ap (λ (x : Record). x.held) is; heap = ap (λ (x : Record). x.heap) is };
        drafts = no_stores s.seat.setup c facts.events (change_drafts_none s t c d own (signal_flag s.seat Ready op.to) false true at.2 (signal_is_flag s.seat valid Ready op.to s.seat.rank (peers_swap s.seat.setup s.seat.rank op.to r.peers)) changes facts.events facts.did);
        held = facts.held;
        work = change_work layout true (load_count facts.events) c.evictions d.evictions (send_spot s.seat op slot) (Register own)
            (λ e. spot_at s.seat op slot Lower lower ∙ spot_bits layout own (core_of s.seat op.to) op.to (slot_spot s.seat slot) e) facts.work;
      };
    }

lower_by : (gone b : Bool) (s t : Sight) (c d : Private) (op : SendAt) (slot : SlotAt) (bytes : List ℕ) → is_last_chunk (chunk_of s.seat.setup) op.head.len op.chunk ≡ b → IsSetup s.seat.setup → AreBytes bytes → SendStands s c op slot bytes → op.stage ≡ Lower
    → Changes s c (own_core s.seat) (signal_flag s.seat Ready op.to) false gone t d
    → SendTurns s c op slot bytes t d (if gone then next_op b op else op) slot (if gone then next_answer b else Waiting (Register (own_core s.seat)))
lower_by true b s t c d op slot bytes last valid small r lower changes = lower_goes b s t c d op slot bytes last valid small r lower changes
lower_by false b s t c d op slot bytes last valid small r lower changes =
    let at = at_stage s.seat (record_in s) c op slot bytes Lower r lower in
    register_waits s t c d op slot bytes (own_core s.seat) Ready op.to false valid r at.2 (signal_is_flag s.seat valid Ready op.to s.seat.rank (peers_swap s.seat.setup s.seat.rank op.to r.peers))
    (λ e. spot_at s.seat op slot Lower lower ∙ spot_bits s.seat.setup.layout (own_core s.seat) (core_of s.seat op.to) op.to (slot_spot s.seat slot) e) changes
    (send_does (sending s c op slot bytes) Lower false false t d lower refl changes)

pub lower_turn : (gone : Bool) (s t : Sight) (c d : Private) (op : SendAt) (slot : SlotAt) (bytes : List ℕ) → IsSetup s.seat.setup → AreBytes bytes → SendStands s c op slot bytes → op.stage ≡ Lower
    → Changes s c (own_core s.seat) (signal_flag s.seat Ready op.to) false gone t d
    → SendTurns s c op slot bytes t d (after_through (chunk_of s.seat.setup) gone op) slot (through_answer (chunk_of s.seat.setup) gone (Register (own_core s.seat)) op)
lower_turn gone s t c d op slot bytes valid small r lower changes = lower_by gone (is_last_chunk (chunk_of s.seat.setup) op.head.len op.chunk) s t c d op slot bytes refl valid small r lower changes
