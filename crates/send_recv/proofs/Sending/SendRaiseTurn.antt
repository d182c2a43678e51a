-- The turn of a send that raises `sent`, with what was in the buffer before it.
use Rattle.std.proofs.Common.{◌≡◌, inl, inr, ℕ, zero, suc, ◌+◌, ◌-◌, ◌*◌, ◌≤◌, Bool, true, false, ◌==◌, if◌then◌else◌, List, [], ◌∷◌, ◌++◌, Option, Some, None, refl, sym, ◌∙◌, ap, subst, arith}
use Rattle.scc_base.specs.Calls.{Send, Post}
use Rattle.scc_base.specs.Places.{WordAt, flag_word}
use Rattle.scc_base.specs.Layouts.{signal_at}
use Rattle.scc_base.specs.Setups.{IsSetup}
use Rattle.scc_base.specs.Events.{store_of}
use Rattle.scc_base.specs.declared.events.Event.{Event}
use Rattle.scc_base.specs.declared.events.Spot.{Spot}
use Rattle.scc_base.specs.declared.events.Spot.TheVariants.{Register}
use Rattle.scc_base.specs.declared.events.Turn.TheVariants.{Waiting}
use Rattle.scc_base.specs.declared.layouts.Layout.{Layout}
use Rattle.scc_base.specs.declared.layouts.Layout.TheVariants.{LineFlags, BitFlags}
use Rattle.scc_base.specs.declared.signals.Signal.{Signal}
use Rattle.scc_base.specs.declared.signals.Signal.TheVariants.{Sent}
use Rattle.scc_proto.specs.Stages.{Raised, Record}
use Rattle.scc_proto.specs.Records.{chunk_of}
use Rattle.scc_proto.specs.Ports.{Seat, Sight, Did, record_in}
use Rattle.scc_proto.proofs.PortLaws.{seat_kept}
use Rattle.scc_proto.proofs.Layouts.Roles.{if_yes, if_no}
use Rattle.write_combine.specs.declared.combiner.Out.{Out}
use Rattle.put_get.specs.Accesses.{stores_of, whole_line}
use Rattle.put_get.specs.Cores.{Private}
use Rattle.put_get.specs.Transfers.{load_count}
use Rattle.send_recv.specs.declared.stages.SendStage.TheVariants.{Raise, Look, Finished}
use Rattle.send_recv.specs.Chunks.{chunk_count, lines_from}
use Rattle.send_recv.specs.Flags.{Changes}
use Rattle.send_recv.proofs.Looks.SignalFlags.{ChangesBy}
use Rattle.send_recv.specs.Ops.{SendAt, SlotAt, is_sent}
use Rattle.send_recv.specs.Receiving.{flag_lines}
use Rattle.send_recv.specs.Sending.{SlotStands, IsBeforeRaise, IsAtSendStage, IsSending, SendStands, SendMeans, own_line, header_words, lines_in_hand, waiting, of_chunk, from_raise, send_spot, send_spot_by, slot_spot}
use Rattle.send_recv.specs.Ranks.{sending}
use Rattle.send_recv.specs.Steps.{moves_on, own_core, core_of, signal_flag, after_sent, sent_answer, slot_sent}
use Rattle.sync_flags.specs.Tries.{Aim, AtFlag, AtWord, AtRegister, tries_at, all_failed, changing_after, failed_from, Tried}
use Rattle.sync_flags.proofs.FailedLemmas.{failed-append}
use Rattle.sync_flags.proofs.RowLemmas.{changing-append}
use Rattle.send_recv.specs.Tries.{aim_at}
use Rattle.send_recv.specs.Turns.{KeepsAllButMessages, OnlyTries, LastHeld, NoLoad, StoresFromBuffer}
use Rattle.send_recv.proofs.Looks.ChangeFacts.{change_facts}
use Rattle.send_recv.proofs.Receiving.FlagTurns.{went_on}
use Rattle.send_recv.proofs.Lines.DraftNone.{IsFlagWord, signal_is_flag, store_drafts_none, drafts_none_by}
use Rattle.send_recv.proofs.Lines.DraftWhole.{AreBytes}
use Rattle.send_recv.proofs.Sending.SendFacts.{SendTurns, send_does, slot_kept, stands_at, at_stage, left_at, spot_at}
use Rattle.send_recv.proofs.Sending.SendMoves.{SentRaised, sent_is_raised}
use Rattle.send_recv.proofs.Sending.SendRaises.{offered, posted_now}
use Rattle.send_recv.proofs.Lines.WaitingOut.{waiting_freed}
use Rattle.send_recv.proofs.Sending.SendWork.{none_work, change_work}
use Rattle.send_recv.proofs.Sending.SendWaits.{no_stores, register_waits, next_answer, no_wait, goes_on, never_waits}

-- ---- the events

-- what a raise leaves, besides the record
record RaiseFacts (layout : Layout) (s : Sight) (c : Private) (core : ℕ) (t : Sight) (d : Private) : Type 0 where
  events : List Event
  did : Did s events t
  held : LastHeld events c.evictions d
  work : load_count events + 4 * c.evictions ≤ 4 * d.evictions + 4 * (if true then flag_lines layout else 0)
  drafts : StoresFromBuffer s.seat.setup c events
  out : d.out ≡ None
  tries : layout ≡ BitFlags → tries_at (AtRegister core) events ≡ 1
  failed : layout ≡ BitFlags → all_failed (AtRegister core) false events ≡ false
  freed : changing_after false events ≡ false
  ends : (aim : Aim) (n : ℕ) → failed_from aim false n events ≡ 0

loads_by : (b : Bool) (o : Out) (p : WordAt) (v : ℕ) → load_count (stores_of (Some o) ++ store_of p v ∷ []) ≡ 0 → load_count (stores_of (if b then Some o else None) ++ store_of p v ∷ []) ≡ 0
loads_by true o p v none = none
loads_by false o p v none = refl

raise_loads : (seat : Seat) (op : SendAt) (bytes : List ℕ) (i : ℕ) (p : WordAt) (v : ℕ) → load_count (stores_of (waiting seat op bytes i) ++ store_of p v ∷ []) ≡ 0
raise_loads seat op bytes zero p v = loads_by (op.chunk == 0) (whole_line (own_line seat 0) (header_words op.head op.posted)) p v refl
raise_loads seat op bytes (suc i) p v = refl

-- no vain try is left after a store
store_last : (p : WordAt) (v : ℕ) (aim : Aim) (n : ℕ) → failed_from aim false n (store_of p v ∷ []) ≡ 0
store_last p v (AtFlag place bit want) n = refl
store_last p v (AtWord place value) n = refl
store_last p v (AtRegister core) n = refl

facts_by : (layout : Layout) (s t : Sight) (c d : Private) (op : SendAt) (bytes : List ℕ) (core : ℕ) (signal : Signal) (by : ℕ) → IsFlagWord s.seat.setup core (signal_at layout signal by) → IsBeforeRaise layout s.seat (record_in s).stage c op bytes
    → ChangesBy layout s c core signal by true true t d → RaiseFacts layout s c core t d
facts_by LineFlags s t c d op bytes core signal by plain before (done, writes) =
    let flag = signal_at LineFlags signal by in
    let lines = lines_in_hand (chunk_of s.seat.setup) op in
    let out : c.out ≡ waiting s.seat op bytes lines = before.0 in
    let stores = stores_of (waiting s.seat op bytes lines) in
    let store = store_of (flag_word core flag) 1 in
    let freed = waiting_freed s.seat op bytes lines in
    record {
      events = stores ++ store ∷ [];
      did = subst (λ (o : Option Out). Did s (stores_of o ++ store ∷ []) t) out writes.did;
      held = NoLoad (raise_loads s.seat op bytes lines (flag_word core flag) 1);
      work = none_work (load_count (stores ++ store ∷ [])) c.evictions d.evictions 0 (raise_loads s.seat op bytes lines (flag_word core flag) 1) (ap (λ (x : Private). x.evictions) writes.is);
      drafts = record { front = stores; rest = store ∷ []; is = refl; none_or_all = inr (ap (λ (o : Option Out). stores_of o) (sym out)); no_draft = store_drafts_none s.seat.setup core flag 1 plain };
      out = ap (λ (x : Private). x.out) writes.is;
      tries = λ e. absurd (cc);
      failed = λ e. absurd (cc);
      freed = changing-append false stores (store ∷ []) ∙ ap (λ b. changing_after b (store ∷ [])) freed;
      ends = λ aim n. failed-append aim false n stores (store ∷ []) ∙ ap (λ b. failed_from aim b (failed_from aim false n stores) (store ∷ [])) freed ∙ store_last (flag_word core flag) 1 aim (failed_from aim false n stores);
    }
facts_by BitFlags s t c d op bytes core signal by plain before changes =
    let facts = change_facts BitFlags s t c d core signal by true true before.0 changes in
    record {
      events = facts.events;
      did = facts.did;
      held = facts.held;
      work = facts.work;
      drafts = no_stores s.seat.setup c facts.events (drafts_none_by (Some by) s t c d core (signal_at BitFlags signal by) true true before.0 plain changes facts.events facts.did);
      out = facts.out;
      tries = facts.tries;
      failed = facts.failed;
      freed = facts.freed;
      ends = facts.ends refl;
    }

-- ---- where it stands, and what the answer means

abbrev next_op : Bool → SendAt → SendAt
next_op b op = record op { stage = if b then Finished else Look }

abbrev next_slot : Bool → SendAt → SlotAt → SlotAt
next_slot b op slot = if b then record { to = Some op.to; seen = false } else slot

-- the record after the raise, and the empty buffer
record After (s t : Sight) (c d : Private) (op : SendAt) (slot : SlotAt) (bytes : List ℕ) (b : Bool) : Type 0 where
  held : (record_in t).held ≡ (record_in s).held
  slot_stands : SlotStands s.seat (record_in t) (next_slot b op slot)
  at : IsAtSendStage s.seat (record_in t) d (next_op b op) bytes (if b then Finished else Look)
  means : SendMeans (sending s c op slot bytes) (sending t d (next_op b op) (next_slot b op slot) bytes) (next_answer b)

raise_left : (lines raise p x : ℕ) → raise ≡ 3 → x ≡ lines + 2 + p → lines + raise + p ≡ x + 1
raise_left lines raise p x three is = omega (arith, three, is)

after_raise : (b : Bool) (s t : Sight) (c d : Private) (op : SendAt) (slot : SlotAt) (bytes : List ℕ) → op.posted ≡ b → AreBytes bytes → SendStands s c op slot bytes → op.stage ≡ Raise → SentRaised s t op bytes → d.out ≡ None
    → After s t c d op slot bytes b
after_raise true s t c d op slot bytes posts small r raise up out =
    let size = chunk_of s.seat.setup in
    let at = at_stage s.seat (record_in s) c op slot bytes Raise r raise in
    let p = posted_now s.seat.setup.layout (record_in s) (record_in t) up.new op bytes small posts (r.post_head posts) r.long r.in_hand up.drafted up.is in
    let sent : is_sent op.stage ≡ false = ap is_sent raise in
    record {
      held = ap (λ (x : Record). x.held) up.is;
      slot_stands = record { to = sym p.to; seen = λ e. absurd (cc); peers = r.peers };
      at = (p.stage, out);
      means = (
        refl,
        sym (if_no (is_sent op.stage) slot (if op.posted then record { to = Some op.to; seen = false } else slot) sent ∙ if_yes op.posted (record { to = Some op.to; seen = false }) slot posts),
        p.calls ∙ ap (λ cs. (record_in s).calls ++ cs) (sym (if_no (is_sent op.stage) [] (if op.posted then Post op.to op.head bytes ∷ [] else Send op.to op.head bytes ∷ []) sent
            ∙ if_yes op.posted (Post op.to op.head bytes ∷ []) (Send op.to op.head bytes ∷ []) posts)),
        λ plain open_before. absurd (cc (sym posts ∙ plain)),
      );
    }
after_raise false s t c d op slot bytes plain small r raise up out =
    let size = chunk_of s.seat.setup in
    let layout = s.seat.setup.layout in
    let at = at_stage s.seat (record_in s) c op slot bytes Raise r raise in
    let o = offered size (record_in s) (record_in t) up.new op bytes plain up.drafted up.is in
    record {
      held = ap (λ (x : Record). x.held) up.is;
      slot_stands = slot_kept s.seat (record_in s) (record_in t) slot o.post r.slot_stands;
      at = (plain, o.post ∙ at.0, out, Raised, inl refl, record { chunk = o.chunk; stage_is = o.stage_is; lines = o.lines });
      means = (
        left_at layout size op slot Raise raise
            ∙ raise_left (lines_from size op.head.len op.chunk - lines_in_hand size op) (from_raise op.posted) (of_chunk layout op.posted * (chunk_count size op.head.len - op.chunk - 1)) _ (ap from_raise plain) refl,
        o.calls,
        ap is_sent raise,
        refl,
        inr refl,
      );
    }

raised_rest : (s t : Sight) (op : SendAt) (bytes : List ℕ) → SentRaised s t op bytes → KeepsAllButMessages (record_in s) (record_in t)
raised_rest s t op bytes up = record { flips = ap (λ (x : Record). x.flips) up.is; hold = ap (λ (x : Record). x.held) up.is; heap = ap (λ (x : Record). x.heap) up.is }

-- ---- the turn

spot_lines : (layout : Layout) (own other to : ℕ) (slot : Option Spot) → layout ≡ LineFlags → send_spot_by layout own other to slot Raise ≡ None
spot_lines LineFlags own other to slot e = refl
spot_lines BitFlags own other to slot e = absurd (cc)

spot_bits : (layout : Layout) (own other to : ℕ) (slot : Option Spot) → layout ≡ BitFlags → send_spot_by layout own other to slot Raise ≡ Some (Register other)
spot_bits LineFlags own other to slot e = absurd (cc)
spot_bits BitFlags own other to slot e = refl

raise_goes : (b : Bool) (s t : Sight) (c d : Private) (op : SendAt) (slot : SlotAt) (bytes : List ℕ) → op.posted ≡ b → IsSetup s.seat.setup → AreBytes bytes → SendStands s c op slot bytes → op.stage ≡ Raise
    → Changes s c (core_of s.seat op.to) (signal_flag s.seat Sent s.seat.rank) true true t d → SendTurns s c op slot bytes t d (next_op b op) (next_slot b op slot) (next_answer b)
raise_goes b s t c d op slot bytes posts valid small r raise changes =
    let layout = s.seat.setup.layout in
    let core = core_of s.seat op.to in
    let at = at_stage s.seat (record_in s) c op slot bytes Raise r raise in
    let up = sent_is_raised s t c d op slot bytes valid small r raise changes in
    let facts = facts_by layout s t c d op bytes core Sent s.seat.rank (signal_is_flag s.seat valid Sent s.seat.rank op.to r.peers) at.1 changes in
    let a = after_raise b s t c d op slot bytes posts small r raise up facts.out in
    record {
      stands = subst (λ (x : Seat). IsSending x (record_in t) d (next_op b op) (next_slot b op slot) bytes) (sym (seat_kept s facts.events t facts.did))
          (stands_at s.seat (record_in s) (record_in t) c d op slot (next_slot b op slot) bytes (if b then Finished else Look) r a.held a.slot_stands a.at);
      turned = record {
        events = facts.events;
        did = facts.did;
        does = send_does (sending s c op slot bytes) Raise (moves_on (next_answer b)) true t d raise (goes_on b) changes;
        tried = subst (λ (w : Option Spot). Tried (aim_at layout (send_spot s.seat op slot)) facts.events w) (sym (no_wait b))
            (went_on layout (send_spot s.seat op slot) core facts.events
            (λ e. spot_at s.seat op slot Raise raise ∙ spot_lines layout (own_core s.seat) core op.to (slot_spot s.seat slot) e)
            (λ e. spot_at s.seat op slot Raise raise ∙ spot_bits layout (own_core s.seat) core op.to (slot_spot s.seat slot) e) facts.tries facts.failed);
        freed = facts.freed;
        ends = λ done open_before aim n. facts.ends aim n;
        rests = λ spot e. never_waits b spot _ e;
        only = subst (λ (w : Option Spot). OnlyTries (aim_at layout w) facts.events) (sym (no_wait b)) tt;
        same = (refl, refl, refl);
        means = a.means;
        rest = raised_rest s t op bytes up;
        drafts = facts.drafts;
        held = facts.held;
        work = change_work layout true (load_count facts.events) c.evictions d.evictions (send_spot s.seat op slot) (Register core)
            (λ e. spot_at s.seat op slot Raise raise ∙ spot_bits layout (own_core s.seat) core op.to (slot_spot s.seat slot) e) facts.work;
      };
    }

-- with line flags there is no register to be taken
empty_by : (layout : Layout) (s t : Sight) (c d : Private) (op : SendAt) (bytes : List ℕ) (core : ℕ) (signal : Signal) (by : ℕ) → IsBeforeRaise layout s.seat (record_in s).stage c op bytes → ChangesBy layout s c core signal by true false t d → c.out ≡ None
empty_by LineFlags s t c d op bytes core signal by before (done, writes) = absurd (cc)
empty_by BitFlags s t c d op bytes core signal by before changes = before.0

raise_by : (gone b : Bool) (s t : Sight) (c d : Private) (op : SendAt) (slot : SlotAt) (bytes : List ℕ) → op.posted ≡ b → IsSetup s.seat.setup → AreBytes bytes → SendStands s c op slot bytes → op.stage ≡ Raise
    → Changes s c (core_of s.seat op.to) (signal_flag s.seat Sent s.seat.rank) true gone t d
    → SendTurns s c op slot bytes t d (if gone then next_op b op else op) (if gone then next_slot b op slot else slot) (if gone then next_answer b else Waiting (Register (core_of s.seat op.to)))
raise_by true b s t c d op slot bytes posts valid small r raise changes = raise_goes b s t c d op slot bytes posts valid small r raise changes
raise_by false b s t c d op slot bytes posts valid small r raise changes =
    let at = at_stage s.seat (record_in s) c op slot bytes Raise r raise in
    let layout = s.seat.setup.layout in
    let core = core_of s.seat op.to in
    register_waits s t c d op slot bytes core Sent s.seat.rank true valid r (empty_by layout s t c d op bytes core Sent s.seat.rank at.1 changes)
    (signal_is_flag s.seat valid Sent s.seat.rank op.to r.peers)
    (λ e. spot_at s.seat op slot Raise raise ∙ spot_bits layout (own_core s.seat) core op.to (slot_spot s.seat slot) e) changes
    (send_does (sending s c op slot bytes) Raise false false t d raise refl changes)

pub raise_turn : (gone : Bool) (s t : Sight) (c d : Private) (op : SendAt) (slot : SlotAt) (bytes : List ℕ) → IsSetup s.seat.setup → AreBytes bytes → SendStands s c op slot bytes → op.stage ≡ Raise
    → Changes s c (core_of s.seat op.to) (signal_flag s.seat Sent s.seat.rank) true gone t d
    → SendTurns s c op slot bytes t d (after_sent gone op) (slot_sent gone op slot) (sent_answer gone (Register (core_of s.seat op.to)) op)
raise_turn gone s t c d op slot bytes valid small r raise changes = raise_by gone op.posted s t c d op slot bytes refl valid small r raise changes
