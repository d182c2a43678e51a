-- Where every rank rests, every call is at its end: of the messages that are left both ranks of the first one stand at it, and
-- there one of the two can move.
use Rattle.std.proofs.Common.{◌≡◌, ◌≢◌, ◌⊎◌, inl, inr, ⊎_elim, ℕ, zero, suc, ◌<◌, ◌≤◌, ◌==◌, Bool, true, false, not, if◌then◌else◌, List, [], ◌∷◌, ◌++◌, length, map, take, Option, Some, None, is_none, slice_get, refl, sym, ap, ◌∙◌, subst, arith, append-nil}
use Rattle.std.specs.List.{list_all}
use Rattle.std.proofs.lemmas.Bool.{cases_eq, cases_lt}
use Rattle.scc_base.specs.Calls.{DataCall}
use Rattle.scc_base.specs.Heads.{MessageHead, plain_head}
use Rattle.scc_base.specs.Setups.{SetupView, setup_key}
use Rattle.scc_base.specs.declared.events.Event.{Event}
use Rattle.scc_proto.specs.Legality.{no_slots, slot_message}
use Rattle.scc_proto.specs.Messages.{Notes, Progress, StandsIn, head_of, has_all, received_messages, sent_messages, with_chunk}
use Rattle.scc_proto.specs.Pairs.{NotesStand, Offering, pair_of, sending_side}
use Rattle.scc_proto.specs.Passed.{is_received_ahead, passed_calls, passed_open, slot_of}
use Rattle.scc_proto.specs.Ports.{record_in}
use Rattle.scc_proto.specs.Records.{chunk_of}
use Rattle.scc_proto.specs.Stages as stage
use Rattle.scc_proto.specs.Stages.{Idle, Raised, Record}
use Rattle.scc_proto.specs.Views.{View, view_of}
use Rattle.scc_proto.specs.Words.{Memory, are_peers}
use Rattle.scc_proto.proofs.Legality.LegalLaws.{legal_in_some_order}
use Rattle.scc_proto.proofs.Legality.LegalMessages.{legal_messages}
use Rattle.scc_proto.proofs.Words.NoteFacts.{head_is}
use Rattle.scc_proto.proofs.Pairs.OfferFacts.{offers}
use Rattle.scc_proto.proofs.Pairs.PhaseFacts.{sending_here, when_seen}
use Rattle.scc_proto.proofs.Legality.StepLaws.{itself}
use Rattle.scc_proto.proofs.Tests.{both_first, eqb_other, peers_are, peers_swap}
use Rattle.scc_mesh.specs.Keeping.{records_by}
use Rattle.put_get.specs.Cores.{Private}
use Rattle.send_recv.specs.Ops.{RecvAt, SendAt}
use Rattle.send_recv.specs.Receiving as recv
use Rattle.send_recv.specs.Receiving.{SaysHead, progress_at}
use Rattle.send_recv.specs.declared.stages.RecvStage.{RecvStage}
use Rattle.send_recv.specs.declared.stages.RecvStage.TheVariants as receive
use Rattle.chip_run.specs.Waiting.{RaiseWaits, SlotWaits, TakeWaits, Waits}
use Rattle.chip_run.proofs.Offers.{as_many, no_take, post_in_slot, raise_out}
use Rattle.coll_more.specs.Ops.{data_call_of, is_taking, table_of}
use Rattle.coll_more.specs.Standing.{StandsAt}
use Rattle.coll_more.specs.Tables.{piece_calls}
use Rattle.coll_more.specs.Turns.{MetOther, is_more_over, is_over_by}
use Rattle.coll_more.specs.declared.kinds.More.{More}
use Rattle.coll_more.specs.declared.kinds.PieceCall.{PieceCall}
use Rattle.coll_more.specs.declared.kinds.Way.{Way}
use Rattle.coll_more.specs.declared.kinds.Way.TheVariants.{Gives, Shares, Takes}
use Rattle.coll_more.specs.declared.ops.Stage.{Stage}
use Rattle.coll_more.specs.declared.ops.Stage.TheVariants.{Own, Between, Sending, Receiving}
use Rattle.coll_more.proofs.ListLemmas.{some_same}
use Rattle.coll_run.specs.Order.{IsOtherSide, number_at, number_by, message_number}
use Rattle.coll_run.specs.Resting.{AtEnd, HaveRested, Looks, Met, Rests, want_at}
use Rattle.coll_run.specs.Teams.{MemberView, seat_of, sight_of}
use Rattle.coll_run.proofs.CallLemmas.{at_taken, got_some, is_plain, none_left, plain_made, sent_some, some_before, some_got, some_sent, taken_at}
use Rattle.coll_run.proofs.OrderLemmas.{mirrored, rises}

by_test : {A : Type 0} (b : Bool) → (b ≡ true → A) → (b ≡ false → A) → A
by_test true yes_it not_it = yes_it refl
by_test false yes_it not_it = not_it refl

-- ---- the number of a message at both its ranks

module _ (more : More) (nue : ℕ) where
  by_way : (rank : ℕ) (w : Way) (peer : ℕ) → number_by more nue rank w peer ≡ (if is_taking w then message_number more nue peer rank else message_number more nue rank peer)
  by_way rank Gives peer = refl
  by_way rank Shares peer = refl
  by_way rank Takes peer = refl

  same_side : (rank : ℕ) (one other : PieceCall) → is_taking one.way ≡ is_taking other.way → one.peer ≡ other.peer → number_at more nue rank one ≡ number_at more nue rank other
  same_side rank one other way peer =
      by_way rank one.way one.peer
      ∙ (λ i. if way i then message_number more nue (peer i) rank else message_number more nue rank (peer i))
      ∙ sym (by_way rank other.way other.peer)

  turned : (b : Bool) (i j : ℕ) → ◌≡◌ {A = ℕ} (if not b then message_number more nue i j else message_number more nue j i) (if b then message_number more nue j i else message_number more nue i j)
  turned true i j = refl
  turned false i j = refl

  other_side : (rank : ℕ) (one other : PieceCall) → IsOtherSide rank one other → number_at more nue one.peer other ≡ number_at more nue rank one
  other_side rank one other is =
      by_way one.peer other.way other.peer
      ∙ (λ i. if is.way i then message_number more nue (is.peer i) one.peer else message_number more nue one.peer (is.peer i))
      ∙ turned (is_taking one.way) rank one.peer
      ∙ sym (by_way rank one.way one.peer)

-- a receive that has met another head than its own
record HasMet (rec : Record) (from : ℕ) (len : ℕ) : Type 0 where
  sent : MessageHead
  other : sent ≢ plain_head len
  header : Notes
  noted : rec.notes from ≡ Some header
  says : SaysHead header sent

no_more_is : {A : Type 0} (o : Option A) (x : A) → is_none o ≡ true → o ≡ Some x → ⊥
no_more_is None x none some = cc (some)
no_more_is (Some y) x none some = cc (none)

module _ (more : More) (len : ℕ) (s : SetupView) (memory : Memory) (lists : ℕ → List Event) (members : ℕ → MemberView) (h : HaveRested more len s memory lists members) where
  abbrev recs : ℕ → Record
  recs = records_by s lists

  abbrev view : View
  view = view_of s memory

  abbrev table : ℕ → List PieceCall
  table k = piece_calls more k s.nue len

  abbrev done : ℕ → ℕ
  done k = (members k).op.ended

  table_is : (k : ℕ) → k < s.nue → table_of (seat_of s k) (members k).op ≡ table k
  table_is k low = let st = h.stands k low in λ i. piece_calls (st.more_is i) k s.nue (st.len_is i)

  calls_are : (k : ℕ) → k < s.nue → (recs k).calls ≡ map (data_call_of (members k).src (members k).dst) (take (done k) (table k))
  unfolding record_in
  calls_are k low = (h.stands k low).stands.calls ∙ ap (λ (xs : List PieceCall). map (data_call_of (members k).src (members k).dst) (take (done k) xs)) (table_is k low)

  -- where a rank stands, with the record as the chip has it
  abbrev At : ℕ → Stage → Type 0
  At k st = StandsAt (sight_of s k (lists k)) (members k).core (members k).slot (table_of (seat_of s k) (members k).op) (done k) (members k).src (members k).dst st

  same_record : (k : ℕ) → record_in (sight_of s k (lists k)) ≡ recs k
  unfolding record_in
  same_record k = refl

  -- ---- nothing open is passed

  idle_open : (k : ℕ) (rec : Record) → rec.stage ≡ Idle → passed_open s k rec.stage recs ≡ []
  idle_open k rec is = ap (λ (st : stage.Stage). passed_open s k st recs) is

  between_open : (k : ℕ) (b : Bool) (from : ℕ) (m : Progress) → passed_open s k (if b then Idle else stage.Between from m) recs ≡ []
  between_open k true from m = refl
  between_open k false from m = refl

  receiving_open : (k : ℕ) (rec : Record) (c : Private) (op : RecvAt) (bytes : List ℕ) (st : RecvStage) → recv.IsAtRecvStage (seat_of s k) rec c op bytes st → passed_open s k rec.stage recs ≡ []
  receiving_open k rec c op bytes receive.Look is = ap (λ (x : stage.Stage). passed_open s k x recs) is ∙ between_open k (op.chunk == 0) op.from (progress_at (chunk_of s) op.head op.chunk bytes)
  receiving_open k rec c op bytes receive.Header is = idle_open k rec is.1
  receiving_open k rec c op bytes receive.Lower is = ap (λ (x : stage.Stage). passed_open s k x recs) is.0 ∙ between_open k (op.chunk == 0) op.from (progress_at (chunk_of s) op.head op.chunk bytes)
  receiving_open k rec c op bytes (receive.Lines i) (less, chunk, taking, noted) = ap (λ (x : stage.Stage). passed_open s k x recs) taking.stage
  receiving_open k rec c op bytes receive.Raise (chunk, taking) = ap (λ (x : stage.Stage). passed_open s k x recs) taking.stage
  receiving_open k rec c op bytes receive.Finished is = idle_open k rec is

  raised_open : (k to : ℕ) (head : MessageHead) → RaiseWaits s view k to head (recs k) → passed_open s k (recs k).stage recs ≡ []
  raised_open k to head raise =
      let even = as_many (chunk_of s) (pair_of k to view (recs k) (recs to)) raise.message raise.chunk (raise_out s memory recs h.agrees k to head raise) in
      let not_yet : is_received_ahead k to recs ≡ false =
      eqb_other (length (received_messages k (recs to).calls)) (suc (length (sent_messages to (recs k).calls))) (λ is. absurd (omega (arith, even, is))) in
      ap (λ (st : stage.Stage). passed_open s k st recs) raise.stage
      ∙ ap (λ (b : Bool). if b then DataCall.Send to raise.message.head (with_chunk (chunk_of s) raise.message raise.chunk).bytes ∷ [] else []) not_yet

  -- a send that is in hand waits
  sending_waits : (k : ℕ) (call : PieceCall) (op : SendAt) → (members k).op.stage ≡ Sending call op → Rests s memory (recs k) k (members k).op
      → SlotWaits view k (recs k) ⊎ RaiseWaits s view k op.to op.head (recs k)
  sending_waits k call op is (AtEnd over) =
      absurd (let goes : is_more_over (seat_of s k) (members k).op ≡ false = ap (is_over_by (table_of (seat_of s k) (members k).op) (done k)) is in cc (goes, over))
  sending_waits k call op is (Looks failed) = subst (λ (st : Stage). Waits s view k (recs k) (want_at st)) is failed
  sending_waits k call op is (Met sent met) = absurd (subst (λ (st : Stage). MetOther (recs k) sent st) is met)

  -- a receive waits, or has met another head
  receiving_waits : (k : ℕ) (call : PieceCall) (op : RecvAt) → (members k).op.stage ≡ Receiving call op → Rests s memory (recs k) k (members k).op
      → TakeWaits s view k op.from (recs k) ⊎ HasMet (recs k) call.peer call.len
  receiving_waits k call op is (AtEnd over) =
      absurd (let goes : is_more_over (seat_of s k) (members k).op ≡ false = ap (is_over_by (table_of (seat_of s k) (members k).op) (done k)) is in cc (goes, over))
  receiving_waits k call op is (Looks failed) = inl (subst (λ (st : Stage). Waits s view k (recs k) (want_at st)) is failed)
  receiving_waits k call op is (Met sent met) =
      let (at_head, other, header, noted, says) = subst (λ (st : Stage). MetOther (recs k) sent st) is met in
      inr (record { sent = sent; other = other; header = header; noted = noted; says = says })

  none_open : (k : ℕ) → k < s.nue → passed_open s k (recs k).stage recs ≡ []
  none_open k low = by (members k).op.stage refl (h.stands k low).stands.at
    where
      by : (st : Stage) → (members k).op.stage ≡ st → At k st → passed_open s k (recs k).stage recs ≡ []
      by Own is at = subst (λ (rec : Record). passed_open s k rec.stage recs ≡ []) (same_record k) (idle_open k (record_in (sight_of s k (lists k))) at.1.between.stage)
      by Between is at = subst (λ (rec : Record). passed_open s k rec.stage recs ≡ []) (same_record k) (idle_open k (record_in (sight_of s k (lists k))) at.between.stage)
      by (Sending call op) is at =
          ⊎_elim
          (λ (slot : SlotWaits view k (recs k)). idle_open k (recs k) slot.stage)
          (λ (raise : RaiseWaits s view k op.to op.head (recs k)). raised_open k op.to op.head raise)
          (sending_waits k call op is (h.rests k low))
      by (Receiving call op) is at =
          let st = at.3 in
          subst (λ (rec : Record). passed_open s k rec.stage recs ≡ []) (same_record k) (receiving_open k (record_in (sight_of s k (lists k))) (members k).core op _ op.stage st.at)

  pub passed_is : (k : ℕ) → k < s.nue → passed_calls s recs k ≡ (recs k).calls
  passed_is k low = ap (λ (l : List DataCall). (recs k).calls ++ l) (none_open k low) ∙ append-nil (recs k).calls

  passed_past : (k : ℕ) → s.nue ≤ k → passed_calls s recs k ≡ []
  passed_past k past = ap (λ (r : Record). r.calls ++ passed_open s k r.stage recs) (h.agrees.singles.1 k past)

  -- ---- no message is in a slot, and as much was received as was sent

  plain : (k : ℕ) → list_all is_plain (passed_calls s recs k) ≡ true
  plain k =
      ⊎_elim
      (λ (low : k < s.nue). ap (list_all is_plain) (passed_is k low ∙ calls_are k low) ∙ plain_made (members k).src (members k).dst (take (done k) (table k)))
      (λ (past : s.nue ≤ k). ap (list_all is_plain) (passed_past k past))
      (cases_lt k s.nue)

  no_slot : (k : ℕ) → slot_of s recs k ≡ None
  no_slot k =
      let (n, run) = legal_in_some_order s.nue (setup_key s) (passed_calls s recs) (slot_of s recs) h.agrees.calls in
      none_left s.nue (setup_key s) (slot_of s recs) n (record { calls = passed_calls s recs; slots = no_slots }) plain (λ j. refl) run k

  level : (from to : ℕ) → from < s.nue → to < s.nue → sent_messages to (recs from).calls ≡ received_messages from (recs to).calls
  level from to low below =
      sym (ap (sent_messages to) (passed_is from low))
      ∙ legal_messages s.nue (setup_key s) (passed_calls s recs) (slot_of s recs) h.agrees.calls from to
      ∙ (λ i. received_messages from (passed_is to below i) ++ slot_message to (no_slot from i))
      ∙ append-nil (received_messages from (recs to).calls)

  -- ---- where a rank stands that is not at its end

  abbrev Raises : ℕ → PieceCall → Type 0
  Raises k c = (is_taking c.way ≡ false) × RaiseWaits s view k c.peer (plain_head c.len) (recs k)

  abbrev Awaits : ℕ → PieceCall → Type 0
  Awaits k c = (is_taking c.way ≡ true) × (TakeWaits s view k c.peer (recs k) ⊎ HasMet (recs k) c.peer c.len)

  abbrev Stuck : ℕ → PieceCall → Type 0
  Stuck k c = Raises k c ⊎ Awaits k c

  raises_at : (k : ℕ) → k < s.nue → (call : PieceCall) (op : SendAt) → op.to ≡ call.peer → op.head ≡ plain_head call.len → is_taking call.way ≡ false
      → SlotWaits view k (recs k) ⊎ RaiseWaits s view k op.to op.head (recs k) → Stuck k call
  raises_at k low call op to head way (inl slot) = absurd (let full = post_in_slot s memory recs h.agrees k low slot in let none = no_slot k in cc (full, none))
  raises_at k low call op to head way (inr raise) =
      inl (way, subst (λ (x : MessageHead). RaiseWaits s view k call.peer x (recs k)) head (subst (λ (x : ℕ). RaiseWaits s view k x op.head (recs k)) to raise))

  looks_at : (k : ℕ) (call : PieceCall) (op : RecvAt) → op.from ≡ call.peer → is_taking call.way ≡ true → TakeWaits s view k op.from (recs k) ⊎ HasMet (recs k) call.peer call.len → Stuck k call
  looks_at k call op from way (inl takes) = inr (way, inl (subst (λ (x : ℕ). TakeWaits s view k x (recs k)) from takes))
  looks_at k call op from way (inr met) = inr (way, inr met)

  stuck : (k : ℕ) → k < s.nue → (c : PieceCall) → slice_get (table k) (done k) ≡ Some c → Stuck k c
  stuck k low c next = by (members k).op.stage refl (h.stands k low).stands.at
    where
      here : slice_get (table_of (seat_of s k) (members k).op) (done k) ≡ Some c
      here = ap (λ (xs : List PieceCall). slice_get xs (done k)) (table_is k low) ∙ next

      own_rests : (members k).op.stage ≡ Own → Rests s memory (recs k) k (members k).op → ⊥
      own_rests is (AtEnd over) = let goes : is_more_over (seat_of s k) (members k).op ≡ false = ap (is_over_by (table_of (seat_of s k) (members k).op) (done k)) is in cc (goes, over)
      own_rests is (Looks failed) = subst (λ (st : Stage). Waits s view k (recs k) (want_at st)) is failed
      own_rests is (Met sent met) = subst (λ (st : Stage). MetOther (recs k) sent st) is met

      between_rests : (members k).op.stage ≡ Between → Rests s memory (recs k) k (members k).op → ⊥
      between_rests is (AtEnd over) =
          no_more_is (slice_get (table_of (seat_of s k) (members k).op) (done k)) c (sym (ap (is_over_by (table_of (seat_of s k) (members k).op) (done k)) is) ∙ over) here
      between_rests is (Looks failed) = subst (λ (st : Stage). Waits s view k (recs k) (want_at st)) is failed
      between_rests is (Met sent met) = subst (λ (st : Stage). MetOther (recs k) sent st) is met

      by : (st : Stage) → (members k).op.stage ≡ st → At k st → Stuck k c
      by Own is at = absurd (own_rests is (h.rests k low))
      by Between is at = absurd (between_rests is (h.rests k low))
      by (Sending call op) is at =
          let of_call = at.1 in
          subst (Stuck k) (some_same call c (sym at.0 ∙ here)) (raises_at k low call op of_call.to of_call.head of_call.way (sending_waits k call op is (h.rests k low)))
      by (Receiving call op) is at =
          let of_call = at.1 in
          subst (Stuck k) (some_same call c (sym at.0 ∙ here)) (looks_at k call op of_call.from of_call.way (receiving_waits k call op is (h.rests k low)))

  met_peers : (k from l : ℕ) → k < s.nue → HasMet (recs k) from l → are_peers s k from ≡ true
  met_peers k from l low met = by_test (are_peers s k from)
      (λ is. is)
      (λ other. absurd (let none = (h.agrees.singles.0 k low).notes from other in let some = met.noted in cc (none, some)))

  peers_of : (k : ℕ) (c : PieceCall) → k < s.nue → Stuck k c → are_peers s k c.peer ≡ true
  peers_of k c low (inl (way, raise)) = raise.peers
  peers_of k c low (inr (way, inl takes)) = peers_swap s c.peer k takes.peers
  peers_of k c low (inr (way, inr met)) = met_peers k c.peer c.len low met

  -- ---- two ranks that stand at one message

  -- a chunk that is up beside a receive that has met another head
  no_refusal : (i j l : ℕ) → i < s.nue → RaiseWaits s view i j (plain_head l) (recs i) → HasMet (recs j) i l → ⊥
  no_refusal i j l low raise met =
      let seen = when_seen (chunk_of s) (pair_of i j view (recs i) (recs j)) met.header met.noted (h.agrees.pairs i j raise.peers) in
      let side : sending_side j (recs i).stage (recs i).post ≡ Offering false false raise.message raise.chunk =
      ap (λ (st : stage.Stage). sending_side j st (recs i).post) raise.stage ∙ sending_here j j Raised raise.message raise.chunk (recs i).post (itself j) in
      let stands : StandsIn met.header (view.header i) = subst (λ (o : Option Notes). NotesStand o (view.header i)) met.noted seen.is.notes in
      let offer = offers s i j false false raise.message raise.chunk (view.header i) (view.chunk i) (recs i) (h.agrees.singles.0 i low) (h.agrees.senders i low) side in
      let same : head_of met.header ≡ raise.message.head =
      head_is met.header raise.message.head false (view.header i) (both_first (has_all met.header 3) _ met.says.0) stands offer.line in
      met.other (sym met.says.1 ∙ same ∙ raise.head_is)

  no_pair : (i j l : ℕ) → i < s.nue → RaiseWaits s view i j (plain_head l) (recs i) → TakeWaits s view j i (recs j) ⊎ HasMet (recs j) i l → ⊥
  no_pair i j l low raise (inl takes) = no_take s memory recs h.agrees i j false raise.message raise.chunk (raise_out s memory recs h.agrees i j (plain_head l) raise) takes
  no_pair i j l low raise (inr met) = no_refusal i j l low raise met

  apart : (a b : Bool) → a ≡ not b → a ≡ b → ⊥
  apart true true one two = cc (one)
  apart true false one two = cc (two)
  apart false true one two = cc (two)
  apart false false one two = cc (one)

  meet : (k : ℕ) (c other : PieceCall) → k < s.nue → c.peer < s.nue → IsOtherSide k c other → Stuck k c → Stuck c.peer other → ⊥
  meet k c other low below side (inl (way, raise)) (inl (there, again)) = apart (is_taking other.way) (is_taking c.way) side.way (there ∙ sym way)
  meet k c other low below side (inl (way, raise)) (inr (there, takes)) =
      no_pair k c.peer c.len low raise
      (subst (λ (l : ℕ). TakeWaits s view c.peer k (recs c.peer) ⊎ HasMet (recs c.peer) k l) side.len
      (subst (λ (x : ℕ). TakeWaits s view c.peer x (recs c.peer) ⊎ HasMet (recs c.peer) x other.len) side.peer takes))
  meet k c other low below side (inr (way, takes)) (inl (there, raise)) =
      no_pair c.peer k c.len below
      (subst (λ (l : ℕ). RaiseWaits s view c.peer k (plain_head l) (recs c.peer)) side.len
      (subst (λ (x : ℕ). RaiseWaits s view c.peer x (plain_head other.len) (recs c.peer)) side.peer raise)) takes
  meet k c other low below side (inr (way, takes)) (inr (there, again)) = apart (is_taking other.way) (is_taking c.way) side.way (there ∙ sym way)

  -- ---- a message that is through at its other rank is through here

  -- a rank has made no message that its table has at its next place or behind
  not_done : (k i : ℕ) (c d : PieceCall) → k < s.nue → slice_get (table k) (done k) ≡ Some c → slice_get (take (done k) (table k)) i ≡ Some d → is_taking d.way ≡ is_taking c.way → d.peer ≡ c.peer → ⊥
  not_done k i c d low next at way peer =
      let (less, there) = taken_at (done k) (table k) i d at in
      let rise = rises more s.nue len k i (done k) d c low less there next in
      let same = same_side more s.nue k d c way peer in
      omega (arith, rise, same)

  through : (k j : ℕ) (c other : PieceCall) → k < s.nue → c.peer < s.nue → slice_get (table k) (done k) ≡ Some c → slice_get (table c.peer) j ≡ Some other → IsOtherSide k c other → j < done c.peer → ⊥
  through k j c other low below next there side less = by_test (is_taking c.way)
      (λ takes.
      let p : ℕ = c.peer in
      let gives : is_taking other.way ≡ false = side.way ∙ ap not takes in
      let (i, d, at, way, peer) = some_got (members k).src (members k).dst c.peer (take (done k) (table k))
      (λ none. sent_some (members c.peer).src (members c.peer).dst (take (done c.peer) (table c.peer)) j other (at_taken (done c.peer) (table c.peer) j other less there) gives
      (ap (λ (r : ℕ). sent_messages r (map (data_call_of (members c.peer).src (members c.peer).dst) (take (done c.peer) (table c.peer)))) side.peer
      ∙ ap (sent_messages k) (sym (calls_are c.peer below)) ∙ level c.peer k below low ∙ ap (received_messages c.peer) (calls_are k low) ∙ none)) in
      not_done k i c d low next at (way ∙ sym takes) peer)
      (λ gives.
      let takes : is_taking other.way ≡ true = side.way ∙ ap not gives in
      let (i, d, at, way, peer) = some_sent (members k).src (members k).dst c.peer (take (done k) (table k))
      (λ none. got_some (members c.peer).src (members c.peer).dst (take (done c.peer) (table c.peer)) j other (at_taken (done c.peer) (table c.peer) j other less there) takes
      (ap (λ (r : ℕ). received_messages r (map (data_call_of (members c.peer).src (members c.peer).dst) (take (done c.peer) (table c.peer)))) side.peer
      ∙ ap (received_messages k) (sym (calls_are c.peer below)) ∙ sym (level k c.peer low below) ∙ ap (sent_messages c.peer) (calls_are k low) ∙ none)) in
      not_done k i c d low next at (way ∙ sym gives) peer)

  -- ---- the first message that is left

  -- no rank stands before a message of this number
  abbrev NoneAt : ℕ → Type 0
  NoneAt n = (k : ℕ) (c : PieceCall) → k < s.nue → slice_get (table k) (done k) ≡ Some c → number_at more s.nue k c ≡ n → ⊥

  none_at : (n : ℕ) → ((m : ℕ) → m < n → NoneAt m) → NoneAt n
  none_at n below k c low next is =
      let here = stuck k low c next in
      let peers = peers_are s k c.peer (peers_of k c low here) in
      let (j, other, there, side) = mirrored more s.nue len k (done k) c low next in
      ⊎_elim
      (λ (less : j < done c.peer). through k j c other low peers.other next there side less)
      (λ (past : done c.peer ≤ j).
      let (d, at) = some_before (table c.peer) (done c.peer) j other past there in
      ⊎_elim
      (λ (same : j ≡ done c.peer).
      meet k c other low peers.other side here (stuck c.peer peers.other other (subst (λ (x : ℕ). slice_get (table c.peer) x ≡ Some other) same there)))
      (λ (more_left : j ≢ done c.peer).
      let rise = rises more s.nue len c.peer (done c.peer) j d other peers.other (omega (arith, past, more_left)) at there in
      let number = other_side more s.nue k c other side in
      below (number_at more s.nue c.peer d) (omega (arith, rise, number, is)) c.peer d peers.other at refl)
      (cases_eq j (done c.peer)))
      (cases_lt j (done c.peer))

  none_below : (n m : ℕ) → m < n → NoneAt m
  none_below zero m less = absurd (omega (arith, less))
  none_below (suc n) m less = none_at m (λ l under. none_below n l (omega (arith, less, under)))

  none_left_at : (k : ℕ) (c : PieceCall) → k < s.nue → slice_get (table k) (done k) ≡ Some c → ⊥
  none_left_at k c low next = none_below (suc (number_at more s.nue k c)) (number_at more s.nue k c) (omega arith) k c low next refl

  pub all_over : (k : ℕ) → k < s.nue → is_more_over (seat_of s k) (members k).op ≡ true
  all_over k low = by (h.rests k low)
    where
      next : (call : PieceCall) → slice_get (table_of (seat_of s k) (members k).op) (done k) ≡ Some call → ⊥
      next call at = none_left_at k call low (ap (λ (xs : List PieceCall). slice_get xs (done k)) (sym (table_is k low)) ∙ at)

      by_stage : (st : Stage) → (members k).op.stage ≡ st → At k st → Waits s view k (recs k) (want_at st) → ⊥
      by_stage Own is at failed = failed
      by_stage Between is at failed = failed
      by_stage (Sending call op) is at failed = next call at.0
      by_stage (Receiving call op) is at failed = next call at.0

      by_met : (st : Stage) (sent : MessageHead) → At k st → MetOther (recs k) sent st → ⊥
      by_met Own sent at met = met
      by_met Between sent at met = met
      by_met (Sending call op) sent at met = met
      by_met (Receiving call op) sent at met = next call at.0

      by : Rests s memory (recs k) k (members k).op → is_more_over (seat_of s k) (members k).op ≡ true
      by (AtEnd over) = over
      by (Looks failed) = absurd (by_stage (members k).op.stage refl (h.stands k low).stands.at failed)
      by (Met sent met) = absurd (by_met (members k).op.stage sent (h.stands k low).stands.at met)
