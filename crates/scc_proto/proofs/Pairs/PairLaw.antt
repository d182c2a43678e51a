-- Each pair of ranks stays in one phase, whatever move which rank makes.
use Rattle.std.proofs.Common.{◌≡◌, ◌≢◌, ℕ, true, ◌==◌, [], None, option_map, unwrap_or, refl, sym, ◌∙◌, ap, subst}
use Rattle.scc_base.specs.Setups.{SetupView}
use Rattle.scc_base.specs.declared.signals.Signal.{Signal}
use Rattle.scc_base.specs.declared.signals.Signal.TheVariants.{Sent, Ready}
use Rattle.scc_proto.specs.Tables.{table_with, put_two}
use Rattle.scc_proto.specs.Messages.{note_word, sent_messages, received_messages}
use Rattle.scc_proto.specs.Stages.{Record}
use Rattle.scc_proto.specs.Moves.{Move, DraftHeader, DraftChunk, RaiseSignal, LookSignal, ReadHeader, ReadChunk, LowerSignal, FlipGather, LookGather, WriteRelease, LookRelease, StoreHeap, NoMove, Misplaced, after, lower_sent}
use Rattle.scc_proto.specs.Permission.{permits, may_take}
use Rattle.scc_proto.specs.Words.{are_peers}
use Rattle.scc_proto.specs.Records.{chunk_of}
use Rattle.scc_proto.specs.Views.{View, view_after_move}
use Rattle.scc_proto.specs.Singles.{IsConsistent}
use Rattle.scc_proto.specs.Pairs.{pair_of, Phase, BufferStands, sending_side, taking_side}
use Rattle.scc_proto.specs.Agreement.{RecordsAgree, PairsAgree, SendersAgree}
use Rattle.scc_proto.proofs.Layouts.MoveFacts.{IsMoveOf, Tells, IsViewStep}
use Rattle.scc_proto.proofs.Tests.{same_or_other, put_here, put_there, put_two_here, put_two_first, put_two_second, put_signal_left, eqb_same, same_by_eqb, ArePeers, peers_are}
use Rattle.scc_proto.proofs.Pairs.PairFrames.{same_pair, sending-read_chunk, sending-lower_sent, sending-raise_ready, sending-flip_gather, sending-look_gather, sending-write_release, sending-look_release, taking-draft_header, taking-draft_chunk, taking-raise_sent, taking-look_ready, taking-lower_ready, taking-flip_gather, taking-look_gather, taking-write_release, taking-look_release, sent-calls_received, received-calls_raised, received-calls_sent, sent-finished_bar, received-finished_bar, sent-calls_released, received-calls_released, sent-calls_let_go, received-calls_let_go}
use Rattle.scc_proto.proofs.Pairs.OfferFacts.{offers, posted_last}
use Rattle.scc_proto.proofs.Pairs.SenderLaw.{buffer_left}
use Rattle.scc_proto.proofs.Pairs.SenderMoves.{header_drafted, chunk_drafted, sent_raised_here, sent_raised_there, ready_looked_at, ready_lowered}
use Rattle.scc_proto.proofs.Pairs.TakerMoves.{Stands, sent_looked_at, header_read, chunk_read, sent_lowered_here, sent_lowered_there, ready_raised_here, ready_raised_there}

-- ---- the moves of the sender of a pair

module _ (s : SetupView) (me to : ℕ) (view : View) (rec other : Record) (single : IsConsistent s me rec) (peers : ArePeers s me to)
    (phase : Phase (chunk_of s) (pair_of me to view rec other)) where
  sent_at : (from v : ℕ) → put_two (view.signal Sent) from me v me to ≡ view.signal Sent me to
  sent_at from v = put_two_second (view.signal Sent) from me v me to (λ e. peers.apart (sym e))

  ready_at : (i v : ℕ) → put_two (view.signal Ready) me i v to me ≡ view.signal Ready to me
  ready_at i v = put_two_first (view.signal Ready) me i v to me (λ e. peers.apart (sym e))

  pub of_sender : (move : Move) → Tells me move view → permits (chunk_of s) move rec ≡ true → Phase (chunk_of s) (pair_of me to (view_after_move me move view) (after (chunk_of s) move rec) other)
  of_sender (DraftHeader k v) told may = header_drafted (chunk_of s) to (view.signal Sent me to) (view.signal Ready to me) k v rec.stage rec.post (view.header me) (view.chunk me) (put_two view.header me k v me) (view.chunk me)
      rec.calls (taking_side me other.stage) (other.notes me) _ may phase
  of_sender (DraftChunk k v) told may = chunk_drafted (chunk_of s) to (view.signal Sent me to) (view.signal Ready to me) k v rec.stage rec.post (view.header me) (view.chunk me) (view.header me) (put_two view.chunk me k v me)
      rec.calls (taking_side me other.stage) (other.notes me) _ may phase
  of_sender (RaiseSignal Sent j) told may = same_or_other (Phase (chunk_of s) (pair_of me to (view_after_move me (RaiseSignal Sent j) view) (after (chunk_of s) (RaiseSignal Sent j) rec) other)) j to
      (λ here e. sent_raised_here (chunk_of s) to (view.signal Ready to me) j (view.header me) (view.chunk me) rec.calls (taking_side me other.stage) (other.notes me) _
      (view.signal Sent me to) (put_two (view.signal Sent) me j 1 me to) rec.stage rec.post may here (subst (λ x. put_two (view.signal Sent) me j 1 me x ≡ 1) e (put_two_here (view.signal Sent) me j 1)) phase)
      (λ there ne. let same : put_two (view.signal Sent) me j 1 me to ≡ view.signal Sent me to = put_two_second (view.signal Sent) me j 1 me to (λ e. ne (sym e)) in
      same_pair (chunk_of s) (pair_of me to (record view { signal = λ signal a b. view.signal signal a b }) (after (chunk_of s) (RaiseSignal Sent j) rec) other) _ same refl refl refl refl refl refl refl refl
      (sent_raised_there (chunk_of s) to (view.signal Ready to me) j (view.header me) (view.chunk me) rec.calls (taking_side me other.stage) (other.notes me) _
      (view.signal Sent me to) rec.stage rec.post may there phase))
  of_sender (LookSignal Sent is_set) told may = phase
  of_sender (ReadHeader from k v) told may = phase
  of_sender (ReadChunk from k v) told may = same_pair (chunk_of s) (pair_of me to view rec other) _ refl refl (sending-read_chunk to rec.post from k v rec.stage) refl refl refl refl refl refl phase
  of_sender (LowerSignal Sent from) told may = same_pair (chunk_of s) (pair_of me to view rec other) _ (sent_at from 0) refl (sending-lower_sent to rec.post from (unwrap_or (rec.notes from) []) rec.stage) refl refl refl refl refl refl phase
  of_sender (RaiseSignal Ready i) told may = same_pair (chunk_of s) (pair_of me to view rec other) _ refl (ready_at i 1) (sending-raise_ready to rec.post (chunk_of s) rec.stage) refl refl refl refl
      (sent-calls_received to rec.calls (chunk_of s) rec.stage) refl phase
  of_sender (LookSignal Ready is_set) told may = ready_looked_at (chunk_of s) to (view.signal Sent me to) (view.signal Ready to me) is_set (view.header me) (view.chunk me) rec.calls (taking_side me other.stage) (other.notes me) _
      (told to) rec.stage rec.post phase
  of_sender (LowerSignal Ready by) told may = ready_lowered (chunk_of s) to (view.signal Sent me to) (view.signal Ready to me) by (view.header me) (view.chunk me) rec.calls (taking_side me other.stage) (other.notes me) _
      (put_two (view.signal Ready) by me 0 to me) rec.stage rec.post may (posted_last s me rec single)
      (λ here. subst (λ x. put_two (view.signal Ready) by me 0 x me ≡ 0) (same_by_eqb by to here) (put_two_here (view.signal Ready) by me 0))
      (λ there. put_two_first (view.signal Ready) by me 0 to me (λ e. absurd (cc (sym there ∙ ap (λ x. by == x) e ∙ eqb_same by))))
      phase
  of_sender (FlipGather comm value last) told may = same_pair (chunk_of s) (pair_of me to view rec other) _ refl refl (sending-flip_gather to rec.post comm last rec.stage) refl refl refl refl
      (sent-finished_bar to rec.calls (last == 0) comm) refl phase
  of_sender (LookGather comm from place value) told may = same_pair (chunk_of s) (pair_of me to view rec other) _ refl refl (sending-look_gather to rec.post comm place value _ rec.stage) refl refl refl refl refl refl phase
  of_sender (WriteRelease comm j place value last) told may = same_pair (chunk_of s) (pair_of me to view rec other) _ refl refl (sending-write_release to rec.post last rec.stage) refl refl refl refl
      (sent-calls_released to rec.calls last rec.stage) refl phase
  of_sender (LookRelease comm value) told may = same_pair (chunk_of s) (pair_of me to view rec other) _ refl refl (sending-look_release to rec.post comm value _ rec.stage) refl refl refl refl
      (sent-calls_let_go to rec.calls comm value _ rec.stage) refl phase
  of_sender (StoreHeap place value) told may = phase
  of_sender NoMove told may = phase
  of_sender Misplaced told may = phase

-- ---- the moves of the receiver of a pair

module _ (s : SetupView) (from me : ℕ) (view : View) (other rec : Record) (single : IsConsistent s from other) (stands : BufferStands other (view.header from) (view.chunk from)) (peers : ArePeers s from me)
    (phase : Phase (chunk_of s) (pair_of from me view other rec)) where
  offered : Stands s (pair_of from me view other rec)
  offered a p m w is = offers s from me a p m w (view.header from) (view.chunk from) other single stands is

  pub of_taker : (move : Move) → IsMoveOf s me move → Tells me move view → permits (chunk_of s) move rec ≡ true → Phase (chunk_of s) (pair_of from me (view_after_move me move view) other (after (chunk_of s) move rec))
  of_taker (DraftHeader k v) own told may = same_pair (chunk_of s) (pair_of from me view other rec) _ refl refl refl (taking-draft_header from k v rec.stage) refl (buffer_left me from view (DraftHeader k v) peers.apart).0 refl refl refl phase
  of_taker (DraftChunk k v) own told may = same_pair (chunk_of s) (pair_of from me view other rec) _ refl refl refl (taking-draft_chunk from k v rec.stage) refl refl (buffer_left me from view (DraftChunk k v) peers.apart).1 refl refl phase
  of_taker (RaiseSignal Sent to) own told may = same_pair (chunk_of s) (pair_of from me view other rec) _ (put_two_first (view.signal Sent) me to 1 from me peers.apart) refl refl (taking-raise_sent from to rec.stage) refl refl refl refl
      (received-calls_raised from rec.calls (chunk_of s) to rec.stage) phase
  of_taker (LookSignal Sent is_set) own told may = sent_looked_at (chunk_of s) from (view.signal Sent from me) (view.signal Ready me from) (sending_side me other.stage other.post) rec.stage (rec.notes from) (view.header from) (view.chunk from) _ rec.calls
      (is_set from) (told from) phase
  of_taker (ReadHeader j k v) own told may = same_or_other (Phase (chunk_of s) (pair_of from me view other (after (chunk_of s) (ReadHeader j k v) rec))) from j
      (λ here e. same_pair (chunk_of s) (record (pair_of from me view other rec) { notes = option_map (note_word k v) (rec.notes from) }) _ refl refl refl refl
      (subst (λ x. table_with rec.notes x (option_map (note_word k v) (rec.notes x)) from ≡ option_map (note_word k v) (rec.notes from)) e (put_here rec.notes from (option_map (note_word k v) (rec.notes from)))) refl refl refl refl
      (header_read (chunk_of s) (pair_of from me view other rec) k v (rec.notes from) refl (subst (λ x. view.header x k ≡ v) (sym e) told) phase))
      (λ there ne. same_pair (chunk_of s) (pair_of from me view other rec) _ refl refl refl refl (put_there rec.notes j (option_map (note_word k v) (rec.notes j)) from ne) refl refl refl refl phase)
  of_taker (ReadChunk j k v) own told may = chunk_read (chunk_of s) from (view.signal Sent from me) (view.signal Ready me from) (sending_side me other.stage other.post) (rec.notes from) (view.header from) (view.chunk from) _ rec.calls
      j k v rec.stage (λ e. subst (λ x. view.chunk x k ≡ v) e told) phase
  of_taker (LowerSignal Sent j) own told may = same_or_other (Phase (chunk_of s) (pair_of from me (view_after_move me (LowerSignal Sent j) view) other (after (chunk_of s) (LowerSignal Sent j) rec))) j from
      (λ here e. same_pair (chunk_of s) (record (pair_of from me view other rec) { sent_flag = put_two (view.signal Sent) j me 0 from me; taking = taking_side from (lower_sent j (unwrap_or (rec.notes from) []) rec.stage); notes = None }) _
      refl refl refl (ap (λ x. taking_side from (lower_sent j (unwrap_or (rec.notes x) []) rec.stage)) e)
      (ap (λ x. table_with rec.notes x None from) e ∙ put_here rec.notes from None) refl refl refl refl
      (sent_lowered_here s from (view.signal Sent from me) (view.signal Ready me from) j (sending_side me other.stage other.post) (view.header from) (view.chunk from) _ rec.calls
      (put_two (view.signal Sent) j me 0 from me) rec.stage (rec.notes from) (subst (λ x. may_take j (rec.notes x) rec.stage ≡ true) e may) offered
      (subst (λ x. put_two (view.signal Sent) j me 0 x me ≡ 0) e (put_two_here (view.signal Sent) j me 0)) here phase))
      (λ there ne. same_pair (chunk_of s) (record (pair_of from me view other rec) { taking = taking_side from (lower_sent j (unwrap_or (rec.notes j) []) rec.stage) }) _
      (put_two_first (view.signal Sent) j me 0 from me (λ e. ne (sym e))) refl refl refl (put_there rec.notes j None from (λ e. ne (sym e))) refl refl refl refl
      (sent_lowered_there s from (view.signal Sent from me) (view.signal Ready me from) j (sending_side me other.stage other.post) (view.header from) (view.chunk from) _ rec.calls rec.stage (rec.notes j) (rec.notes from) may there phase))
  of_taker (RaiseSignal Ready j) own told may = same_or_other (Phase (chunk_of s) (pair_of from me (view_after_move me (RaiseSignal Ready j) view) other (after (chunk_of s) (RaiseSignal Ready j) rec))) j from
      (λ here e. ready_raised_here s from (view.signal Sent from me) (view.signal Ready me from) j (sending_side me other.stage other.post) (rec.notes from) (view.header from) (view.chunk from) _ rec.calls
      (put_two (view.signal Ready) me j 1 me from) rec.stage may offered here (subst (λ x. put_two (view.signal Ready) me j 1 me x ≡ 1) e (put_two_here (view.signal Ready) me j 1)) phase)
      (λ there ne. same_pair (chunk_of s) (pair_of from me view other (after (chunk_of s) (RaiseSignal Ready j) rec)) _ refl (put_two_second (view.signal Ready) me j 1 me from (λ e. ne (sym e))) refl refl refl refl refl refl refl
      (ready_raised_there s from (view.signal Sent from me) (view.signal Ready me from) j (sending_side me other.stage other.post) (rec.notes from) (view.header from) (view.chunk from) _ rec.calls rec.stage may there phase))
  of_taker (LookSignal Ready is_set) own told may = same_pair (chunk_of s) (pair_of from me view other rec) _ refl refl refl (taking-look_ready from is_set rec.stage) refl refl refl refl refl phase
  of_taker (LowerSignal Ready by) own told may = same_pair (chunk_of s) (pair_of from me view other rec) _ refl (put_two_second (view.signal Ready) by me 0 me from peers.apart) refl (taking-lower_ready from (chunk_of s) rec.stage) refl refl refl refl
      (received-calls_sent from rec.calls (chunk_of s) rec.stage) phase
  of_taker (FlipGather comm value last) own told may = same_pair (chunk_of s) (pair_of from me view other rec) _ refl refl refl (taking-flip_gather from comm last rec.stage) refl refl refl refl
      (received-finished_bar from rec.calls (last == 0) comm) phase
  of_taker (LookGather comm j place value) own told may = same_pair (chunk_of s) (pair_of from me view other rec) _ refl refl refl (taking-look_gather from comm place value _ rec.stage) refl refl refl refl refl phase
  of_taker (WriteRelease comm j place value last) own told may = same_pair (chunk_of s) (pair_of from me view other rec) _ refl refl refl (taking-write_release from last rec.stage) refl refl refl refl
      (received-calls_released from rec.calls last rec.stage) phase
  of_taker (LookRelease comm value) own told may = same_pair (chunk_of s) (pair_of from me view other rec) _ refl refl refl (taking-look_release from comm value _ rec.stage) refl refl refl refl
      (received-calls_let_go from rec.calls comm value _ rec.stage) phase
  of_taker (StoreHeap place value) own told may = phase
  of_taker NoMove own told may = phase
  of_taker Misplaced own told may = phase

-- ---- all pairs

-- no flag of two other ranks changes
signal_left : (me : ℕ) (signal : Signal) (by at : ℕ) (view : View) (move : Move) → by ≢ me → at ≢ me → (view_after_move me move view).signal signal by at ≡ view.signal signal by at
signal_left me signal by at view (DraftHeader k v) a b = refl
signal_left me signal by at view (DraftChunk k v) a b = refl
signal_left me signal by at view (RaiseSignal one j) a b = put_signal_left view.signal one signal (put_two (view.signal one) me j 1) by at (λ e. put_two_first (view.signal one) me j 1 by at a)
signal_left me signal by at view (LookSignal one is_set) a b = refl
signal_left me signal by at view (ReadHeader j k v) a b = refl
signal_left me signal by at view (ReadChunk j k v) a b = refl
signal_left me signal by at view (LowerSignal one j) a b = put_signal_left view.signal one signal (put_two (view.signal one) j me 0) by at (λ e. put_two_second (view.signal one) j me 0 by at b)
signal_left me signal by at view (FlipGather comm value last) a b = refl
signal_left me signal by at view (LookGather comm j place value) a b = refl
signal_left me signal by at view (WriteRelease comm j place value last) a b = refl
signal_left me signal by at view (LookRelease comm value) a b = refl
signal_left me signal by at view (StoreHeap place value) a b = refl
signal_left me signal by at view NoMove a b = refl
signal_left me signal by at view Misplaced a b = refl

pub pairs_kept : (s : SetupView) (me : ℕ) (view : View) (records : ℕ → Record) (move : Move) → IsViewStep s me view (records me) move
    → RecordsAgree s records → SendersAgree s view records → PairsAgree s view records → PairsAgree s (view_after_move me move view) (table_with records me (after (chunk_of s) move (records me)))
pairs_kept s me view records move step singles senders pairs from to peers =
    let p = peers_are s from to peers in
    let next = table_with records me (after (chunk_of s) move (records me)) in
    let here : next me ≡ after (chunk_of s) move (records me) = put_here records me (after (chunk_of s) move (records me)) in
    same_or_other (Phase (chunk_of s) (pair_of from to (view_after_move me move view) (next from) (next to))) from me
    (λ t e.
    let pm : ArePeers s me to = subst (λ x. ArePeers s x to) e p in
    let there : next to ≡ records to = put_there records me (after (chunk_of s) move (records me)) to (λ f. pm.apart (sym f)) in
    let moved : Phase (chunk_of s) (pair_of me to (view_after_move me move view) (after (chunk_of s) move (records me)) (records to)) =
    of_sender s me to view (records me) (records to) (singles.0 me step.rank) pm (pairs me to (subst (λ x. are_peers s x to ≡ true) e peers)) move step.told step.permitted in
    subst (λ x. Phase (chunk_of s) (pair_of x to (view_after_move me move view) (next x) (next to))) (sym e)
    (subst (λ (x : Record). Phase (chunk_of s) (pair_of me to (view_after_move me move view) x (next to))) (sym here)
    (subst (λ (x : Record). Phase (chunk_of s) (pair_of me to (view_after_move me move view) (after (chunk_of s) move (records me)) x)) (sym there) moved)))
    (λ t ne. same_or_other (Phase (chunk_of s) (pair_of from to (view_after_move me move view) (next from) (next to))) to me
    (λ u e.
    let pm : ArePeers s from me = subst (λ x. ArePeers s from x) e p in
    let there : next from ≡ records from = put_there records me (after (chunk_of s) move (records me)) from ne in
    let moved : Phase (chunk_of s) (pair_of from me (view_after_move me move view) (records from) (after (chunk_of s) move (records me))) =
    of_taker s from me view (records from) (records me) (singles.0 from p.one) (senders from p.one) pm (pairs from me (subst (λ x. are_peers s from x ≡ true) e peers)) move step.own step.told step.permitted in
    subst (λ x. Phase (chunk_of s) (pair_of from x (view_after_move me move view) (next from) (next x))) (sym e)
    (subst (λ (x : Record). Phase (chunk_of s) (pair_of from me (view_after_move me move view) (next from) x)) (sym here)
    (subst (λ (x : Record). Phase (chunk_of s) (pair_of from me (view_after_move me move view) x (after (chunk_of s) move (records me)))) (sym there) moved)))
    (λ u nf.
    let a : next from ≡ records from = put_there records me (after (chunk_of s) move (records me)) from ne in
    let b : next to ≡ records to = put_there records me (after (chunk_of s) move (records me)) to nf in
    same_pair (chunk_of s) (pair_of from to view (records from) (records to)) _ (signal_left me Sent from to view move ne nf) (signal_left me Ready to from view move nf ne)
    (ap (λ (x : Record). sending_side to x.stage x.post) a) (ap (λ (x : Record). taking_side from x.stage) b) (ap (λ (x : Record). x.notes from) b)
    (buffer_left me from view move ne).0 (buffer_left me from view move ne).1
    (ap (λ (x : Record). sent_messages to x.calls) a) (ap (λ (x : Record). received_messages from x.calls) b) (pairs from to peers)))
