-- The raise of `sent` by the sender of a chunk: that the record permits it, behind the line that waits in the
-- buffer with line flags, and the record after it.
use Rattle.std.proofs.Common.{◌≡◌, ◌≢◌, ℕ, zero, suc, ◌+◌, ◌*◌, ◌<◌, Bool, true, false, ◌==◌, ◌&&◌, if◌then◌else◌, List, [], ◌∷◌, ◌++◌, Option, Some, None, is_none, refl, sym, ◌∙◌, ap, subst, arith}
use Rattle.scc_base.specs.Heads.{MessageHead}
use Rattle.scc_base.specs.Places.{LineAt, flag_word, line_of_word, same_line}
use Rattle.scc_base.specs.Layouts.{signal_at, first_chunk}
use Rattle.scc_base.specs.declared.signals.Signal.TheVariants.{Sent}
use Rattle.scc_base.specs.Setups.{IsSetup}
use Rattle.scc_base.specs.Events.{store_of}
use Rattle.scc_base.specs.declared.layouts.Layout.{Layout}
use Rattle.scc_base.specs.declared.layouts.Layout.TheVariants.{LineFlags, BitFlags}
use Rattle.scc_proto.specs.Messages.{head_of, Progress, fresh_message}
use Rattle.scc_proto.specs.Stages.{Stage, InFlight, Record}
use Rattle.scc_proto.specs.Moves.{RaiseSignal, after}
use Rattle.scc_proto.specs.Permission.{permits, may_raise, is_drafted}
use Rattle.scc_proto.specs.Soundness.{is_drafting}
use Rattle.scc_proto.specs.Records.{chunk_of}
use Rattle.scc_proto.specs.Ports.{Seat, Sight, Did, MayMakeAll, record_in, record_next}
use Rattle.scc_proto.proofs.Tests.{peers_are, eqb_same, eqb_other}
use Rattle.scc_proto.proofs.PortLaws.{record_did, record_on-append, may-append}
use Rattle.scc_proto.proofs.Layouts.PlaceMoves.{signal_raised}
use Rattle.scc_proto.proofs.Layouts.Roles.{if_no}
use Rattle.write_combine.specs.declared.combiner.Out.{Out}
use Rattle.write_combine.specs.Combining.{handed_out}
use Rattle.put_get.specs.Accesses.{stores_of, whole_line}
use Rattle.put_get.specs.Cores.{Private}
use Rattle.send_recv.specs.declared.stages.SendStage.TheVariants.{Raise}
use Rattle.send_recv.specs.Bytes.{words_at}
use Rattle.send_recv.specs.Chunks.{chunk_start}
use Rattle.send_recv.specs.Flags.{Changes, MayChange}
use Rattle.send_recv.specs.Ops.{SendAt, SlotAt}
use Rattle.send_recv.specs.Sending.{HasDrafted, First, Later, IsBeforeRaise, IsSending, SendStands, lines_in_hand, own_line, header_words, waiting}
use Rattle.send_recv.specs.Steps.{own_core, core_of, signal_flag}
use Rattle.send_recv.specs.Turns.{HoldsNoneBy}
use Rattle.send_recv.proofs.Looks.SignalFlags.{ChangesBy, MayChangeBy}
use Rattle.send_recv.proofs.Looks.FlagMoves.{MovesFlag, may_change_by, flag_moved_by, signal_raises, sent_is_clear}
use Rattle.send_recv.proofs.Lines.DraftWhole.{AreBytes, drafted_is, head_drafted, header_whole, begun_is}
use Rattle.send_recv.proofs.Lines.WaitingOut.{waiting_out}
use Rattle.send_recv.proofs.Sending.SendFacts.{at_stage}

-- ---- the record permits it once all lines are drafted

permitted_by : (seat : Seat) (rec : Record) (c : Private) (stage : Stage) (op : SendAt) (slot : SlotAt) (bytes : List ℕ) → AreBytes bytes → IsSending seat rec c op slot bytes → rec.post ≡ None
    → HasDrafted (chunk_of seat.setup) stage op bytes (lines_in_hand (chunk_of seat.setup) op) → permits (chunk_of seat.setup) (RaiseSignal Sent op.to) (record rec { stage = stage }) ≡ true
permitted_by seat rec c stage op slot bytes small r none (First header chunk first at words lines) =
    let size = chunk_of seat.setup in
    let head : head_of header ≡ op.head = head_drafted header op words in
    let whole = header_whole header op r.head r.post_head words in
    let drafted : is_drafted size (fresh_message (head_of header)) chunk ≡ true = ap (λ (h : MessageHead). is_drafted size (fresh_message h) chunk) head
    ∙ ap (λ (m : Progress). is_drafted size m chunk) (begun_is size op.head op.chunk bytes first)
    ∙ drafted_is seat.setup.layout chunk op bytes small r.long r.in_hand lines in
    ap (λ (st : Stage). is_none rec.post && may_raise size op.to st) at ∙ (λ i. is_none (none i) && (whole i && drafted i))
permitted_by seat rec c stage op slot bytes small r none (Later chunk later at lines) =
    let size = chunk_of seat.setup in
    let drafted = drafted_is seat.setup.layout chunk op bytes small r.long r.in_hand lines in
    ap (λ (st : Stage). is_none rec.post && may_raise size op.to st) at ∙ (λ i. is_none (none i) && (eqb_same op.to i && drafted i))

drafting_by : (size : ℕ) (stage : Stage) (op : SendAt) (bytes : List ℕ) (n : ℕ) → HasDrafted size stage op bytes n → is_drafting stage None ≡ true
drafting_by size stage op bytes n (First header chunk first at words lines) = ap (λ (st : Stage). is_drafting st None) at
drafting_by size stage op bytes n (Later chunk later at lines) = ap (λ (st : Stage). is_drafting st None) at

-- ---- the flag's line is another one than the line that waits

false_both : (b : Bool) → (b && false) ≡ false
false_both true = refl
false_both false = refl

other_flag : (core at one other : ℕ) (o : Out) → one ≢ other → same_line o.line (record { core = core; line = other }) ≡ ((at == core) && (one == other)) → handed_out (Some o) (record { core = core; line = other }) ≡ Some o
other_flag core at one other o ne is = if_no (same_line o.line (record { core = core; line = other })) None (Some o)
    (is ∙ ap (λ b. (at == core) && b) (eqb_other one other ne) ∙ false_both (at == core))

none_or : (b : Bool) (o : Out) (line : LineAt) → handed_out (Some o) line ≡ Some o → handed_out (if b then Some o else None) line ≡ (if b then Some o else None)
none_or true o line h = h
none_or false o line h = refl

flag_other : (seat : Seat) (op : SendAt) (bytes : List ℕ) (core i : ℕ) → seat.setup.layout ≡ LineFlags → seat.rank < 48
    → handed_out (waiting seat op bytes i) (line_of_word (flag_word core (signal_at LineFlags Sent seat.rank))) ≡ waiting seat op bytes i
flag_other seat op bytes core zero lines below =
    none_or (op.chunk == 0) (whole_line (own_line seat 0) (header_words op.head op.posted)) (line_of_word (flag_word core (signal_at LineFlags Sent seat.rank)))
    (other_flag core (own_core seat) 0 (1 + seat.rank) (whole_line (own_line seat 0) (header_words op.head op.posted)) (λ e. absurd (omega (arith, e))) refl)
flag_other seat op bytes core (suc i) lines below =
    let first : first_chunk seat.setup.layout ≡ 113 = ap first_chunk lines in
    other_flag core (own_core seat) (first_chunk seat.setup.layout + i) (1 + seat.rank)
    (whole_line (own_line seat (first_chunk seat.setup.layout + i)) (words_at bytes (chunk_start (chunk_of seat.setup) op.chunk + 32 * i))) (λ e. absurd (omega (arith, e, first, below))) refl

-- ---- the flag may be raised

-- with bit flags all lines are drafted before the raise, which is one move
raises_bit : (s : Sight) (c : Private) (op : SendAt) (slot : SlotAt) (bytes : List ℕ) → s.seat.setup.layout ≡ BitFlags → IsSetup s.seat.setup → AreBytes bytes → SendStands s c op slot bytes → (record_in s).post ≡ None
    → HasDrafted (chunk_of s.seat.setup) (record_in s).stage op bytes (lines_in_hand (chunk_of s.seat.setup) op) → MovesFlag BitFlags s.seat (record_in s) op.to Sent s.seat.rank true (RaiseSignal Sent op.to)
raises_bit s c op slot bytes bits valid small r none drafted =
    let drafting : is_drafting (record_in s).stage (record_in s).post ≡ true = ap (λ (o : Option InFlight). is_drafting (record_in s).stage o) none
    ∙ drafting_by (chunk_of s.seat.setup) (record_in s).stage op bytes (lines_in_hand (chunk_of s.seat.setup) op) drafted in
    signal_raises BitFlags s Sent op.to bits valid r.peers (sent_is_clear s op.to r.peers drafting) (permitted_by s.seat (record_in s) c (record_in s).stage op slot bytes small r none drafted)

may_by : (layout : Layout) (s : Sight) (c : Private) (op : SendAt) (slot : SlotAt) (bytes : List ℕ) → s.seat.setup.layout ≡ layout → IsSetup s.seat.setup → AreBytes bytes → SendStands s c op slot bytes
    → HoldsNoneBy layout (record_in s).held → (record_in s).post ≡ None → IsBeforeRaise layout s.seat (record_in s).stage c op bytes → MayChangeBy layout s c (core_of s.seat op.to) Sent s.seat.rank true
may_by LineFlags s c op slot bytes layout valid small r hands none before =
    let p = peers_are s.seat.setup s.seat.rank op.to r.peers in
    let size = chunk_of s.seat.setup in
    let lines = lines_in_hand size op in
    let out : c.out ≡ waiting s.seat op bytes lines = before.0 in
    let store = store_of (flag_word (core_of s.seat op.to) (signal_at LineFlags Sent s.seat.rank)) 1 in
    let within = valid.ranks_within in
    let one = p.one in
    let l = waiting_out s.seat (record_in s) op bytes lines valid p.one none (omega arith) before.1 in
    let may = permitted_by s.seat (record_in s) c l.new op slot bytes small r none l.drafted in
    let raised = signal_raised s.seat (record (record_in s) { stage = l.new }) valid layout Sent op.to r.peers may in
    record {
      other = subst (λ (o : Option Out). handed_out o (line_of_word (flag_word (core_of s.seat op.to) (signal_at LineFlags Sent s.seat.rank))) ≡ o) (sym out)
          (flag_other s.seat op bytes (core_of s.seat op.to) lines layout (omega (arith, within, one)));
      permitted = subst (λ (o : Option Out). MayMakeAll s.seat (record_in s) (stores_of o ++ store ∷ [])) (sym out)
          (may-append s.seat (record_in s) (stores_of (waiting s.seat op bytes lines)) (store ∷ []) l.may
          (subst (λ (x : Record). MayMakeAll s.seat x (store ∷ [])) (sym l.becomes) (raised.may, tt)));
    }
may_by BitFlags s c op slot bytes bits valid small r hands none before =
    may_change_by BitFlags s c op.to Sent s.seat.rank true (RaiseSignal Sent op.to) bits valid hands before.0 (raises_bit s c op slot bytes bits valid small r none before.1)

pub may_raise_sent : (s : Sight) (c : Private) (op : SendAt) (slot : SlotAt) (bytes : List ℕ) → IsSetup s.seat.setup → AreBytes bytes → SendStands s c op slot bytes → op.stage ≡ Raise
    → MayChange s c (core_of s.seat op.to) (signal_flag s.seat Sent s.seat.rank) true
may_raise_sent s c op slot bytes valid small r raise =
    let at = at_stage s.seat (record_in s) c op slot bytes Raise r raise in
    may_by s.seat.setup.layout s c op slot bytes refl valid small r r.hands at.0 at.1

-- ---- and then the record is

-- the record after the raise, from the one in which all lines are drafted
pub record SentRaised (s t : Sight) (op : SendAt) (bytes : List ℕ) : Type 0 where
  pub new : Stage
  pub drafted : HasDrafted (chunk_of s.seat.setup) new op bytes (lines_in_hand (chunk_of s.seat.setup) op)
  pub is : record_in t ≡ after (chunk_of s.seat.setup) (RaiseSignal Sent op.to) (record (record_in s) { stage = new })

raised_by : (layout : Layout) (s t : Sight) (c d : Private) (op : SendAt) (slot : SlotAt) (bytes : List ℕ) → s.seat.setup.layout ≡ layout → IsSetup s.seat.setup → AreBytes bytes → SendStands s c op slot bytes
    → HoldsNoneBy layout (record_in s).held → (record_in s).post ≡ None → IsBeforeRaise layout s.seat (record_in s).stage c op bytes
    → ChangesBy layout s c (core_of s.seat op.to) Sent s.seat.rank true true t d → SentRaised s t op bytes
raised_by LineFlags s t c d op slot bytes layout valid small r hands none before (done, writes) =
    let p = peers_are s.seat.setup s.seat.rank op.to r.peers in
    let lines = lines_in_hand (chunk_of s.seat.setup) op in
    let out : c.out ≡ waiting s.seat op bytes lines = before.0 in
    let store = store_of (flag_word (core_of s.seat op.to) (signal_at LineFlags Sent s.seat.rank)) 1 in
    let l = waiting_out s.seat (record_in s) op bytes lines valid p.one none (omega arith) before.1 in
    let may = permitted_by s.seat (record_in s) c l.new op slot bytes small r none l.drafted in
    record {
      new = l.new;
      drafted = l.drafted;
      is = record_did s (stores_of (waiting s.seat op bytes lines) ++ store ∷ []) t (subst (λ (o : Option Out). Did s (stores_of o ++ store ∷ []) t) out writes.did)
          ∙ record_on-append s.seat (record_in s) (stores_of (waiting s.seat op bytes lines)) (store ∷ [])
          ∙ ap (λ (x : Record). record_next s.seat x store) l.becomes
          ∙ (signal_raised s.seat (record (record_in s) { stage = l.new }) valid layout Sent op.to r.peers may).becomes;
    }
raised_by BitFlags s t c d op slot bytes bits valid small r hands none before tries = record {
  new = (record_in s).stage;
  drafted = before.1;
  is = flag_moved_by BitFlags s t c d op.to Sent s.seat.rank true (RaiseSignal Sent op.to) bits valid hands before.0 (raises_bit s c op slot bytes bits valid small r none before.1) tries;
}

pub sent_is_raised : (s t : Sight) (c d : Private) (op : SendAt) (slot : SlotAt) (bytes : List ℕ) → IsSetup s.seat.setup → AreBytes bytes → SendStands s c op slot bytes → op.stage ≡ Raise
    → Changes s c (core_of s.seat op.to) (signal_flag s.seat Sent s.seat.rank) true true t d → SentRaised s t op bytes
sent_is_raised s t c d op slot bytes valid small r raise changes =
    let at = at_stage s.seat (record_in s) c op slot bytes Raise r raise in
    raised_by s.seat.setup.layout s t c d op slot bytes refl valid small r r.hands at.0 at.1 changes
