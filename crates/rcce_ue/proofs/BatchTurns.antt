-- Turns of a UE in a row that write or read the lines of a chunk.
use Rattle.std.proofs.Common.{◌≡◌, ℕ, ◌≤◌, Bool, true, false, ◌||◌, List, ◌++◌, length, take, drop, take_at, length-append, length-drop, refl, sym, ap, ◌∙◌, subst, arith}
use Rattle.scc_base.specs.Heads.{MessageHead}
use Rattle.scc_proto.specs.Ports.{Sight}
use Rattle.put_get.specs.Cores.{Private}
use Rattle.send_recv.specs.declared.answers.RecvTurn.TheVariants as receive
use Rattle.send_recv.specs.Ops.{RecvAt, SendAt, SlotAt}
use Rattle.send_recv.specs.Ranks.{Receiver, receiving, sending}
use Rattle.send_recv.specs.Receiving.{RecvStands, RecvTurned}
use Rattle.send_recv.specs.Sending.{SendStands}
use Rattle.send_recv.specs.Batches as line
use Rattle.send_recv.specs.Batches.{WroteLines, WroteOne, WroteMore, ReadLines, ReadOne, ReadMore}
use Rattle.script_machine.specs.Local.{local_next}
use Rattle.script_machine.specs.Moves.{bytes_out, length_asked}
use Rattle.rcce_ue.specs.Standing.{Tied}
use Rattle.rcce_ue.specs.Batches.{BatchMoves, MovedOnce, MovedOn, reads_line_next, writes_line_next}
use Rattle.rcce_ue.specs.Ues.{UeView}
use Rattle.rcce_ue.specs.declared.calls.Open.TheVariants.{Sending, Receiving}
use Rattle.send_recv.proofs.Loops.BatchLoop.{read_same}
use Rattle.rcce_ue.proofs.OpAnswers.{asked, head_fits, recv_before}
use Rattle.rcce_ue.proofs.RecvTurns.{recv_moved}
use Rattle.rcce_ue.proofs.SendTurns.{send_moved}

-- a UE in the midst of a send, with the core and the slot after its turns so far
abbrev pub sends_on : UeView → Private → SendAt → SlotAt → UeView
sends_on ue d next after = record ue { core = d; slot = after; op = Sending next }

module _ (ue : UeView) (s : Sight) (op : SendAt) (tied : Tied (record ue { op = Sending op }) s) where
  -- the bytes of the message
  abbrev out : List ℕ
  out = bytes_out (local_next ue.machine.local)

  pub writes : (t : Sight) (d : Private) (next : SendAt) (after : SlotAt) → WroteLines (sending s ue.core op ue.slot out) t d next after → SendStands t d next after out → BatchMoves (record ue { op = Sending op }) s (sends_on ue d next after) t
  writes t d next after (WroteOne _ _ _ _ on turned) stands =
      let one = send_moved ue s t op tied d next after stands turned in
      record { tied = one.tied; moves = MovedOnce (sends_on ue d next after) t one.turned }
  writes t d next after (WroteMore m _ b _ cur _ slot _ lines there on turned) stands =
      let before = writes m b cur slot lines there in
      let one = send_moved (record ue { core = b; slot = slot }) m t cur before.tied d next after stands turned in
      record { tied = one.tied; moves = MovedOn (sends_on ue b cur slot) (sends_on ue d next after) m t before.moves before.tied one.turned }

-- a UE in the midst of a receive, with the core and the inbox after its turns so far
abbrev pub receives_on : UeView → Private → RecvAt → List ℕ → UeView
receives_on ue d next inbox = record ue { core = d; op = Receiving next; inbox = inbox }

module _ (ue : UeView) (s : Sight) (op : RecvAt) (tied : Tied (record ue { op = Receiving op }) s) where
  -- how many bytes the message has
  abbrev len : ℕ
  len = length_asked (local_next ue.machine.local)

  len_is : op.head.len ≡ len
  len_is = asked ue (record ue { op = Receiving op }) (record ue { op = Receiving op }) s s op refl tied

  -- the bytes of the message in front of the inbox
  in_front : List ℕ → List ℕ
  in_front bytes = bytes ++ drop len ue.inbox

  module _ (mid : Receiver) (lines : ReadLines (receiving s ue.core op (take len ue.inbox)) mid) (there : RecvStands mid.sight mid.core mid.op mid.bytes) where
    long : length mid.bytes ≡ len
    long = there.long ∙ ap (λ (h : MessageHead). h.len) (read_same lines) ∙ len_is

    front : take len (in_front mid.bytes) ≡ mid.bytes
    unfolding in_front
    front = take_at mid.bytes (drop len ue.inbox) len long

    room : length (in_front mid.bytes) ≡ 65536
    unfolding in_front
    room =
        let within = tied.stands.0.head.len_within in
        let all = tied.room in
        let parts = length-append mid.bytes (drop len ue.inbox) in
        let rest = length-drop len ue.inbox in
        let is = len_is in
        let first = long in
        omega (arith, within, all, parts, rest, is, first)

  -- a receiver with bytes that are spelled in another way
  spelled : (old now : Receiver) (a b : List ℕ) → a ≡ old.bytes → b ≡ now.bytes → RecvTurned old now receive.Moved
      → RecvTurned (receiving old.sight old.core old.op a) (receiving now.sight now.core now.op b) receive.Moved
  spelled old now a b one two turned =
      subst (λ (x : List ℕ). RecvTurned (receiving old.sight old.core old.op x) (receiving now.sight now.core now.op b) receive.Moved) (sym one)
      (subst (λ (y : List ℕ). RecvTurned old (receiving now.sight now.core now.op y) receive.Moved) (sym two) turned)

  pub reads : (now : Receiver) (inbox : List ℕ) → length inbox ≡ 65536 → take len inbox ≡ now.bytes → ReadLines (receiving s ue.core op (take len ue.inbox)) now → RecvStands now.sight now.core now.op now.bytes
      → BatchMoves (record ue { op = Receiving op }) s (receives_on ue now.core now.op inbox) now.sight
  reads now inbox large is (ReadOne _ on turned) stands =
      let one = recv_moved ue s now.sight op tied now.core now.op inbox large (subst (λ (x : List ℕ). RecvStands now.sight now.core now.op x) (sym is) stands)
      (spelled (receiving s ue.core op (take len ue.inbox)) now (take len ue.inbox) (take len inbox) refl is turned) in
      record { tied = one.tied; moves = MovedOnce (receives_on ue now.core now.op inbox) now.sight one.turned }
  reads now inbox large is (ReadMore mid _ lines there on turned) stands =
      let so_far = in_front mid.bytes in
      let before = reads mid so_far (room mid lines there) (front mid lines there) lines there in
      let one = recv_moved (record ue { core = mid.core; inbox = so_far }) mid.sight now.sight mid.op before.tied now.core now.op inbox large (subst (λ (x : List ℕ). RecvStands now.sight now.core now.op x) (sym is) stands)
      (spelled mid now (take len so_far) (take len inbox) (front mid lines there) is turned) in
      record { tied = one.tied; moves = MovedOn (receives_on ue mid.core mid.op so_far) (receives_on ue now.core now.op inbox) mid.sight now.sight before.moves before.tied one.turned }

-- ---- UEs that are spelled in another way

spelled_moves : (old a now b : UeView) (s t : Sight) → old ≡ a → now ≡ b → Tied old s → (Tied a s → BatchMoves a s b t) → BatchMoves old s now t
spelled_moves old a now b s t before after tied moves =
    subst (λ (x : UeView). BatchMoves x s now t) (sym before) (subst (λ (y : UeView). BatchMoves a s y t) (sym after) (moves (subst (λ (x : UeView). Tied x s) before tied)))

pub wrote_moves : (ue old now : UeView) (s t : Sight) (op next : SendAt) (d : Private) (after : SlotAt) (bytes : List ℕ) → old ≡ record ue { op = Sending op } → bytes ≡ bytes_out (local_next ue.machine.local) → Tied old s
    → SendStands t d next after bytes → WroteLines (sending s ue.core op ue.slot bytes) t d next after → now ≡ sends_on ue d next after → BatchMoves old s now t
wrote_moves ue old now s t op next d after bytes before out tied stands lines is =
    spelled_moves old (record ue { op = Sending op }) now (sends_on ue d next after) s t before is tied
    (λ there. writes ue s op there t d next after (subst (λ (x : List ℕ). WroteLines (sending s ue.core op ue.slot x) t d next after) out lines) (subst (λ (x : List ℕ). SendStands t d next after x) out stands))

pub read_moves : (ue old now : UeView) (s t : Sight) (op next : RecvAt) (d : Private) (inbox : List ℕ) → old ≡ record ue { op = Receiving op } → Tied old s → length inbox ≡ length ue.inbox
    → RecvStands t d next (take op.head.len inbox) → ReadLines (receiving s ue.core op (take op.head.len ue.inbox)) (receiving t d next (take op.head.len inbox)) → now ≡ receives_on ue d next inbox → BatchMoves old s now t
read_moves ue old now s t op next d inbox before tied room stands lines is =
    spelled_moves old (record ue { op = Receiving op }) now (receives_on ue d next inbox) s t before is tied
    (λ there.
    let same = len_is ue s op there in
    reads ue s op there (receiving t d next (take op.head.len inbox)) inbox (room ∙ there.room) (ap (λ (n : ℕ). take n inbox) (sym same))
    (subst (λ (n : ℕ). ReadLines (receiving s ue.core op (take n ue.inbox)) (receiving t d next (take op.head.len inbox))) same lines) stands)

-- ---- whether the next turn writes or reads a line

or_none : (r : Bool) → r ≡ (r || false)
or_none true = refl
or_none false = refl

module _ (ue old : UeView) (r : Bool) where
  abbrev Tells : Type 0
  Tells = r ≡ (writes_line_next old.op || reads_line_next old.op)

  told : (b : UeView) → old ≡ b → r ≡ (writes_line_next b.op || reads_line_next b.op) → Tells
  told b before is = is ∙ sym (ap (λ (x : UeView). writes_line_next x.op || reads_line_next x.op) before)

  pub writes_tell : (op : SendAt) → old ≡ record ue { op = Sending op } → r ≡ line.is_writing op.stage → Tells
  writes_tell op before is = told (record ue { op = Sending op }) before (or_none r ∙ ap (λ (b : Bool). b || false) is)

  pub reads_tell : (op : RecvAt) → old ≡ record ue { op = Receiving op } → r ≡ line.is_reading op.stage → Tells
  reads_tell op before is = told (record ue { op = Receiving op }) before is

-- ---- as a function spells the UEs: b is what stands before, part by part

module _ (b old : UeView) (is : b ≡ old) where
  module _ (op : SendAt) (found : b.op ≡ Sending op) where
    pub sends : old ≡ record b { op = Sending op }
    sends = sym is ∙ (λ i. record b { op = found i })

    pub sends_tell : (r : Bool) → r ≡ line.is_writing op.stage → r ≡ (writes_line_next old.op || reads_line_next old.op)
    sends_tell r tells = writes_tell b old r op sends tells

    pub sends_move : (s t : Sight) (next : SendAt) (d : Private) (after : SlotAt) (bytes : List ℕ) → bytes ≡ bytes_out (local_next b.machine.local) → Tied old s
        → SendStands t d next after bytes → WroteLines (sending s b.core op b.slot bytes) t d next after → BatchMoves old s (sends_on b d next after) t
    sends_move s t next d after bytes out tied stands lines = wrote_moves b old (sends_on b d next after) s t op next d after bytes sends out tied stands lines refl

  -- the inbox is lent
  module _ (op : RecvAt) (found : b.op ≡ Receiving op) (lent : List ℕ) (same : lent ≡ b.inbox) where
    pub receives : old ≡ record b { op = Receiving op; inbox = lent }
    receives = sym is ∙ (λ i. record b { op = found i; inbox = sym same i })

    pub receives_tell : (r : Bool) → r ≡ line.is_reading op.stage → r ≡ (writes_line_next old.op || reads_line_next old.op)
    receives_tell r tells = reads_tell (record b { inbox = lent }) old r op receives tells

    module _ (s : Sight) (tied : Tied old s) where
      pub receives_fit : op.head.len ≤ length lent
      receives_fit = head_fits (record b { inbox = lent }) old old s s op receives tied

      pub receives_stand : RecvStands s b.core op (take op.head.len lent)
      receives_stand = recv_before (record b { inbox = lent }) old old s s op receives tied

      pub receives_move : (t : Sight) (next : RecvAt) (d : Private) (inbox kept : List ℕ) → length inbox ≡ length lent → kept ≡ inbox → RecvStands t d next (take op.head.len inbox)
          → ReadLines (receiving s b.core op (take op.head.len lent)) (receiving t d next (take op.head.len inbox)) → BatchMoves old s (receives_on b d next kept) t
      receives_move t next d inbox kept room back stands lines =
          read_moves (record b { inbox = lent }) old (receives_on b d next kept) s t op next d inbox receives tied room stands lines (ap (receives_on b d next) back)
