-- The turns of a collective call, as its functions spell the ops before and after.
use Rattle.std.proofs.Common.{◌≡◌, ℕ, ◌+◌, ◌*◌, ◌≤◌, ◌<◌, Bool, true, List, length, take, drop, Option, Some, None, slice_get, refl, sym, ◌∙◌, subst, arith}
use Rattle.std.specs.Prelude.{IsTrue}
use Rattle.scc_base.specs.Heads.{MessageHead}
use Rattle.scc_base.specs.declared.events.Spot.{Spot}
use Rattle.scc_base.specs.declared.events.Turn.{Turn}
use Rattle.scc_base.specs.declared.events.Turn.TheVariants as turn
use Rattle.scc_proto.specs.Ports.{Sight}
use Rattle.put_get.specs.Cores.{Private}
use Rattle.send_recv.specs.Ops.{RecvAt, SendAt, SlotAt}
use Rattle.send_recv.specs.Receiving.{RecvStands, RecvTurned}
use Rattle.send_recv.specs.Sending.{SendStands, SendTurned}
use Rattle.send_recv.specs.declared.answers.RecvTurn.{RecvTurn}
use Rattle.send_recv.specs.declared.answers.RecvTurn.TheVariants as receive
use Rattle.send_recv.specs.Ranks.{receiving, sending}
use Rattle.coll_more.specs.Ops.{HasOwn, MoreAt, begun_at, bytes_by, bytes_of_piece, is_taking, table_of, window, taking_part}
use Rattle.coll_more.specs.Standing.{IsFit, Stands}
use Rattle.coll_more.specs.Tables.{piece_calls, dst_len_of, has_own, src_len_of}
use Rattle.coll_more.specs.Turns.{MoreTurns, is_between, is_copying_own}
use Rattle.coll_more.specs.declared.kinds.PieceCall.{PieceCall}
use Rattle.coll_more.specs.declared.kinds.Way.{Way}
use Rattle.coll_more.specs.declared.kinds.Way.TheVariants.{Gives, Shares, Takes}
use Rattle.coll_more.specs.declared.ops.Stage.{Stage}
use Rattle.coll_more.specs.declared.ops.Stage.TheVariants.{Own, Between, Sending, Receiving}
use Rattle.coll_more.proofs.GoodLemmas.{IsGood, each_at, good_calls, own_room}
use Rattle.coll_more.proofs.RecvTurns.{recv_done, recv_moved, recv_refused, recv_waited}
use Rattle.coll_more.proofs.SendTurns.{send_done, send_moved, send_waited}
use Rattle.coll_more.proofs.TableLemmas.{next_fits}
use Rattle.coll_more.proofs.TurnLemmas.{begun_turns, inside_here, over_turns, own_turns}

own_by : (stage : Stage) → IsTrue (is_copying_own stage) → stage ≡ Own
own_by Own is = refl
own_by Between is = absurd (cc)
own_by (Sending call op) is = absurd (cc)
own_by (Receiving call op) is = absurd (cc)

between_by : (stage : Stage) → IsTrue (is_between stage) → stage ≡ Between
between_by Own is = absurd (cc)
between_by Between is = refl
between_by (Sending call op) is = absurd (cc)
between_by (Receiving call op) is = absurd (cc)

pub at_own : (m : MoreAt) → IsTrue (is_copying_own m.stage) → m ≡ record m { stage = Own }
at_own m is = λ i. record m { stage = own_by m.stage is i }

pub at_between : (m : MoreAt) → IsTrue (is_between m.stage) → m ≡ record m { stage = Between }
at_between m is = λ i. record m { stage = between_by m.stage is i }

module _ (s t : Sight) (c d : Private) (old a now b : MoreAt) (slot after : SlotAt) (src dst later : List ℕ) (answer : RecvTurn) where
  -- a turn of ops that are spelled in another way
  carry : old ≡ a → now ≡ b → Stands (taking_part s c old slot src dst) → (Stands (taking_part s c a slot src dst) → MoreTurns (taking_part s c a slot src dst) (taking_part t d b after src later) answer) → MoreTurns (taking_part s c old slot src dst) (taking_part t d now after src later) answer
  carry before afterwards fit turns =
      subst (λ (x : MoreAt). MoreTurns (taking_part s c x slot src dst) (taking_part t d now after src later) answer) (sym before)
      (subst (λ (y : MoreAt). MoreTurns (taking_part s c a slot src dst) (taking_part t d y after src later) answer) (sym afterwards) (turns (subst (λ (x : MoreAt). Stands (taking_part s c x slot src dst)) before fit)))

module _ (m old now : MoreAt) (s : Sight) (c : Private) (slot : SlotAt) (src dst : List ℕ) (fit : Stands (taking_part s c old slot src dst)) where
  pub owned : (later : List ℕ) → old ≡ record m { stage = Own } → now ≡ record m { stage = Between } → length later ≡ length dst → HasOwn m.more s.seat.rank m.len src later
      → MoreTurns (taking_part s c old slot src dst) (taking_part s c now slot src later) receive.Moved
  owned later before afterwards long has = carry s s c c old _ now _ slot slot src dst later receive.Moved before afterwards fit (λ there. own_turns m s c slot src dst later there long has)

  pub begun_next : s.seat.setup.nue ≤ 48 → s.seat.rank < s.seat.setup.nue → (call : PieceCall) → slice_get (table_of s.seat m) m.ended ≡ Some call
      → old ≡ record m { stage = Between } → now ≡ record m { stage = begun_at call } → MoreTurns (taking_part s c old slot src dst) (taking_part s c now slot src dst) receive.Moved
  begun_next few low call at before afterwards = carry s s c c old _ now _ slot slot src dst dst receive.Moved before afterwards fit (λ there. begun_turns m s c slot src dst few low call at there.1.fits)

  pub nothing_left : slice_get (table_of s.seat m) m.ended ≡ None → old ≡ record m { stage = Between } → now ≡ record m { stage = Between } → MoreTurns (taking_part s c old slot src dst) (taking_part s c now slot src dst) receive.Done
  nothing_left none before afterwards = carry s s c c old _ now _ slot slot src dst dst receive.Done before afterwards fit (λ there. over_turns m s c slot src dst there none)

module _ (m old now : MoreAt) (s t : Sight) (c d : Private) (call : PieceCall) (slot : SlotAt) (src dst : List ℕ) (fit : Stands (taking_part s c old slot src dst)) where
  module _ (op next : SendAt) (after : SlotAt) (bytes : List ℕ) (before : old ≡ record m { stage = Sending call op }) (out : bytes ≡ bytes_of_piece call src dst) (stands : SendStands t d next after bytes) where
    there_send : SendStands t d next after (bytes_of_piece call src dst)
    there_send = subst (λ (x : List ℕ). SendStands t d next after x) out stands

    turned_send : (answer : Turn) → SendTurned (sending s c op slot bytes) (sending t d next after bytes) answer → SendTurned (sending s c op slot (bytes_of_piece call src dst)) (sending t d next after (bytes_of_piece call src dst)) answer
    turned_send answer r = subst (λ (x : List ℕ). SendTurned (sending s c op slot x) (sending t d next after x) answer) out r

    pub sending_moved : now ≡ record m { stage = Sending call next } → SendTurned (sending s c op slot bytes) (sending t d next after bytes) turn.Moved → MoreTurns (taking_part s c old slot src dst) (taking_part t d now after src dst) receive.Moved
    sending_moved is r = carry s t c d old _ now _ slot after src dst dst receive.Moved before is fit (λ there. send_moved m s t c d call op next slot after src dst there there_send (turned_send turn.Moved r))

    pub sending_waited : (spot : Spot) → now ≡ record m { stage = Sending call next } → SendTurned (sending s c op slot bytes) (sending t d next after bytes) (turn.Waiting spot)
        → MoreTurns (taking_part s c old slot src dst) (taking_part t d now after src dst) (receive.Waiting spot)
    sending_waited spot is r =
        carry s t c d old _ now _ slot after src dst dst (receive.Waiting spot) before is fit (λ there. send_waited m s t c d call op next slot after src dst there there_send spot (turned_send (turn.Waiting spot) r))

    pub sending_done : now ≡ record m { ended = m.ended + 1; stage = Between } → SendTurned (sending s c op slot bytes) (sending t d next after bytes) turn.Done → MoreTurns (taking_part s c old slot src dst) (taking_part t d now after src dst) receive.Moved
    sending_done is r = carry s t c d old _ now _ slot after src dst dst receive.Moved before is fit (λ there. send_done m s t c d call op next slot after src dst there there_send (turned_send turn.Done r))

  module _ (few : s.seat.setup.nue ≤ 48) (low : s.seat.rank < s.seat.setup.nue) (op next : RecvAt) (later : List ℕ) (before : old ≡ record m { stage = Receiving call op })
      (stands : RecvStands t d next (window call.first call.len later)) (long : length later ≡ length dst) (front : take call.first later ≡ take call.first dst)
      (afterwards : drop (call.first + call.len) later ≡ drop (call.first + call.len) dst) where
    abbrev Got : RecvTurn → Type 0
    Got answer = RecvTurned (receiving s c op (window call.first call.len dst)) (receiving t d next (window call.first call.len later)) answer

    pub receiving_moved : now ≡ record m { stage = Receiving call next } → Got receive.Moved → MoreTurns (taking_part s c old slot src dst) (taking_part t d now slot src later) receive.Moved
    receiving_moved is r =
        carry s t c d old _ now _ slot slot src dst later receive.Moved before is fit (λ there. recv_moved m s t c d call op next slot src dst later few low there stands long front afterwards r)

    pub receiving_waited : (spot : Spot) → now ≡ record m { stage = Receiving call next } → Got (receive.Waiting spot) → MoreTurns (taking_part s c old slot src dst) (taking_part t d now slot src later) (receive.Waiting spot)
    receiving_waited spot is r =
        carry s t c d old _ now _ slot slot src dst later (receive.Waiting spot) before is fit (λ there. recv_waited m s t c d call op next slot src dst later few low there stands long front afterwards spot r)

    pub receiving_refused : (sent : MessageHead) → now ≡ record m { stage = Receiving call next } → Got (receive.Mismatch sent) → MoreTurns (taking_part s c old slot src dst) (taking_part t d now slot src later) (receive.Mismatch sent)
    receiving_refused sent is r =
        carry s t c d old _ now _ slot slot src dst later (receive.Mismatch sent) before is fit (λ there. recv_refused m s t c d call op next slot src dst later few low there stands long front afterwards sent r)

    pub receiving_done : now ≡ record m { ended = m.ended + 1; stage = Between } → Got receive.Done → MoreTurns (taking_part s c old slot src dst) (taking_part t d now slot src later) receive.Moved
    receiving_done is r =
        carry s t c d old _ now _ slot slot src dst later receive.Moved before is fit (λ there. recv_done m s t c d call op next slot src dst later few low there stands long front afterwards r)

-- ---- what the calls of a turn ask for

-- a rank and its number of ranks, spelled in another way
pub next_here : (m : MoreAt) (s : Sight) (rank nue : ℕ) (o : Option PieceCall) → rank ≡ s.seat.rank → nue ≡ s.seat.setup.nue → o ≡ slice_get (piece_calls m.more rank nue m.len) m.ended
    → slice_get (table_of s.seat m) m.ended ≡ o
next_here m s rank nue o one two at = sym (at ∙ (λ i. slice_get (piece_calls m.more (one i) (two i) m.len) m.ended))

pub short_here : (m : MoreAt) (s : Sight) (call : PieceCall) → s.seat.setup.nue ≤ 48 → s.seat.rank < s.seat.setup.nue → m.len ≤ 1024 → slice_get (table_of s.seat m) m.ended ≡ Some call → call.len ≤ 65536
short_here m s call few low short next =
    (each_at (IsGood s.seat.rank s.seat.setup.nue m.len (has_own m.more s.seat.rank) (src_len_of m.more s.seat.rank s.seat.setup.nue m.len) (dst_len_of m.more s.seat.rank s.seat.setup.nue m.len))
    (table_of s.seat m) m.ended call (good_calls s.seat.setup.nue m.len few short s.seat.rank low m.more) next).short

module _ (m : MoreAt) (s : Sight) (src dst : List ℕ) (low : s.seat.rank < s.seat.setup.nue) (fits : IsFit m.more s.seat.rank s.seat.setup.nue m.len src dst) (number : ℕ) (asked : Bool)
    (same : number ≡ s.seat.rank) (is : asked ≡ has_own m.more s.seat.rank) (on : asked ≡ true) where
  pub room_given : number * m.len + m.len ≤ length src
  room_given =
      let room = own_room m.more s.seat.rank s.seat.setup.nue m.len low (sym is ∙ on) in
      let fit = room.0 in
      let long = fits.src_is in
      let here : s.seat.rank * m.len + m.len ≤ length src = omega (arith, fit, long) in
      subst (λ (n : ℕ). n * m.len + m.len ≤ length src) (sym same) here

  pub room_within : number * m.len + m.len ≤ length dst
  room_within =
      let room = own_room m.more s.seat.rank s.seat.setup.nue m.len low (sym is ∙ on) in
      let fit = room.1 in
      let long = fits.dst_is in
      let here : s.seat.rank * m.len + m.len ≤ length dst = omega (arith, fit, long) in
      subst (λ (n : ℕ). n * m.len + m.len ≤ length dst) (sym same) here

pub has_there : (m : MoreAt) (s : Sight) (src later : List ℕ) (number : ℕ) (asked : Bool) → number ≡ s.seat.rank → asked ≡ has_own m.more s.seat.rank
    → (asked ≡ true → window (number * m.len) m.len later ≡ window (number * m.len) m.len src) → HasOwn m.more s.seat.rank m.len src later
has_there m s src later number asked same is copied has = subst (λ (n : ℕ). window (n * m.len) m.len later ≡ window (n * m.len) m.len src) same (copied (is ∙ has))

-- a receive goes into dst
into_dst : (w : Way) (src dst : List ℕ) → is_taking w ≡ true → bytes_by w src dst ≡ dst
into_dst Gives src dst is = absurd (cc)
into_dst Shares src dst is = absurd (cc)
into_dst Takes src dst is = refl

module _ (m old : MoreAt) (s : Sight) (c : Private) (call : PieceCall) (slot : SlotAt) (src dst : List ℕ) (few : s.seat.setup.nue ≤ 48) (low : s.seat.rank < s.seat.setup.nue) (fit : Stands (taking_part s c old slot src dst)) where
  module _ (op : SendAt) (before : old ≡ record m { stage = Sending call op }) where
    there_sending : Stands (taking_part s c (record m { stage = Sending call op }) slot src dst)
    there_sending = subst (λ (x : MoreAt). Stands (taking_part s c x slot src dst)) before fit

    pub sending_room : call.first + call.len ≤ length (bytes_by call.way src dst)
    sending_room = inside_here m s c slot src dst few low call there_sending.1.at.0 there_sending.1.fits

    pub sending_fits : m.ended + 1 < 256
    sending_fits = next_fits m.more s.seat.rank s.seat.setup.nue m.len m.ended call low few there_sending.1.at.0

  module _ (op : RecvAt) (before : old ≡ record m { stage = Receiving call op }) where
    there_receiving : Stands (taking_part s c (record m { stage = Receiving call op }) slot src dst)
    there_receiving = subst (λ (x : MoreAt). Stands (taking_part s c x slot src dst)) before fit

    pub receiving_room : call.first + call.len ≤ length dst
    receiving_room =
        let here = there_receiving.1.at.1 in
        subst (λ (bytes : List ℕ). call.first + call.len ≤ length bytes) (into_dst call.way src dst here.way) (inside_here m s c slot src dst few low call there_receiving.1.at.0 there_receiving.1.fits)

    pub receiving_fits : m.ended + 1 < 256
    receiving_fits = next_fits m.more s.seat.rank s.seat.setup.nue m.len m.ended call low few there_receiving.1.at.0
