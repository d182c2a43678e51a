-- The turns of a UE, as its functions spell the UEs before and after.
use Rattle.std.proofs.Common.{◌≡◌, ℕ, ◌≤◌, Bool, true, false, List, Some, length, take, refl, sym, ap, ◌∙◌, subst, arith}
use Rattle.std.specs.Prelude.{IsTrue}
use Rattle.scc_base.specs.Heads.{MessageHead}
use Rattle.scc_base.specs.declared.events.Spot.{Spot}
use Rattle.scc_base.specs.declared.events.Turn.{Turn}
use Rattle.scc_base.specs.declared.events.Turn.TheVariants as turn
use Rattle.scc_proto.specs.Ports.{Sight, record_in}
use Rattle.put_get.specs.Cores.{Private}
use Rattle.send_recv.specs.Ops.{RecvAt, SendAt, SlotAt}
use Rattle.send_recv.specs.Receiving.{RecvStands, RecvTurned, recv_waits}
use Rattle.send_recv.specs.Sending.{SendStands, SendTurned, SlotStands, SlotTurned}
use Rattle.send_recv.specs.declared.answers.RecvTurn.{RecvTurn}
use Rattle.send_recv.specs.declared.answers.RecvTurn.TheVariants as receive
use Rattle.send_recv.specs.Ranks.{receiving, sending, holding_slot}
use Rattle.sync_flags.specs.Turns.{waits_at}
use Rattle.barrier.specs.Stages.{BarAt, BarStands, meeting}
use Rattle.barrier.specs.Turns.{BarTurned}
use Rattle.script_machine.specs.Local.{Local, local_next}
use Rattle.script_machine.specs.Moves.{bytes_out, is_passable, is_receiving, is_stopped, length_asked, went}
use Rattle.script_machine.specs.Next.{Next, is_going}
use Rattle.script_machine.specs.Next.Next.{Ends, Goes, Posts, Sends, Recvs, Bars}
use Rattle.rcce_ue.specs.Passing.{ue_after_call, ue_after_receive, ue_past_call, ue_past_mismatch, ue_past_receive, told_by_call, told_by_receive}
use Rattle.rcce_ue.specs.Standing.{IsBarOf, IsRecvOf, IsSendOf, Tied}
use Rattle.rcce_ue.specs.Turns.{Turns}
use Rattle.rcce_ue.specs.Ues.{UeView, at_next_call}
use Rattle.rcce_ue.specs.declared.calls.Open.TheVariants.{Nothing, Sending, Receiving, Meeting}
use Rattle.rcce_ue.proofs.AloneTurns.{alone_goes, slot_turns, stopped_done}
use Rattle.rcce_ue.proofs.BarTurns.{bar_done, bar_moved, bar_waited}
use Rattle.rcce_ue.proofs.Carry.{carry}
use Rattle.rcce_ue.proofs.RecvTurns.{recv_done, recv_moved, recv_refused, recv_waited}
use Rattle.rcce_ue.proofs.SendTurns.{send_done, send_moved, send_waited}

module _ (ue old now : UeView) (s t : Sight) where
  module _ (op next : SendAt) (d : Private) (after : SlotAt) (bytes : List ℕ) (before : old ≡ record ue { op = Sending op }) (out : bytes ≡ bytes_out (local_next ue.machine.local)) (tied : Tied old s)
      (stands : SendStands t d next after bytes) where
    send_stands : SendStands t d next after (bytes_out (local_next ue.machine.local))
    send_stands = subst (λ (x : List ℕ). SendStands t d next after x) out stands

    send_turned : (answer : Turn) → SendTurned (sending s ue.core op ue.slot bytes) (sending t d next after bytes) answer → SendTurned (sending s ue.core op ue.slot (bytes_out (local_next ue.machine.local))) (sending t d next after (bytes_out (local_next ue.machine.local))) answer
    send_turned answer r = subst (λ (x : List ℕ). SendTurned (sending s ue.core op ue.slot x) (sending t d next after x) answer) out r

    pub sending_moved : now ≡ record ue { core = d; slot = after; op = Sending next } → SendTurned (sending s ue.core op ue.slot bytes) (sending t d next after bytes) turn.Moved → Turns old s now t turn.Moved
    sending_moved is r = carry old (record ue { op = Sending op }) now (record ue { core = d; slot = after; op = Sending next }) s t turn.Moved before is tied
        (λ there. send_moved ue s t op there d next after send_stands (send_turned turn.Moved r))

    pub sending_waited : (spot : Spot) → now ≡ record ue { core = d; slot = after; op = Sending next } → SendTurned (sending s ue.core op ue.slot bytes) (sending t d next after bytes) (turn.Waiting spot) → Turns old s now t (turn.Waiting spot)
    sending_waited spot is r = carry old (record ue { op = Sending op }) now (record ue { core = d; slot = after; op = Sending next }) s t (turn.Waiting spot) before is tied
        (λ there. send_waited ue s t op there d next after send_stands spot (send_turned (turn.Waiting spot) r))

    pub sending_done : now ≡ ue_past_call (record ue { core = d; slot = after; op = Sending next }) → SendTurned (sending s ue.core op ue.slot bytes) (sending t d next after bytes) turn.Done → Turns old s now t turn.Moved
    sending_done is r = carry old (record ue { op = Sending op }) now (ue_past_call (record ue { core = d; slot = after; op = Sending next })) s t turn.Moved before is tied
        (λ there. send_done ue s t op there d next after send_stands (send_turned turn.Done r))

    sending_by : (answer : Turn) → now ≡ ue_after_call answer (record ue { core = d; slot = after; op = Sending next }) → SendTurned (sending s ue.core op ue.slot bytes) (sending t d next after bytes) answer → Turns old s now t (told_by_call answer)
    sending_by turn.Moved is r = sending_moved is r
    sending_by (turn.Waiting spot) is r = sending_waited spot is r
    sending_by turn.Done is r = sending_done is r

    pub sending_turns : (answer told : Turn) → told ≡ told_by_call answer → now ≡ ue_after_call answer (record ue { core = d; slot = after; op = Sending next })
        → SendTurned (sending s ue.core op ue.slot bytes) (sending t d next after bytes) answer → Turns old s now t told
    sending_turns answer told tells is r = subst (λ (x : Turn). Turns old s now t x) (sym tells) (sending_by answer is r)

  passes_by : (op : SendAt) (n : Next Local) → IsSendOf op n → IsTrue (is_passable n)
  passes_by op Ends of = absurd of
  passes_by op (Goes after) of = absurd of
  passes_by op (Posts message after) of = refl
  passes_by op (Sends to head bytes after) of = refl
  passes_by op (Recvs from head take_in refuse) of = absurd of
  passes_by op (Bars comm after) of = absurd of

  -- the call that stands next can be passed
  pub send_passes : (op : SendAt) → old ≡ record ue { op = Sending op } → Tied old s → IsTrue (is_passable (local_next ue.machine.local))
  send_passes op before tied = let there : Tied (record ue { op = Sending op }) s = subst (λ (x : UeView). Tied x s) before tied in passes_by op (local_next ue.machine.local) there.stands.1

  bar_passes_by : (op : BarAt) (n : Next Local) → IsBarOf op n → IsTrue (is_passable n)
  bar_passes_by op Ends of = absurd of
  bar_passes_by op (Goes after) of = absurd of
  bar_passes_by op (Posts message after) of = absurd of
  bar_passes_by op (Sends to head bytes after) of = absurd of
  bar_passes_by op (Recvs from head take_in refuse) of = absurd of
  bar_passes_by op (Bars comm after) of = refl

  pub bar_passes : (op : BarAt) → old ≡ record ue { op = Meeting op } → Tied old s → IsTrue (is_passable (local_next ue.machine.local))
  bar_passes op before tied = let there : Tied (record ue { op = Meeting op }) s = subst (λ (x : UeView). Tied x s) before tied in bar_passes_by op (local_next ue.machine.local) there.stands.1

  -- the front of the inbox holds the message
  module _ (op : RecvAt) (before : old ≡ record ue { op = Receiving op }) (tied : Tied old s) where
    there_recv : Tied (record ue { op = Receiving op }) s
    there_recv = subst (λ (x : UeView). Tied x s) before tied

    asked_by : (n : Next Local) → IsRecvOf op n → op.head.len ≡ length_asked n
    asked_by Ends of = absurd of
    asked_by (Goes after) of = absurd of
    asked_by (Posts message after) of = absurd of
    asked_by (Sends to head bytes after) of = absurd of
    asked_by (Recvs from head take_in refuse) of = ap (λ (h : MessageHead). h.len) of.1
    asked_by (Bars comm after) of = absurd of

    pub asked : op.head.len ≡ length_asked (local_next ue.machine.local)
    asked = asked_by (local_next ue.machine.local) there_recv.stands.1

    receives_by : (n : Next Local) → IsRecvOf op n → IsTrue (is_receiving n)
    receives_by Ends of = absurd of
    receives_by (Goes after) of = absurd of
    receives_by (Posts message after) of = absurd of
    receives_by (Sends to head bytes after) of = absurd of
    receives_by (Recvs from head take_in refuse) of = refl
    receives_by (Bars comm after) of = absurd of

    pub receives : IsTrue (is_receiving (local_next ue.machine.local))
    receives = receives_by (local_next ue.machine.local) there_recv.stands.1

    pub head_fits : op.head.len ≤ length ue.inbox
    head_fits =
        let room = there_recv.room in
        let within = there_recv.stands.0.head.len_within in
        omega (arith, room, within)

    pub recv_fits : length_asked (local_next ue.machine.local) ≤ length ue.inbox
    recv_fits = subst (λ (n : ℕ). n ≤ length ue.inbox) asked head_fits

    pub recv_before : RecvStands s ue.core op (take op.head.len ue.inbox)
    recv_before = subst (λ (n : ℕ). RecvStands s ue.core op (take n ue.inbox)) (sym asked) there_recv.stands.0

    module _ (next : RecvAt) (d : Private) (inbox : List ℕ) (room : length inbox ≡ length ue.inbox) (stands : RecvStands t d next (take op.head.len inbox)) where
      recv_stands : RecvStands t d next (take (length_asked (local_next ue.machine.local)) inbox)
      recv_stands = subst (λ (n : ℕ). RecvStands t d next (take n inbox)) asked stands

      abbrev TurnedIn : RecvTurn → Type 0
      TurnedIn answer = RecvTurned (receiving s ue.core op (take op.head.len ue.inbox)) (receiving t d next (take op.head.len inbox)) answer

      recv_turned : (answer : RecvTurn) → TurnedIn answer
          → RecvTurned (receiving s ue.core op (take (length_asked (local_next ue.machine.local)) ue.inbox)) (receiving t d next (take (length_asked (local_next ue.machine.local)) inbox)) answer
      recv_turned answer r = subst (λ (n : ℕ). RecvTurned (receiving s ue.core op (take n ue.inbox)) (receiving t d next (take n inbox)) answer) asked r

      large : length inbox ≡ 65536
      large = room ∙ there_recv.room

      pub receiving_moved : now ≡ record ue { core = d; op = Receiving next; inbox = inbox } → TurnedIn receive.Moved → Turns old s now t turn.Moved
      receiving_moved is r = carry old (record ue { op = Receiving op }) now (record ue { core = d; op = Receiving next; inbox = inbox }) s t turn.Moved before is tied
          (λ there. recv_moved ue s t op there d next inbox large recv_stands (recv_turned receive.Moved r))

      pub receiving_waited : (spot : Spot) → now ≡ record ue { core = d; op = Receiving next; inbox = inbox } → TurnedIn (receive.Waiting spot)
          → Turns old s now t (turn.Waiting spot)
      receiving_waited spot is r = carry old (record ue { op = Receiving op }) now (record ue { core = d; op = Receiving next; inbox = inbox }) s t (turn.Waiting spot) before is tied
          (λ there. recv_waited ue s t op there d next inbox large recv_stands spot (recv_turned (receive.Waiting spot) r))

      pub receiving_done : now ≡ ue_past_receive (record ue { core = d; op = Receiving next; inbox = inbox }) → TurnedIn receive.Done → Turns old s now t turn.Moved
      receiving_done is r = carry old (record ue { op = Receiving op }) now (ue_past_receive (record ue { core = d; op = Receiving next; inbox = inbox })) s t turn.Moved before is tied
          (λ there. recv_done ue s t op there d next inbox large recv_stands (recv_turned receive.Done r))

      pub receiving_refused : (sent : MessageHead) → now ≡ ue_past_mismatch sent (record ue { core = d; op = Receiving next; inbox = inbox }) → TurnedIn (receive.Mismatch sent) → Turns old s now t turn.Moved
      receiving_refused sent is r = carry old (record ue { op = Receiving op }) now (ue_past_mismatch sent (record ue { core = d; op = Receiving next; inbox = inbox })) s t turn.Moved before is tied
          (λ there. recv_refused ue s t op there d next inbox large recv_stands sent (recv_turned (receive.Mismatch sent) r))

      receiving_by : (answer : RecvTurn) → now ≡ ue_after_receive answer (record ue { core = d; op = Receiving next; inbox = inbox }) → TurnedIn answer → Turns old s now t (told_by_receive answer)
      receiving_by receive.Moved is r = receiving_moved is r
      receiving_by (receive.Waiting spot) is r = receiving_waited spot is r
      receiving_by receive.Done is r = receiving_done is r
      receiving_by (receive.Mismatch sent) is r = receiving_refused sent is r

      pub receiving_turns : (answer : RecvTurn) (told : Turn) → told ≡ told_by_receive answer → now ≡ ue_after_receive answer (record ue { core = d; op = Receiving next; inbox = inbox }) → TurnedIn answer → Turns old s now t told
      receiving_turns answer told tells is r = subst (λ (x : Turn). Turns old s now t x) (sym tells) (receiving_by answer is r)

  module _ (op next : BarAt) (d : Private) (values : List Bool) (before : old ≡ record ue { op = Meeting op }) (tied : Tied old s) (stands : BarStands t d next values) where
    pub meeting_moved : now ≡ record ue { core = d; parity = values; op = Meeting next } → BarTurned (meeting s ue.core op ue.parity) (meeting t d next values) turn.Moved → Turns old s now t turn.Moved
    meeting_moved is r = carry old (record ue { op = Meeting op }) now (record ue { core = d; parity = values; op = Meeting next }) s t turn.Moved before is tied
        (λ there. bar_moved ue s t op there d next values stands r)

    pub meeting_waited : (spot : Spot) → now ≡ record ue { core = d; parity = values; op = Meeting next } → BarTurned (meeting s ue.core op ue.parity) (meeting t d next values) (turn.Waiting spot) → Turns old s now t (turn.Waiting spot)
    meeting_waited spot is r = carry old (record ue { op = Meeting op }) now (record ue { core = d; parity = values; op = Meeting next }) s t (turn.Waiting spot) before is tied
        (λ there. bar_waited ue s t op there d next values stands spot r)

    pub meeting_done : now ≡ ue_past_call (record ue { core = d; parity = values; op = Meeting next }) → BarTurned (meeting s ue.core op ue.parity) (meeting t d next values) turn.Done → Turns old s now t turn.Moved
    meeting_done is r = carry old (record ue { op = Meeting op }) now (ue_past_call (record ue { core = d; parity = values; op = Meeting next })) s t turn.Moved before is tied
        (λ there. bar_done ue s t op there d next values stands r)

    meeting_by : (answer : Turn) → now ≡ ue_after_call answer (record ue { core = d; parity = values; op = Meeting next }) → BarTurned (meeting s ue.core op ue.parity) (meeting t d next values) answer → Turns old s now t (told_by_call answer)
    meeting_by turn.Moved is r = meeting_moved is r
    meeting_by (turn.Waiting spot) is r = meeting_waited spot is r
    meeting_by turn.Done is r = meeting_done is r

    pub meeting_turns : (answer told : Turn) → told ≡ told_by_call answer → now ≡ ue_after_call answer (record ue { core = d; parity = values; op = Meeting next })
        → BarTurned (meeting s ue.core op ue.parity) (meeting t d next values) answer → Turns old s now t told
    meeting_turns answer told tells is r = subst (λ (x : Turn). Turns old s now t x) (sym tells) (meeting_by answer is r)

-- no call is open
module _ (ue old now : UeView) (s : Sight) (before : old ≡ record ue { op = Nothing }) (tied : Tied old s) where
  abbrev went_ue : UeView
  went_ue = at_next_call (record ue { machine = record ue.machine { local = went (local_next ue.machine.local) ue.machine.local } })

  pub alone_went : now ≡ went_ue → is_going (local_next ue.machine.local) ≡ true → Turns old s now s turn.Moved
  alone_went is going = carry old (record ue { op = Nothing }) now went_ue s s turn.Moved before is tied (λ there. alone_goes ue s there going)

  pub alone_stopped : now ≡ record ue { op = Nothing } → is_stopped ue.machine.local ≡ true → Turns old s now s turn.Done
  alone_stopped is stopped = carry old (record ue { op = Nothing }) now (record ue { op = Nothing }) s s turn.Done before is tied (λ there. stopped_done ue s there stopped)

  pub alone_slot : (t : Sight) (d : Private) (slot : SlotAt) (answer : Turn) → now ≡ record ue { core = d; slot = slot; op = Nothing } → is_going (local_next ue.machine.local) ≡ false → is_stopped ue.machine.local ≡ false
      → SlotStands t.seat (record_in t) slot → SlotTurned (holding_slot s ue.core ue.slot) (holding_slot t d slot) answer → Turns old s now t answer
  alone_slot t d slot answer is idle on stands r = carry old (record ue { op = Nothing }) now (record ue { core = d; slot = slot; op = Nothing }) s t answer before is tied
      (λ there. slot_turns ue s there idle on t d slot stands answer r)

-- where the UE waits, its call waits there
waits_by : (answer : Turn) (spot : Spot) → waits_at (told_by_call answer) ≡ Some spot → waits_at answer ≡ Some spot
waits_by turn.Moved spot is = is
waits_by (turn.Waiting at) spot is = is
waits_by turn.Done spot is = absurd (cc (is))

pub call_waits : (answer told : Turn) (spot : Spot) → told ≡ told_by_call answer → waits_at told ≡ Some spot → waits_at answer ≡ Some spot
call_waits answer told spot tells is = waits_by answer spot (ap waits_at (sym tells) ∙ is)

receive_waits_by : (answer : RecvTurn) (spot : Spot) → waits_at (told_by_receive answer) ≡ Some spot → recv_waits answer ≡ Some spot
receive_waits_by receive.Moved spot is = absurd (cc (is))
receive_waits_by (receive.Waiting at) spot is = is
receive_waits_by receive.Done spot is = absurd (cc (is))
receive_waits_by (receive.Mismatch sent) spot is = absurd (cc (is))

pub receive_waits : (answer : RecvTurn) (told : Turn) (spot : Spot) → told ≡ told_by_receive answer → waits_at told ≡ Some spot → recv_waits answer ≡ Some spot
receive_waits answer told spot tells is = receive_waits_by answer spot (ap waits_at (sym tells) ∙ is)

-- a turn that does not wait waits nowhere
pub waits_nowhere : (spot : Spot) → waits_at turn.Moved ≡ Some spot → ⊥
waits_nowhere spot is = cc (is)
