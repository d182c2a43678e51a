-- What a turn of the call that stands next leaves of its UE: where the call has ended, the UE goes past it.
use Rattle.std.specs.Prelude.{◌+◌, length, take}
use Rattle.scc_base.specs.Heads.{MessageHead}
use Rattle.scc_base.specs.declared.events.Turn.{Turn}
use Rattle.scc_base.specs.declared.events.Turn.TheVariants as turn
use Rattle.send_recv.specs.declared.answers.RecvTurn.{RecvTurn}
use Rattle.send_recv.specs.declared.answers.RecvTurn.TheVariants as receive
use Rattle.script_machine.specs.Local.{local_next}
use Rattle.script_machine.specs.Moves.{after_pass, after_refusal, after_take, bytes_out, length_asked}
use Rattle.rcce_ue.specs.Ues.{UeView, at_next_call, capped_count, posted_by}
use Rattle.rcce_ue.specs.declared.calls.Open.{Open}
use Rattle.rcce_ue.specs.declared.calls.Open.TheVariants.{Nothing, Sending, Receiving, Meeting}

-- with the message of the call that stands next, where a send or a post is open: it is counted, and a post is kept
abbrev pub with_message_sent : Open → UeView → UeView
with_message_sent Nothing ue = ue
with_message_sent (Sending op) ue = record ue {
  posted = posted_by (local_next ue.machine.local) ue.posted;
  sent = capped_count (ue.sent + 1);
  sent_bytes = capped_count (ue.sent_bytes + length (bytes_out (local_next ue.machine.local)));
}
with_message_sent (Receiving op) ue = ue
with_message_sent (Meeting op) ue = ue

-- behind the send, the post or the barrier that stands next
abbrev pub ue_past_call : UeView → UeView
ue_past_call ue = at_next_call (record (with_message_sent ue.op ue) {
  machine = record ue.machine { local = after_pass (local_next ue.machine.local) ue.machine.local };
})

-- behind the receive that stands next, with the message in front of the inbox
abbrev pub ue_past_receive : UeView → UeView
ue_past_receive ue = at_next_call (record ue {
  machine = record ue.machine {
    local = after_take (local_next ue.machine.local) (take (length_asked (local_next ue.machine.local)) ue.inbox) ue.machine.local;
  };
})

-- stopped at the receive that stands next, where a message with this other head came
abbrev pub ue_past_mismatch : MessageHead → UeView → UeView
ue_past_mismatch sent ue = at_next_call (record ue {
  machine = record ue.machine { local = after_refusal (local_next ue.machine.local) sent ue.machine.local };
})

-- what is left by a turn of a send, a post or a barrier
abbrev pub ue_after_call : Turn → UeView → UeView
ue_after_call turn.Moved ue = ue
ue_after_call (turn.Waiting spot) ue = ue
ue_after_call turn.Done ue = ue_past_call ue

-- what is left by a turn of a receive
abbrev pub ue_after_receive : RecvTurn → UeView → UeView
ue_after_receive receive.Moved ue = ue
ue_after_receive (receive.Waiting spot) ue = ue
ue_after_receive receive.Done ue = ue_past_receive ue
ue_after_receive (receive.Mismatch sent) ue = ue_past_mismatch sent ue

-- what the turn tells for the UE, which has moved where its call has ended
abbrev pub told_by_call : Turn → Turn
told_by_call turn.Moved = turn.Moved
told_by_call (turn.Waiting spot) = turn.Waiting spot
told_by_call turn.Done = turn.Moved

-- the same of a receive
abbrev pub told_by_receive : RecvTurn → Turn
told_by_receive receive.Moved = turn.Moved
told_by_receive (receive.Waiting spot) = turn.Waiting spot
told_by_receive receive.Done = turn.Moved
told_by_receive (receive.Mismatch sent) = turn.Moved
