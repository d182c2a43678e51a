use Rattle.std.proofs.Common.{◌≡◌, ℕ, ◌≤◌, length, sym, ap, ◌∙◌, subst}
use Rattle.std.proofs.lemmas.List.{with_items_is}
use Rattle.std.specs.Vec.{with_items}
use Rattle.script_machine.specs.Local.{local_next}
use Rattle.script_machine.specs.Moves.{length_asked}
use Rattle.rcce_ue.specs.Passing.{ue_after_receive}
use Rattle.rcce_ue.specs.Ues.{UeView}
use Rattle.rcce_ue.specs.declared.calls.Open.TheVariants.{Receiving}
use Rattle.rcce_ue.proofs.OpAnswers.{bar_passes, call_waits, head_fits, meeting_turns, receive_waits, receives, receiving_turns, recv_before, recv_fits, send_passes, sending_turns}
use Rattle.rcce_ue.proofs.ues.Ue.turn.Goals as goal

pub returns-in-Sending : goal.returns-in-Sending
returns-in-Sending g c =
    let b : UeView = record { machine = c.self.inside.machine; core = c.self.inside.core; slot = c.self.inside.slot; parity = c.self.inside.parity; op = c.self.inside.op; inbox = c.self.inside.inbox.items; posted = c.self.inside.posted; sent = c.self.inside.sent; sent_bytes = c.self.inside.sent_bytes } in
    let done = sending_turns b c.args.self.now _ (g.P.Port.sight c.args.port.now) (g.P.Port.sight c.turn-answer.new.port) c.in-Sending.op c.turn-answer.new.self c.turn-answer.new.core c.turn-answer.new.slot c.bytes.result.now
    (sym c.self.view_is ∙ (λ i. record b { op = c.in-Sending.is i })) c.bytes.ensures c.requires.tied c.turn-answer.ensures.stands c.turn-answer.result c.settle_call.result c.settle_call.ensures.tells c.settle_call.ensures.leaves c.turn-answer.ensures.turned in
    record { tied = done.tied; turned = done.turned; steps = λ spot is. c.turn-answer.ensures.steps spot (call_waits c.turn-answer.result c.settle_call.result spot c.settle_call.ensures.tells is) }

pub settle_call-requires : goal.settle_call-requires
settle_call-requires g c =
    let b : UeView = record { machine = c.self.inside.machine; core = c.self.inside.core; slot = c.self.inside.slot; parity = c.self.inside.parity; op = c.self.inside.op; inbox = c.self.inside.inbox.items; posted = c.self.inside.posted; sent = c.self.inside.sent; sent_bytes = c.self.inside.sent_bytes } in
    send_passes b c.args.self.now c.args.self.now (g.P.Port.sight c.args.port.now) (g.P.Port.sight c.args.port.now) c.in-Sending.op (sym c.self.view_is ∙ (λ i. record b { op = c.in-Sending.is i })) c.requires.tied

pub returns-in-Receiving : goal.returns-in-Receiving
returns-in-Receiving g c =
    let b : UeView = record { machine = c.self.inside.machine; core = c.self.inside.core; slot = c.self.inside.slot; parity = c.self.inside.parity; op = c.self.inside.op; inbox = c.as_mut_slice.result.now; posted = c.self.inside.posted; sent = c.self.inside.sent; sent_bytes = c.self.inside.sent_bytes } in
    let given : length c.as_mut_slice.result.now ≡ length c.self.inside.inbox.items = ap length c.as_mut_slice.ensures.value in
    let room : length c.turn-answer-in-Receiving.new.inbox ≡ length c.as_mut_slice.result.now = c.turn-answer-in-Receiving.auto.inbox in
    let long : length c.turn-answer-in-Receiving.new.inbox ≡ c.self.inside.inbox.len = room ∙ given ∙ sym c.self.inside.inbox.ok.0 in
    let back : (with_items c.self.inside.inbox c.turn-answer-in-Receiving.new.inbox).items ≡ c.turn-answer-in-Receiving.new.inbox = with_items_is c.self.inside.inbox c.turn-answer-in-Receiving.new.inbox long in
    let done = receiving_turns b c.args.self.now _ (g.P.Port.sight c.args.port.now) (g.P.Port.sight c.turn-answer-in-Receiving.new.port) c.in-Receiving.op (sym c.self.view_is ∙ (λ i. record b { op = c.in-Receiving.is i; inbox = sym c.as_mut_slice.ensures.value i })) c.requires.tied
    c.turn-answer-in-Receiving.new.self c.turn-answer-in-Receiving.new.core c.turn-answer-in-Receiving.new.inbox room c.turn-answer-in-Receiving.ensures.stands c.turn-answer-in-Receiving.result c.settle_receive.result c.settle_receive.ensures.tells
    (c.settle_receive.ensures.leaves ∙ (λ i. ue_after_receive c.turn-answer-in-Receiving.result (record b { core = c.turn-answer-in-Receiving.new.core; op = Receiving c.turn-answer-in-Receiving.new.self; inbox = back i }))) c.turn-answer-in-Receiving.ensures.turned in
    record { tied = done.tied; turned = done.turned; steps = λ spot is. c.turn-answer-in-Receiving.ensures.steps spot (receive_waits c.turn-answer-in-Receiving.result c.settle_receive.result spot c.settle_receive.ensures.tells is) }

pub turn-answer-requires-in-Receiving-clause-within : goal.turn-answer-requires-in-Receiving-clause-within
turn-answer-requires-in-Receiving-clause-within g c =
    let b : UeView = record { machine = c.self.inside.machine; core = c.self.inside.core; slot = c.self.inside.slot; parity = c.self.inside.parity; op = c.self.inside.op; inbox = c.as_mut_slice.result.now; posted = c.self.inside.posted; sent = c.self.inside.sent; sent_bytes = c.self.inside.sent_bytes } in
    head_fits b c.args.self.now c.args.self.now (g.P.Port.sight c.args.port.now) (g.P.Port.sight c.args.port.now) c.in-Receiving.op (sym c.self.view_is ∙ (λ i. record b { op = c.in-Receiving.is i; inbox = sym c.as_mut_slice.ensures.value i })) c.requires.tied

pub turn-answer-requires-in-Receiving-clause-stands : goal.turn-answer-requires-in-Receiving-clause-stands
turn-answer-requires-in-Receiving-clause-stands g c =
    let b : UeView = record { machine = c.self.inside.machine; core = c.self.inside.core; slot = c.self.inside.slot; parity = c.self.inside.parity; op = c.self.inside.op; inbox = c.as_mut_slice.result.now; posted = c.self.inside.posted; sent = c.self.inside.sent; sent_bytes = c.self.inside.sent_bytes } in
    recv_before b c.args.self.now c.args.self.now (g.P.Port.sight c.args.port.now) (g.P.Port.sight c.args.port.now) c.in-Receiving.op (sym c.self.view_is ∙ (λ i. record b { op = c.in-Receiving.is i; inbox = sym c.as_mut_slice.ensures.value i })) c.requires.tied

pub settle_receive-requires-clause-at_receive : goal.settle_receive-requires-clause-at_receive
settle_receive-requires-clause-at_receive g c =
    let b : UeView = record { machine = c.self.inside.machine; core = c.self.inside.core; slot = c.self.inside.slot; parity = c.self.inside.parity; op = c.self.inside.op; inbox = c.as_mut_slice.result.now; posted = c.self.inside.posted; sent = c.self.inside.sent; sent_bytes = c.self.inside.sent_bytes } in
    receives b c.args.self.now c.args.self.now (g.P.Port.sight c.args.port.now) (g.P.Port.sight c.args.port.now) c.in-Receiving.op (sym c.self.view_is ∙ (λ i. record b { op = c.in-Receiving.is i; inbox = sym c.as_mut_slice.ensures.value i })) c.requires.tied

pub settle_receive-requires-clause-room : goal.settle_receive-requires-clause-room
settle_receive-requires-clause-room g c =
    let b : UeView = record { machine = c.self.inside.machine; core = c.self.inside.core; slot = c.self.inside.slot; parity = c.self.inside.parity; op = c.self.inside.op; inbox = c.as_mut_slice.result.now; posted = c.self.inside.posted; sent = c.self.inside.sent; sent_bytes = c.self.inside.sent_bytes } in
    let given : length c.as_mut_slice.result.now ≡ length c.self.inside.inbox.items = ap length c.as_mut_slice.ensures.value in
    let room : length c.turn-answer-in-Receiving.new.inbox ≡ length c.as_mut_slice.result.now = c.turn-answer-in-Receiving.auto.inbox in
    let long : length c.turn-answer-in-Receiving.new.inbox ≡ c.self.inside.inbox.len = room ∙ given ∙ sym c.self.inside.inbox.ok.0 in
    let back : (with_items c.self.inside.inbox c.turn-answer-in-Receiving.new.inbox).items ≡ c.turn-answer-in-Receiving.new.inbox = with_items_is c.self.inside.inbox c.turn-answer-in-Receiving.new.inbox long in
    subst (λ (n : ℕ). length_asked (local_next b.machine.local) ≤ n) (sym (ap length back ∙ room))
    (recv_fits b c.args.self.now c.args.self.now (g.P.Port.sight c.args.port.now) (g.P.Port.sight c.args.port.now) c.in-Receiving.op (sym c.self.view_is ∙ (λ i. record b { op = c.in-Receiving.is i; inbox = sym c.as_mut_slice.ensures.value i })) c.requires.tied)

pub returns-in-Meeting : goal.returns-in-Meeting
returns-in-Meeting g c =
    let b : UeView = record { machine = c.self.inside.machine; core = c.self.inside.core; slot = c.self.inside.slot; parity = c.self.inside.parity; op = c.self.inside.op; inbox = c.self.inside.inbox.items; posted = c.self.inside.posted; sent = c.self.inside.sent; sent_bytes = c.self.inside.sent_bytes } in
    let done = meeting_turns b c.args.self.now _ (g.P.Port.sight c.args.port.now) (g.P.Port.sight c.turn-answer-in-Meeting.new.port) c.in-Meeting.op c.turn-answer-in-Meeting.new.self c.turn-answer-in-Meeting.new.core c.turn-answer-in-Meeting.new.parity
    (sym c.self.view_is ∙ (λ i. record b { op = c.in-Meeting.is i })) c.requires.tied c.turn-answer-in-Meeting.ensures.stands c.turn-answer-in-Meeting.result c.settle_call-in-Meeting.result c.settle_call-in-Meeting.ensures.tells c.settle_call-in-Meeting.ensures.leaves c.turn-answer-in-Meeting.ensures.turned in
    record { tied = done.tied; turned = done.turned; steps = λ spot is. c.turn-answer-in-Meeting.ensures.steps spot (call_waits c.turn-answer-in-Meeting.result c.settle_call-in-Meeting.result spot c.settle_call-in-Meeting.ensures.tells is) }

pub settle_call-requires-in-Meeting : goal.settle_call-requires-in-Meeting
settle_call-requires-in-Meeting g c =
    let b : UeView = record { machine = c.self.inside.machine; core = c.self.inside.core; slot = c.self.inside.slot; parity = c.self.inside.parity; op = c.self.inside.op; inbox = c.self.inside.inbox.items; posted = c.self.inside.posted; sent = c.self.inside.sent; sent_bytes = c.self.inside.sent_bytes } in
    bar_passes b c.args.self.now c.args.self.now (g.P.Port.sight c.args.port.now) (g.P.Port.sight c.args.port.now) c.in-Meeting.op (sym c.self.view_is ∙ (λ i. record b { op = c.in-Meeting.is i })) c.requires.tied
