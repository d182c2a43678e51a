use Rattle.std.proofs.Common.{◌≡◌, sym, ap, ◌∙◌}
use Rattle.script_machine.specs.Machine.{MachineView}
use Rattle.rcce_ue.specs.Ues.{UeView, at_next_call}
use Rattle.rcce_ue.specs.declared.calls.Open.TheVariants.{Nothing}
use Rattle.rcce_ue.proofs.OpAnswers.{alone_slot, alone_stopped, alone_went, waits_nowhere}
use Rattle.rcce_ue.proofs.ues.Ue.turn_alone.Goals as goal

pub returns-then-is_going : goal.returns-then-is_going
returns-then-is_going g c =
    let b : UeView = record { machine = c.self.inside.machine; core = c.self.inside.core; slot = c.self.inside.slot; parity = c.self.inside.parity; op = c.self.inside.op; inbox = c.self.inside.inbox.items; posted = c.self.inside.posted; sent = c.self.inside.sent; sent_bytes = c.self.inside.sent_bytes } in
    let none : b.op ≡ Nothing = ap (λ (x : UeView). x.op) c.self.view_is ∙ c.requires.alone in
    let before = sym c.self.view_is ∙ (λ i. record b { op = none i }) in
    let done = alone_went b c.args.self.now _ (g.P.Port.sight c.args.port.now) before c.requires.tied
    (c.enter.ensures ∙ ap (λ (m : MachineView). at_next_call (record b { machine = m })) c.go.ensures) (sym c.is_going.ensures ∙ c.if-is_going.true) in
    record { tied = done.tied; turned = done.turned; steps = λ spot is. absurd (waits_nowhere spot is) }

pub returns-then-is_stopped : goal.returns-then-is_stopped
returns-then-is_stopped g c =
    let b : UeView = record { machine = c.self.inside.machine; core = c.self.inside.core; slot = c.self.inside.slot; parity = c.self.inside.parity; op = c.self.inside.op; inbox = c.self.inside.inbox.items; posted = c.self.inside.posted; sent = c.self.inside.sent; sent_bytes = c.self.inside.sent_bytes } in
    let none : b.op ≡ Nothing = ap (λ (x : UeView). x.op) c.self.view_is ∙ c.requires.alone in
    let before = sym c.self.view_is ∙ (λ i. record b { op = none i }) in
    let done = alone_stopped b c.args.self.now c.args.self.now (g.P.Port.sight c.args.port.now) before c.requires.tied before (sym c.is_stopped.ensures ∙ c.if-is_stopped.true) in
    record { tied = done.tied; turned = done.turned; steps = λ spot is. absurd (waits_nowhere spot is) }

pub returns : goal.returns
returns g c =
    let b : UeView = record { machine = c.self.inside.machine; core = c.self.inside.core; slot = c.self.inside.slot; parity = c.self.inside.parity; op = c.self.inside.op; inbox = c.self.inside.inbox.items; posted = c.self.inside.posted; sent = c.self.inside.sent; sent_bytes = c.self.inside.sent_bytes } in
    let none : b.op ≡ Nothing = ap (λ (x : UeView). x.op) c.self.view_is ∙ c.requires.alone in
    let before = sym c.self.view_is ∙ (λ i. record b { op = none i }) in
    let done = alone_slot b c.args.self.now _ (g.P.Port.sight c.args.port.now) before c.requires.tied (g.P.Port.sight c.turn.new.port) c.turn.new.core c.turn.new.self c.turn.result
    (λ i. record b { core = c.turn.new.core; slot = c.turn.new.self; op = none i })
    (sym c.is_going.ensures ∙ c.if-is_going.false) (sym c.is_stopped.ensures ∙ c.if-is_stopped.false) c.turn.ensures.stands c.turn.ensures.turned in
    record { tied = done.tied; turned = done.turned; steps = c.turn.ensures.steps }
