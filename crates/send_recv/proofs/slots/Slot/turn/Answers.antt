use Rattle.std.proofs.Common.{◌≡◌, sym, ◌∙◌, ap, subst}
use Rattle.scc_base.specs.declared.events.Turn.{Turn}
use Rattle.scc_proto.specs.Ports.{Sight}
use Rattle.put_get.specs.Cores.{Private}
use Rattle.send_recv.specs.Ops.{SlotAt}
use Rattle.send_recv.specs.Steps.{moves_on}
use Rattle.send_recv.proofs.Posts.SlotTurns.{SlotTurns, waiting_stops, nothing_turn, may_lower_slot, slot_look_turn, slot_lower_turn}
use Rattle.send_recv.proofs.slots.Slot.turn.Goals as goal

-- a turn, where the slot after it and the answer are known by equations
at_answer : (s t : Sight) (c d : Private) (slot now known : SlotAt) (answer told : Turn) → now ≡ known → answer ≡ told → SlotTurns s c slot t d known told → SlotTurns s c slot t d now answer
at_answer s t c d slot now known answer told n a turns =
    subst (λ (x : SlotAt). SlotTurns s c slot t d x answer) (sym n) (subst (λ (x : Turn). SlotTurns s c slot t d known x) (sym a) turns)

pub lower_ready-requires : goal.lower_ready-requires
lower_ready-requires g c = record {
  may = may_lower_slot (g.P.Port.sight c.args.port.now) c.args.core.now c.args.self.now c.in-Some.to c.known.ensures.valid c.requires.stands c.requires.empty c.requires.hands
      (ap (λ (x : SlotAt). x.to) (sym c.self.view_is) ∙ c.in-Some.is) (ap (λ (x : SlotAt). x.seen) (sym c.self.view_is) ∙ c.if-self.true);
}

pub returns-then-self : goal.returns-then-self
returns-then-self g c =
    let turns =
    at_answer (g.P.Port.sight c.args.port.now) (g.P.Port.sight c.lower_ready.new.port) c.args.core.now c.lower_ready.new.core c.args.self.now _ _ _ _ c.lower_ready.ensures.next c.lower_ready.ensures.answers
    (slot_lower_turn (moves_on c.lower_ready.result) (g.P.Port.sight c.args.port.now) (g.P.Port.sight c.lower_ready.new.port) c.args.core.now c.lower_ready.new.core c.args.self.now c.in-Some.to c.known.ensures.valid c.requires.stands c.requires.empty c.requires.hands
    (ap (λ (x : SlotAt). x.to) (sym c.self.view_is) ∙ c.in-Some.is) (ap (λ (x : SlotAt). x.seen) (sym c.self.view_is) ∙ c.if-self.true) c.lower_ready.ensures.changes) in
    record { stands = turns.stands; turned = turns.turned; steps = λ spot e. c.lower_ready.ensures.steps (waiting_stops c.lower_ready.result spot e) }

pub returns-else-self : goal.returns-else-self
returns-else-self g c =
    let turns =
    at_answer (g.P.Port.sight c.args.port.now) (g.P.Port.sight c.look_ready.new.port) c.args.core.now c.look_ready.new.core c.args.self.now _ _ _ _ c.look_ready.ensures.next c.look_ready.ensures.answers
    (slot_look_turn (moves_on c.look_ready.result) (g.P.Port.sight c.args.port.now) (g.P.Port.sight c.look_ready.new.port) c.args.core.now c.look_ready.new.core c.args.self.now c.in-Some.to c.known.ensures.valid c.requires.stands c.requires.empty c.requires.hands
    (ap (λ (x : SlotAt). x.to) (sym c.self.view_is) ∙ c.in-Some.is) (ap (λ (x : SlotAt). x.seen) (sym c.self.view_is) ∙ c.if-self.false) c.look_ready.ensures.looks) in
    record { stands = turns.stands; turned = turns.turned; steps = λ spot e. c.look_ready.ensures.steps }

pub returns-in-None-clause-turned : goal.returns-in-None-clause-turned
returns-in-None-clause-turned g c =
    nothing_turn (g.P.Port.sight c.args.port.now) c.args.core.now c.args.self.now (ap (λ (x : SlotAt). x.to) (sym c.self.view_is) ∙ c.in-None.is) c.requires.empty
