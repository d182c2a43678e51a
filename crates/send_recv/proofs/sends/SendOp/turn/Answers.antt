use Rattle.std.proofs.Common.{◌≡◌, ◌≢◌, ℕ, true, false, List, Option, Some, None, is_some, refl, sym, ◌∙◌, ap, subst}
use Rattle.scc_base.specs.declared.events.Turn.{Turn}
use Rattle.scc_proto.specs.Ports.{Sight}
use Rattle.put_get.specs.Cores.{Private}
use Rattle.send_recv.specs.Ops.{SendAt, SlotAt}
use Rattle.send_recv.specs.Steps.{moves_on}
use Rattle.send_recv.proofs.Posts.SlotTurns.{waiting_stops}
use Rattle.send_recv.proofs.Sending.SendFacts.{SendTurns}
use Rattle.send_recv.proofs.Sending.SendWrites.{header_turn}
use Rattle.send_recv.proofs.Sending.SendLines.{may_write_line, line_turn, may_flush, flush_turn}
use Rattle.send_recv.proofs.Sending.SendMoves.{may_raise_sent}
use Rattle.send_recv.proofs.Sending.SendRaiseTurn.{raise_turn}
use Rattle.send_recv.proofs.Sending.SendLooks.{look_turn}
use Rattle.send_recv.proofs.Sending.SendLowers.{may_lower_turn, lower_turn}
use Rattle.send_recv.proofs.Sending.SendEnds.{slot_turn, finished_turn}
use Rattle.send_recv.proofs.sends.SendOp.turn.Goals as goal

-- a turn, where the op and the slot after it and the answer are known by equations
at_answer : (s t : Sight) (c d : Private) (op : SendAt) (slot : SlotAt) (bytes : List ℕ) (now known : SendAt) (after held : SlotAt) (answer told : Turn) → now ≡ known → after ≡ held → answer ≡ told
    → SendTurns s c op slot bytes t d known held told → SendTurns s c op slot bytes t d now after answer
at_answer s t c d op slot bytes now known after held answer told n h a turns =
    subst (λ (x : SendAt). SendTurns s c op slot bytes t d x after answer) (sym n)
    (subst (λ (y : SlotAt). SendTurns s c op slot bytes t d known y answer) (sym h) (subst (λ (x : Turn). SendTurns s c op slot bytes t d known held x) (sym a) turns))

full_slot : (o : Option ℕ) → is_some o ≡ true → o ≢ None
full_slot None full e = absurd (cc)
full_slot (Some to) full e = absurd (cc)

empty_slot : (o : Option ℕ) → is_some o ≡ false → o ≡ None
empty_slot None empty = refl
empty_slot (Some to) empty = absurd (cc)

pub write_line-requires : goal.write_line-requires
write_line-requires g c =
    let may = may_write_line (g.P.Port.sight c.args.port.now) c.args.core.now c.args.self.now c.args.slot.now c.args.bytes.now c.in-Lines.line c.known.ensures.valid c.requires.stands (ap (λ (x : SendAt). x.stage) (sym c.self.view_is) ∙ c.in-Lines.is) in
    record { in_chunk = may.in_chunk; other = may.other; permitted = may.permitted }

pub flush_lines-requires : goal.flush_lines-requires
flush_lines-requires g c = record {
  permitted = may_flush (g.P.Port.sight c.args.port.now) c.args.core.now c.args.self.now c.args.slot.now c.args.bytes.now c.known.ensures.valid c.requires.stands (ap (λ (x : SendAt). x.stage) (sym c.self.view_is) ∙ c.in-Flush.is);
}

pub raise_sent-requires-clause-may : goal.raise_sent-requires-clause-may
raise_sent-requires-clause-may g c = may_raise_sent (g.P.Port.sight c.args.port.now) c.args.core.now c.args.self.now c.args.slot.now c.args.bytes.now c.known.ensures.valid c.known_bytes.ensures.small c.requires.stands (ap (λ (x : SendAt). x.stage) (sym c.self.view_is) ∙ c.in-Raise.is)

pub lower_ready-requires-clause-may : goal.lower_ready-requires-clause-may
lower_ready-requires-clause-may g c = may_lower_turn (g.P.Port.sight c.args.port.now) c.args.core.now c.args.self.now c.args.slot.now c.args.bytes.now c.known.ensures.valid c.requires.stands (ap (λ (x : SendAt). x.stage) (sym c.self.view_is) ∙ c.in-Lower.is)

pub returns-then-is_some : goal.returns-then-is_some
returns-then-is_some g c =
    let turns =
    slot_turn (g.P.Port.sight c.args.port.now) (g.P.Port.sight c.turn.new.port) c.args.core.now c.turn.new.core c.args.self.now c.args.slot.now c.turn.new.self c.args.bytes.now c.turn.result c.requires.stands (ap (λ (x : SendAt). x.stage) (sym c.self.view_is) ∙ c.in-Header.is)
    (full_slot c.args.slot.now.to (ap is_some (sym c.holds.ensures.gives) ∙ sym c.is_some.ensures ∙ c.if-is_some.true)) c.turn.ensures.stands c.turn.ensures.turned in
    record { stands = turns.stands; turned = turns.turned; steps = c.turn.ensures.steps }

pub returns-else-is_some : goal.returns-else-is_some
returns-else-is_some g c =
    let turns =
    at_answer (g.P.Port.sight c.args.port.now) (g.P.Port.sight c.write_header.new.port) c.args.core.now c.write_header.new.core c.args.self.now c.args.slot.now c.args.bytes.now _ _ _ _ _ _ c.write_header.ensures.next refl c.write_header.ensures.answers
    (header_turn (g.P.Port.sight c.args.port.now) (g.P.Port.sight c.write_header.new.port) c.args.core.now c.write_header.new.core c.args.self.now c.args.slot.now c.args.bytes.now c.requires.stands (ap (λ (x : SendAt). x.stage) (sym c.self.view_is) ∙ c.in-Header.is)
    (empty_slot c.args.slot.now.to (ap is_some (sym c.holds.ensures.gives) ∙ sym c.is_some.ensures ∙ c.if-is_some.false)) c.write_header.ensures.writes) in
    record { stands = turns.stands; turned = turns.turned; steps = λ spot e. absurd (cc (sym (ap moves_on c.write_header.ensures.answers) ∙ waiting_stops c.write_header.result spot e)) }

pub returns-in-Lines : goal.returns-in-Lines
returns-in-Lines g c =
    let turns =
    at_answer (g.P.Port.sight c.args.port.now) (g.P.Port.sight c.write_line.new.port) c.args.core.now c.write_line.new.core c.args.self.now c.args.slot.now c.args.bytes.now _ _ _ _ _ _ c.write_line.ensures.next refl c.write_line.ensures.answers
    (line_turn (g.P.Port.sight c.args.port.now) (g.P.Port.sight c.write_line.new.port) c.args.core.now c.write_line.new.core c.args.self.now c.args.slot.now c.args.bytes.now c.in-Lines.line c.known.ensures.valid c.requires.stands
    (ap (λ (x : SendAt). x.stage) (sym c.self.view_is) ∙ c.in-Lines.is) c.write_line.ensures.writes) in
    record { stands = turns.stands; turned = turns.turned; steps = λ spot e. absurd (cc (sym (ap moves_on c.write_line.ensures.answers) ∙ waiting_stops c.write_line.result spot e)) }

pub returns-in-Flush : goal.returns-in-Flush
returns-in-Flush g c =
    let turns =
    at_answer (g.P.Port.sight c.args.port.now) (g.P.Port.sight c.flush_lines.new.port) c.args.core.now c.flush_lines.new.core c.args.self.now c.args.slot.now c.args.bytes.now _ _ _ _ _ _ c.flush_lines.ensures.next refl c.flush_lines.ensures.answers
    (flush_turn (g.P.Port.sight c.args.port.now) (g.P.Port.sight c.flush_lines.new.port) c.args.core.now c.flush_lines.new.core c.args.self.now c.args.slot.now c.args.bytes.now c.known.ensures.valid c.requires.stands
    (ap (λ (x : SendAt). x.stage) (sym c.self.view_is) ∙ c.in-Flush.is) c.flush_lines.ensures.flushes) in
    record { stands = turns.stands; turned = turns.turned; steps = λ spot e. absurd (cc (sym (ap moves_on c.flush_lines.ensures.answers) ∙ waiting_stops c.flush_lines.result spot e)) }

pub returns-in-Raise : goal.returns-in-Raise
returns-in-Raise g c =
    let turns =
    at_answer (g.P.Port.sight c.args.port.now) (g.P.Port.sight c.raise_sent.new.port) c.args.core.now c.raise_sent.new.core c.args.self.now c.args.slot.now c.args.bytes.now _ _ _ _ _ _ c.raise_sent.ensures.next c.raise_sent.ensures.fills c.raise_sent.ensures.answers
    (raise_turn (moves_on c.raise_sent.result) (g.P.Port.sight c.args.port.now) (g.P.Port.sight c.raise_sent.new.port) c.args.core.now c.raise_sent.new.core c.args.self.now c.args.slot.now c.args.bytes.now c.known.ensures.valid c.known_bytes.ensures.small c.requires.stands
    (ap (λ (x : SendAt). x.stage) (sym c.self.view_is) ∙ c.in-Raise.is) c.raise_sent.ensures.changes) in
    record { stands = turns.stands; turned = turns.turned; steps = λ spot e. c.raise_sent.ensures.steps (waiting_stops c.raise_sent.result spot e) }

pub returns-in-Look : goal.returns-in-Look
returns-in-Look g c =
    let turns =
    at_answer (g.P.Port.sight c.args.port.now) (g.P.Port.sight c.look_ready.new.port) c.args.core.now c.look_ready.new.core c.args.self.now c.args.slot.now c.args.bytes.now _ _ _ _ _ _ c.look_ready.ensures.next refl c.look_ready.ensures.answers
    (look_turn (moves_on c.look_ready.result) (g.P.Port.sight c.args.port.now) (g.P.Port.sight c.look_ready.new.port) c.args.core.now c.look_ready.new.core c.args.self.now c.args.slot.now c.args.bytes.now c.known.ensures.valid c.requires.stands
    (ap (λ (x : SendAt). x.stage) (sym c.self.view_is) ∙ c.in-Look.is) c.look_ready.ensures.looks) in
    record { stands = turns.stands; turned = turns.turned; steps = λ spot e. c.look_ready.ensures.steps }

pub returns-in-Lower : goal.returns-in-Lower
returns-in-Lower g c =
    let turns =
    at_answer (g.P.Port.sight c.args.port.now) (g.P.Port.sight c.lower_ready.new.port) c.args.core.now c.lower_ready.new.core c.args.self.now c.args.slot.now c.args.bytes.now _ _ _ _ _ _ c.lower_ready.ensures.next refl c.lower_ready.ensures.answers
    (lower_turn (moves_on c.lower_ready.result) (g.P.Port.sight c.args.port.now) (g.P.Port.sight c.lower_ready.new.port) c.args.core.now c.lower_ready.new.core c.args.self.now c.args.slot.now c.args.bytes.now c.known.ensures.valid c.known_bytes.ensures.small c.requires.stands
    (ap (λ (x : SendAt). x.stage) (sym c.self.view_is) ∙ c.in-Lower.is) c.lower_ready.ensures.changes) in
    record { stands = turns.stands; turned = turns.turned; steps = λ spot e. c.lower_ready.ensures.steps (waiting_stops c.lower_ready.result spot e) }

pub returns-in-Finished-clause-turned : goal.returns-in-Finished-clause-turned
returns-in-Finished-clause-turned g c = finished_turn (g.P.Port.sight c.args.port.now) c.args.core.now c.args.self.now c.args.slot.now c.args.bytes.now (ap (λ (x : SendAt). x.stage) (sym c.self.view_is) ∙ c.in-Finished.is)
