use Rattle.std.proofs.Common.{◌+◌, ◌%◌, slice_set, slice_index_or, refl, sym, subst}
use Rattle.std.proofs.lemmas.List.{length-set}
use Rattle.run_rows.specs.Rings.{IsAtMessage}
use Rattle.run_rows.specs.declared.rings.Message.TheVariants.{Sending, Receiving, Over}
use Rattle.run_rows.proofs.RingLemmas.{done, met, moved, over, passes_as, passes_to, send_done, send_moved, send_waited, shown, waited}
use Rattle.run_rows.proofs.ring_turns.go_on.Goals as goal

pub returns-in-Moved : goal.returns-in-Moved
returns-in-Moved g c =
    let p = c.args.rank.now in
    let s = g.P.Port.sight c.args.port.now in
    let done = passes_as g.P.Port.stepped p (record p { message = Sending c.in-Sending.op }) s _ _ _ (λ i. record p { message = c.in-Sending.is i }) c.requires.ties
    (λ ties. send_moved g.P.Port.stepped p c.in-Sending.op c.turn.new.self s (g.P.Port.sight c.turn.new.port) c.turn.new.core c.turn.new.slot ties c.in-Moved.ensures.stands c.in-Moved.ensures.turned) in
    record { ties = done.ties; turned = done.turned }

pub returns-in-Waiting : goal.returns-in-Waiting
returns-in-Waiting g c =
    let p = c.args.rank.now in
    let s = g.P.Port.sight c.args.port.now in
    let done = passes_as g.P.Port.stepped p (record p { message = Sending c.in-Sending.op }) s _ _ _ (λ i. record p { message = c.in-Sending.is i }) c.requires.ties
    (λ ties. send_waited g.P.Port.stepped p c.in-Sending.op c.turn.new.self s (g.P.Port.sight c.turn.new.port) c.turn.new.core c.turn.new.slot ties c.in-Waiting.ensures.stands c.in-Waiting.spot c.in-Waiting.ensures.turned (c.in-Waiting.ensures.steps c.in-Waiting.spot refl)) in
    record { ties = done.ties; turned = done.turned }

pub returns-in-Done : goal.returns-in-Done
returns-in-Done g c =
    let p = c.args.rank.now in
    let s = g.P.Port.sight c.args.port.now in
    let done = passes_as g.P.Port.stepped p (record p { message = Sending c.in-Sending.op }) s _ _ _ (λ i. record p { message = c.in-Sending.is i }) c.requires.ties
    (λ ties. send_done g.P.Port.stepped p c.in-Sending.op c.turn.new.self s (g.P.Port.sight c.turn.new.port) c.turn.new.core c.turn.new.slot ties c.in-Done.ensures.stands c.in-Done.ensures.turned) in
    let last = passes_to g.P.Port.stepped p s _ _ _ _ (λ i. record p { core = c.turn.new.core; slot = c.turn.new.slot; message = sym c.begun-rank.ensures i }) done in
    record { ties = last.ties; turned = last.turned }

pub returns-in-Moved-turn : goal.returns-in-Moved-turn
returns-in-Moved-turn g c =
    let p = c.args.rank.now in
    let s = g.P.Port.sight c.args.port.now in
    let done = passes_as g.P.Port.stepped p (record p { message = Receiving c.in-Receiving.op }) s _ _ _ (λ i. record p { message = c.in-Receiving.is i }) c.requires.ties
    (λ ties. moved g.P.Port.stepped p c.in-Receiving.op c.turn-in-Receiving.new.self s (g.P.Port.sight c.turn-in-Receiving.new.port) c.turn-in-Receiving.new.core c.turn-in-Receiving.new.bytes ties c.in-Moved-turn.ensures.stands c.in-Moved-turn.ensures.turned) in
    record { ties = done.ties; turned = done.turned }

pub returns-in-Waiting-turn : goal.returns-in-Waiting-turn
returns-in-Waiting-turn g c =
    let p = c.args.rank.now in
    let s = g.P.Port.sight c.args.port.now in
    let done = passes_as g.P.Port.stepped p (record p { message = Receiving c.in-Receiving.op }) s _ _ _ (λ i. record p { message = c.in-Receiving.is i }) c.requires.ties
    (λ ties. waited g.P.Port.stepped p c.in-Receiving.op c.turn-in-Receiving.new.self s (g.P.Port.sight c.turn-in-Receiving.new.port) c.turn-in-Receiving.new.core c.turn-in-Receiving.new.bytes ties c.in-Waiting-turn.ensures.stands c.in-Waiting-turn.spot c.in-Waiting-turn.ensures.turned (c.in-Waiting-turn.ensures.steps c.in-Waiting-turn.spot refl)) in
    record { ties = done.ties; turned = done.turned }

pub returns-in-Done-turn : goal.returns-in-Done-turn
returns-in-Done-turn g c =
    let p = c.args.rank.now in
    let s = g.P.Port.sight c.args.port.now in
    let done = passes_as g.P.Port.stepped p (record p { message = Receiving c.in-Receiving.op }) s _ _ _ (λ i. record p { message = c.in-Receiving.is i }) c.requires.ties
    (λ ties. done g.P.Port.stepped p c.in-Receiving.op c.turn-in-Receiving.new.self s (g.P.Port.sight c.turn-in-Receiving.new.port) c.turn-in-Receiving.new.core c.turn-in-Receiving.new.bytes ties c.in-Done-turn.ensures.stands c.in-Done-turn.ensures.turned (slice_set c.turn-in-Receiving.new.bytes 0 ((slice_index_or c.turn-in-Receiving.new.bytes 0 0 + 1) % 256)) (length-set c.turn-in-Receiving.new.bytes 0 _)) in
    let last = passes_to g.P.Port.stepped p s _ _ _ _
    (λ i. record p { core = c.turn-in-Receiving.new.core; number = slice_set c.turn-in-Receiving.new.bytes 0 ((slice_index_or c.turn-in-Receiving.new.bytes 0 0 + 1) % 256); message = sym c.begun-rank-in-Done-turn.ensures i }) done in
    record { ties = last.ties; turned = last.turned }

pub returns-in-Mismatch : goal.returns-in-Mismatch
returns-in-Mismatch g c =
    let p = c.args.rank.now in
    let s = g.P.Port.sight c.args.port.now in
    let done = passes_as g.P.Port.stepped p (record p { message = Receiving c.in-Receiving.op }) s _ _ _ (λ i. record p { message = c.in-Receiving.is i }) c.requires.ties
    (λ ties. met g.P.Port.stepped p c.in-Receiving.op c.turn-in-Receiving.new.self s (g.P.Port.sight c.turn-in-Receiving.new.port) c.turn-in-Receiving.new.core c.turn-in-Receiving.new.bytes ties c.in-Mismatch.ensures.stands c.in-Mismatch.field-0 c.in-Mismatch.ensures.turned) in
    record { ties = done.ties; turned = done.turned }

pub returns-in-Over : goal.returns-in-Over
returns-in-Over g c =
    let p = c.args.rank.now in
    let s = g.P.Port.sight c.args.port.now in
    let done = passes_as g.P.Port.stepped p (record p { message = Over }) s _ _ _ (λ i. record p { message = c.in-Over.is i }) c.requires.ties
    (λ ties. over g.P.Port.stepped p s ties) in
    let last = passes_to g.P.Port.stepped p s _ _ _ _ (λ i. record p { message = sym c.in-Over.is i }) done in
    record { ties = last.ties; turned = last.turned }

pub turn-requires : goal.turn-requires
turn-requires g c =
    let p = c.args.rank.now in
    let s = g.P.Port.sight c.args.port.now in
    record { stands = subst (λ m. IsAtMessage s p.core p.slot p.number m) c.in-Sending.is (shown p s c.requires.ties) }

pub turn-requires-in-Receiving : goal.turn-requires-in-Receiving
turn-requires-in-Receiving g c =
    let p = c.args.rank.now in
    let s = g.P.Port.sight c.args.port.now in
    let at = subst (λ m. IsAtMessage s p.core p.slot p.number m) c.in-Receiving.is (shown p s c.requires.ties) in
    record { stands = at.0 }
