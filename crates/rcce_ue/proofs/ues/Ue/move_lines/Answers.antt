use Rattle.std.proofs.Common.{◌≡◌, ◌||◌, length, refl, sym, ap, ◌∙◌}
use Rattle.std.proofs.lemmas.Bool.{false≢true}
use Rattle.std.proofs.lemmas.List.{with_items_is}
use Rattle.std.specs.Vec.{with_items}
use Rattle.rcce_ue.specs.Batches.{reads_line_next, writes_line_next}
use Rattle.rcce_ue.specs.Ues.{UeView}
use Rattle.rcce_ue.specs.declared.calls.Open.{Open}
use Rattle.rcce_ue.proofs.BatchTurns.{receives, receives_fit, receives_move, receives_stand, receives_tell, sends, sends_move, sends_tell}
use Rattle.rcce_ue.proofs.ues.Ue.move_lines.Goals as goal

pub returns-then-not-is_writing-clause-tells : goal.returns-then-not-is_writing-clause-tells
returns-then-not-is_writing-clause-tells g c =
    sym c.if-not-is_writing.true ∙ sends_tell _ c.args.self.now c.self.view_is c.in-Sending.op c.in-Sending.is c.is_writing.result c.is_writing.ensures.tells

pub write_lines-requires-clause-writing : goal.write_lines-requires-clause-writing
write_lines-requires-clause-writing g c = sym c.is_writing.ensures.tells ∙ c.if-not-is_writing.false

pub returns-else-not-is_writing : goal.returns-else-not-is_writing
returns-else-not-is_writing g c = record {
  tells = sym c.if-not-is_writing.false ∙ sends_tell _ c.args.self.now c.self.view_is c.in-Sending.op c.in-Sending.is c.is_writing.result c.is_writing.ensures.tells;
  moves = λ moved. sends_move _ c.args.self.now c.self.view_is c.in-Sending.op c.in-Sending.is (g.P.Port.sight c.args.port.now) (g.P.Port.sight c.write_lines.new.port)
      c.write_lines.new.self c.write_lines.new.core c.self.inside.slot c.bytes.result.now c.bytes.ensures c.requires.tied c.write_lines.ensures.stands c.write_lines.ensures.wrote;
  stays = λ none. absurd (false≢true (sym none));
}

pub returns-then-not-is_reading-clause-tells : goal.returns-then-not-is_reading-clause-tells
returns-then-not-is_reading-clause-tells g c =
    sym c.if-not-is_reading.true ∙ receives_tell _ c.args.self.now c.self.view_is c.in-Receiving.op c.in-Receiving.is c.self.inside.inbox.items refl c.is_reading.result c.is_reading.ensures

pub returns-else-not-is_reading : goal.returns-else-not-is_reading
returns-else-not-is_reading g c =
    let long : length c.read_lines.new.inbox ≡ c.self.inside.inbox.len = c.read_lines.auto.inbox ∙ ap length c.as_mut_slice.ensures.value ∙ sym c.self.inside.inbox.ok.0 in
    record {
      tells = sym c.if-not-is_reading.false ∙ receives_tell _ c.args.self.now c.self.view_is c.in-Receiving.op c.in-Receiving.is c.self.inside.inbox.items refl c.is_reading.result c.is_reading.ensures;
      moves = λ moved. receives_move _ c.args.self.now c.self.view_is c.in-Receiving.op c.in-Receiving.is c.as_mut_slice.result.now c.as_mut_slice.ensures.value (g.P.Port.sight c.args.port.now) c.requires.tied
          (g.P.Port.sight c.read_lines.new.port) c.read_lines.new.self c.read_lines.new.core c.read_lines.new.inbox (with_items c.self.inside.inbox c.read_lines.new.inbox).items
          c.read_lines.auto.inbox (with_items_is c.self.inside.inbox c.read_lines.new.inbox long) c.read_lines.ensures.stands c.read_lines.ensures.read;
      stays = λ none. absurd (false≢true (sym none));
    }

pub read_lines-requires-clause-within : goal.read_lines-requires-clause-within
read_lines-requires-clause-within g c =
    receives_fit _ c.args.self.now c.self.view_is c.in-Receiving.op c.in-Receiving.is c.as_mut_slice.result.now c.as_mut_slice.ensures.value (g.P.Port.sight c.args.port.now) c.requires.tied

pub read_lines-requires-clause-stands : goal.read_lines-requires-clause-stands
read_lines-requires-clause-stands g c =
    receives_stand _ c.args.self.now c.self.view_is c.in-Receiving.op c.in-Receiving.is c.as_mut_slice.result.now c.as_mut_slice.ensures.value (g.P.Port.sight c.args.port.now) c.requires.tied

pub read_lines-requires-clause-reading : goal.read_lines-requires-clause-reading
read_lines-requires-clause-reading g c = sym c.is_reading.ensures ∙ c.if-not-is_reading.false

pub returns-then-not-is_writing-clause-moves : goal.returns-then-not-is_writing-clause-moves
returns-then-not-is_writing-clause-moves g c = λ moved. absurd (false≢true moved)

pub returns-then-not-is_writing-clause-stays : goal.returns-then-not-is_writing-clause-stays
returns-then-not-is_writing-clause-stays g c = λ none. (sym (sends _ c.args.self.now c.self.view_is c.in-Sending.op c.in-Sending.is), refl)

pub returns-then-not-is_reading-clause-moves : goal.returns-then-not-is_reading-clause-moves
returns-then-not-is_reading-clause-moves g c = λ moved. absurd (false≢true moved)

pub returns-then-not-is_reading-clause-stays : goal.returns-then-not-is_reading-clause-stays
returns-then-not-is_reading-clause-stays g c =
    λ none. (sym (receives _ c.args.self.now c.self.view_is c.in-Receiving.op c.in-Receiving.is c.self.inside.inbox.items refl), refl)

-- what the turn of a barrier tells is answered by name, so that a body which turns it is refused at once
pub returns-in-Meeting-clause-tells : goal.returns-in-Meeting-clause-tells
returns-in-Meeting-clause-tells g c =
    sym (ap (λ (o : Open). writes_line_next o || reads_line_next o) (ap (λ (x : UeView). x.op) (sym c.self.view_is) ∙ c.in-Meeting.is))

pub returns-in-Meeting-clause-moves : goal.returns-in-Meeting-clause-moves
returns-in-Meeting-clause-moves g c = λ moved. absurd (false≢true moved)

pub returns-in-Meeting-clause-stays : goal.returns-in-Meeting-clause-stays
returns-in-Meeting-clause-stays g c = λ none. (c.self.view_is, refl)

pub returns-in-Nothing-clause-tells : goal.returns-in-Nothing-clause-tells
returns-in-Nothing-clause-tells g c =
    sym (ap (λ (o : Open). writes_line_next o || reads_line_next o) (ap (λ (x : UeView). x.op) (sym c.self.view_is) ∙ c.in-Nothing.is))

pub returns-in-Nothing-clause-moves : goal.returns-in-Nothing-clause-moves
returns-in-Nothing-clause-moves g c = λ moved. absurd (false≢true moved)

pub returns-in-Nothing-clause-stays : goal.returns-in-Nothing-clause-stays
returns-in-Nothing-clause-stays g c = λ none. (c.self.view_is, refl)
