use Rattle.std.proofs.Common.{◌-◌, ◌<◌, ℕ, sym, ◌∙◌, ap, subst}
use Rattle.scc_base.specs.declared.events.Turn.TheVariants.{Moved}
use Rattle.send_recv.specs.Ops.{SendAt}
use Rattle.send_recv.specs.Ranks.{sending}
use Rattle.send_recv.specs.Batches.{is_writing}
use Rattle.send_recv.proofs.Sending.SendFacts.{SendTurns}
use Rattle.send_recv.proofs.Sending.SendLines.{may_write_line, line_turn}
use Rattle.send_recv.proofs.Loops.BatchLoop.{NoLine, wrote_on, wrote_rest, not_writing, to_write, writes_nearer}
use Rattle.send_recv.proofs.sends.SendOp.write_lines.Goals as goal

pub lines-init : goal.lines-init
lines-init g c = (c.requires.stands, NoLine)

pub write_line-requires : goal.write_line-requires
write_line-requires g c =
    let may = may_write_line (g.P.Port.sight c.lines.port) c.lines.core c.lines.self c.args.slot.now c.args.bytes.now c.in-Lines.line c.known.ensures.valid c.lines.invariant.0 (ap (λ (x : SendAt). x.stage) (sym c.self.view_is) ∙ c.in-Lines.is) in
    record { in_chunk = may.in_chunk; other = may.other; permitted = may.permitted }

pub lines-smaller : goal.lines-smaller
lines-smaller g c =
    let may = may_write_line (g.P.Port.sight c.lines.port) c.lines.core c.lines.self c.args.slot.now c.args.bytes.now c.in-Lines.line c.known.ensures.valid c.lines.invariant.0 (ap (λ (x : SendAt). x.stage) (sym c.self.view_is) ∙ c.in-Lines.is) in
    subst (λ (n : ℕ). to_write c.write_line.new.self.stage < n) (sym (ap to_write (ap (λ (x : SendAt). x.stage) (sym c.self.view_is) ∙ c.in-Lines.is)))
    (subst (λ (x : SendAt). to_write x.stage < 256 - c.in-Lines.line) (sym c.write_line.ensures.next)
    (writes_nearer (g.P.Port.sight c.lines.port).seat.setup.layout c.in-Lines.line c.lines.self may.in_chunk))

pub lines-preserved : goal.lines-preserved
lines-preserved g c =
    let stage = ap (λ (x : SendAt). x.stage) (sym c.self.view_is) ∙ c.in-Lines.is in
    let turns : SendTurns (g.P.Port.sight c.lines.port) c.lines.core c.lines.self c.args.slot.now c.args.bytes.now (g.P.Port.sight c.write_line.new.port) c.write_line.new.core c.write_line.new.self c.args.slot.now Moved =
    subst (λ (x : SendAt). SendTurns (g.P.Port.sight c.lines.port) c.lines.core c.lines.self c.args.slot.now c.args.bytes.now (g.P.Port.sight c.write_line.new.port) c.write_line.new.core x c.args.slot.now Moved) (sym c.write_line.ensures.next)
    (line_turn (g.P.Port.sight c.lines.port) (g.P.Port.sight c.write_line.new.port) c.lines.core c.write_line.new.core c.lines.self c.args.slot.now c.args.bytes.now c.in-Lines.line c.known.ensures.valid c.lines.invariant.0 stage c.write_line.ensures.writes) in (
      turns.stands,
      wrote_on (sending (g.P.Port.sight c.args.port.now) c.args.core.now c.args.self.now c.args.slot.now c.args.bytes.now) (g.P.Port.sight c.lines.port) (g.P.Port.sight c.write_line.new.port) c.lines.core c.write_line.new.core c.lines.self c.write_line.new.self
          c.args.slot.now c.args.slot.now c.lines.invariant.1 c.lines.invariant.0 (ap is_writing stage) turns.turned,
    )

pub returns : goal.returns
returns g c =
    let off = ap (λ (x : SendAt). is_writing x.stage) (sym c.self.view_is) ∙ not_writing c.self.inside.stage c.in_default.not-Lines in
    record {
      stands = c.lines.invariant.0;
      wrote = wrote_rest (sending (g.P.Port.sight c.args.port.now) c.args.core.now c.args.self.now c.args.slot.now c.args.bytes.now) (g.P.Port.sight c.lines.port) c.lines.core c.lines.self c.args.slot.now c.requires.writing off c.lines.invariant.1;
      whole = off;
    }
