use Rattle.std.proofs.Common.{◌-◌, ◌<◌, ℕ, sym, ◌∙◌, ap, subst}
use Rattle.send_recv.specs.declared.answers.RecvTurn.TheVariants.{Moved}
use Rattle.send_recv.specs.declared.stages.RecvStage.{RecvStage}
use Rattle.send_recv.specs.Ops.{RecvAt}
use Rattle.send_recv.specs.Ranks.{receiving}
use Rattle.send_recv.specs.Receiving.{IsAtRecvStage}
use Rattle.scc_proto.specs.Ports.{record_in}
use Rattle.send_recv.specs.Batches.{is_reading}
use Rattle.send_recv.proofs.Receiving.LookTurn.{Turns}
use Rattle.send_recv.proofs.Receiving.LinesMove.{lines_turn}
use Rattle.send_recv.proofs.Loops.BatchLoop.{NoLineRead, read_on, read_rest, not_reading, to_read, reads_nearer}
use Rattle.send_recv.proofs.receives.RecvOp.read_lines.Goals as goal

pub lines-init : goal.lines-init
lines-init g c = (c.requires.stands, NoLineRead)

pub read_line-requires : goal.read_line-requires
read_line-requires g c =
    let stage = ap (λ (x : RecvAt). x.stage) (sym c.self.view_is) ∙ c.in-Lines.is in
    let at = subst (λ (st : RecvStage). IsAtRecvStage (g.P.Port.sight c.lines.port).seat (record_in (g.P.Port.sight c.lines.port)) c.lines.core c.lines.self c.lines.bytes st) stage c.lines.invariant.0.at in
    record { peers = c.lines.invariant.0.peers; empty = c.lines.invariant.0.empty; in_chunk = at.0 }

pub lines-smaller : goal.lines-smaller
lines-smaller g c =
    let stage = ap (λ (x : RecvAt). x.stage) (sym c.self.view_is) ∙ c.in-Lines.is in
    let at = subst (λ (st : RecvStage). IsAtRecvStage (g.P.Port.sight c.lines.port).seat (record_in (g.P.Port.sight c.lines.port)) c.lines.core c.lines.self c.lines.bytes st) stage c.lines.invariant.0.at in
    subst (λ (n : ℕ). to_read c.read_line.new.self.stage < n) (sym (ap to_read stage))
    (subst (λ (x : RecvAt). to_read x.stage < 256 - c.in-Lines.line) (sym c.read_line.ensures.next)
    (reads_nearer (g.P.Port.sight c.lines.port).seat.setup.layout c.in-Lines.line c.lines.self at.0))

pub lines-preserved : goal.lines-preserved
lines-preserved g c =
    let stage = ap (λ (x : RecvAt). x.stage) (sym c.self.view_is) ∙ c.in-Lines.is in
    let turns : Turns (g.P.Port.sight c.lines.port) c.lines.core c.lines.self c.lines.bytes (g.P.Port.sight c.read_line.new.port) c.read_line.new.core c.read_line.new.self c.read_line.new.bytes Moved =
    subst (λ (x : RecvAt). Turns (g.P.Port.sight c.lines.port) c.lines.core c.lines.self c.lines.bytes (g.P.Port.sight c.read_line.new.port) c.read_line.new.core x c.read_line.new.bytes Moved) (sym c.read_line.ensures.next)
    (lines_turn (g.P.Port.sight c.lines.port) (g.P.Port.sight c.read_line.new.port) c.lines.core c.read_line.new.core c.lines.self c.in-Lines.line c.lines.bytes c.read_line.new.bytes c.read_line.ensures.reads.0
    c.known.ensures.valid c.lines.invariant.0 stage c.read_line.ensures.reads.1 c.read_line.auto.bytes c.read_line.ensures.reads.2 c.read_line.ensures.before c.read_line.ensures.afterwards) in (
      turns.stands,
      read_on (receiving (g.P.Port.sight c.args.port.now) c.args.core.now c.args.self.now c.args.bytes.now) (receiving (g.P.Port.sight c.lines.port) c.lines.core c.lines.self c.lines.bytes)
          (receiving (g.P.Port.sight c.read_line.new.port) c.read_line.new.core c.read_line.new.self c.read_line.new.bytes) c.lines.invariant.1 c.lines.invariant.0 (ap is_reading stage) turns.turned,
    )

pub returns : goal.returns
returns g c =
    let off = ap (λ (x : RecvAt). is_reading x.stage) (sym c.self.view_is) ∙ not_reading c.self.inside.stage c.in_default.not-Lines in
    record {
      stands = c.lines.invariant.0;
      read = read_rest (receiving (g.P.Port.sight c.args.port.now) c.args.core.now c.args.self.now c.args.bytes.now) (receiving (g.P.Port.sight c.lines.port) c.lines.core c.lines.self c.lines.bytes) c.requires.reading off c.lines.invariant.1;
      whole = off;
    }
