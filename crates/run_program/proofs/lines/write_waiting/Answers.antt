use Rattle.std.proofs.Common.{subst, sym}
use Rattle.scc_base.specs.declared.calls.Call.{Call}
use Rattle.rcce_io.specs.Sending.{Sends}
use Rattle.run_program.specs.Texts.{call_pieces, waiting_line}
use Rattle.run_program.proofs.lines.write_waiting.Goals as goal

-- Names the goal, so that the prover rejects a wrong body at once, without a search.
pub returns-in-Send : goal.returns-in-Send
returns-in-Send g c =
    subst (λ (call : Call). Sends (waiting_line c.args.rank c.args.line (call_pieces call)) (g.S.Sink.seen c.args.sink.now) (g.S.Sink.seen c.write_message.new.sink) c.write_message.result)
    (sym c.in-Send.is) c.write_message.ensures
