use Rattle.std.proofs.Common.{◌∙◌}
use Rattle.scc_rows.proofs.EntrantLemmas.{passed_ready, ready_taken, shown, stalled_ready}
use Rattle.scc_rows.proofs.whole_barriers.PasserPlayer.turn.Goals as goal

pub barrier-requires-clause-stands : goal.barrier-requires-clause-stands
barrier-requires-clause-stands g c = let ready = ready_taken c.replace-op.ensures.value c.requires.stands in shown ready.stands

pub returns-in-Ok-clause-stands : goal.returns-in-Ok-clause-stands
returns-in-Ok-clause-stands g c =
    passed_ready {s = g.P.Port.sight c.args.port.now} (ready_taken c.replace-op.ensures.value c.requires.stands) c.in-Ok.ensures.ends
    (c.replace-op.ensures.after ∙ c.new-next.ensures.starts)

pub returns-in-Err-Stalled-clause-stands : goal.returns-in-Err-Stalled-clause-stands
returns-in-Err-Stalled-clause-stands g c =
    rw c.in-Err-Stalled.ensures.ends.is
    (stalled_ready {s = g.P.Port.sight c.args.port.now} (ready_taken c.replace-op.ensures.value c.requires.stands) c.in-Err-Stalled.ensures.ends)
