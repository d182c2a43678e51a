use Rattle.send_recv.proofs.Loops.TestLemmas.{tested_on, tested_stop, tested_done, no_mismatch, passed_on}
use Rattle.send_recv.proofs.calls.recv_test.Goals as goal

pub returns-in_err-recv-in-Moved : goal.returns-in_err-recv-in-Moved
returns-in_err-recv-in-Moved g c = record {
  ends = passed_on (g.P.Port.sight c.args.port.now) c.args.core.now c.args.op c.args.bytes.now c.args.polls (g.P.Port.sight c.recv.new.port) c.recv.new.core c.recv.new.bytes _ c.from_residual.result c.from_residual.ensures
      (tested_stop (g.P.Port.sight c.recv.new.port) c.recv.new.core c.recv.new.bytes c.args.polls c.in_err-recv-in-Moved.field-0.0 c.requires.start c.requires.stands c.in-Moved.ensures.stands c.in-Moved.ensures.turned
      c.in_err-recv-in-Moved.ensures.ends);
}

pub returns-in-Done : goal.returns-in-Done
returns-in-Done g c = record { ends = tested_done c.args.polls c.requires.some c.requires.start c.requires.stands c.in-Done.ensures.stands c.in-Done.ensures.turned }

pub returns-in_ok-recv-in-Moved : goal.returns-in_ok-recv-in-Moved
returns-in_ok-recv-in-Moved g c = record {
  ends = tested_on (g.P.Port.sight c.recv.new.port) c.recv.new.core c.recv.new.bytes c.args.polls c.requires.start c.requires.stands c.in-Moved.ensures.stands c.in-Moved.ensures.turned c.in_ok-recv-in-Moved.ensures.ends;
}

pub returns-in-Mismatch : goal.returns-in-Mismatch
returns-in-Mismatch g c = absurd (no_mismatch c.args.op c.requires.start c.in-Mismatch.ensures.turned.means.2)
