use Rattle.std.proofs.Common.{◌∙◌, ℕ, arith, subst}
use Rattle.send_recv.specs.Calling.{SendStalled}
use Rattle.station.specs.Calls.{in_send}
use Rattle.station.proofs.PatienceLemmas.{at_first, once_more, within}
use Rattle.station.proofs.stations.Station.send_patiently.Goals as goal

pub returns-in-Ok-clause-sent : goal.returns-in-Ok-clause-sent
returns-in-Ok-clause-sent g c = within (omega arith) (at_first c.in-Ok.ensures.sent)

pub rounds-init : goal.rounds-init
rounds-init g c = record {
  stands = c.in-Err.ensures.open;
  calls = c.in-Err.ensures.owes.0;
  owes = c.in-Err.ensures.owes.1;
  few = omega arith;
  polls = c.in-Err.ensures.stalled.0;
  stalled = at_first c.in-Err.ensures.stalled.1;
  seat = c.send.ensures.seat;
  same = c.send.ensures.same;
}

pub returns-in-Ok-send_on-clause-sent : goal.returns-in-Ok-send_on-clause-sent
returns-in-Ok-send_on-clause-sent g c =
    let more = c.rounds-test.true in
    within (omega (arith, more))
    (once_more (in_send (g.P.Port.sight c.rounds.port) c.rounds.self c.rounds.stall.op c.args.bytes.now) (λ last stalled. (c.rounds.stall.spot, stalled)) c.rounds.invariant.stalled
    c.in-Ok-send_on.ensures.sent)

pub rounds-preserved : goal.rounds-preserved
rounds-preserved g c =
    let mid = in_send (g.P.Port.sight c.rounds.port) c.rounds.self c.rounds.stall.op c.args.bytes.now in
    let now = in_send (g.P.Port.sight c.send_on.new.port) c.send_on.new.self c.in-Err-send_on.later.op c.args.bytes.now in
    let before = c.rounds.invariant in
    let more = c.rounds-test.true in
    record {
      stands = c.in-Err-send_on.ensures.open;
      calls = c.in-Err-send_on.ensures.owes.0 ∙ before.calls;
      owes = c.in-Err-send_on.ensures.owes.1 ∙ before.owes;
      few = omega (arith, more);
      polls = c.in-Err-send_on.ensures.stalled.0 ∙ before.same.polls;
      stalled = once_more mid (λ last stalled. (c.rounds.stall.spot, stalled)) before.stalled
          (subst (λ (polls : ℕ). SendStalled mid polls now c.in-Err-send_on.later.spot) before.same.polls c.in-Err-send_on.ensures.stalled.1);
      seat = c.send_on.ensures.seat ∙ before.seat;
      same = record {
        heap = c.send_on.ensures.same.heap ∙ before.same.heap;
        polls = c.send_on.ensures.same.polls ∙ before.same.polls;
      };
    }
