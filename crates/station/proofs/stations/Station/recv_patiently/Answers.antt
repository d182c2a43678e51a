use Rattle.std.proofs.Common.{◌∙◌, ℕ, List, [], ◌∷◌, length, arith, subst}
use Rattle.scc_base.specs.Calls.{Recv}
use Rattle.scc_base.specs.Heads.{plain_head}
use Rattle.send_recv.specs.Calling.{RecvStalled, Received}
use Rattle.send_recv.specs.Receiving.{recv_call}
use Rattle.station.specs.Calls.{at_receive, after_receive, in_receive}
use Rattle.station.specs.Stops.{Owes, SaysWhy, StopsReceive}
use Rattle.station.specs.declared.stops.RecvStop.{RecvStop}
use Rattle.station.proofs.PatienceLemmas.{at_first, once_more, was_stalled, within, within_other}
use Rattle.station.proofs.stations.Station.recv_patiently.Goals as goal

pub returns-in-Ok-clause-received : goal.returns-in-Ok-clause-received
returns-in-Ok-clause-received g c = within (omega arith) (at_first c.in-Ok.ensures.received)

pub returns-in-Err-stall_of-clause-why : goal.returns-in-Err-stall_of-clause-why
returns-in-Err-stall_of-clause-why g c =
    within_other _ _ _ _ c.in-Err.stop _ c.in-Err-stall_of.ensures.gives (within (omega arith) (at_first c.in-Err.ensures.why))

pub rounds-init : goal.rounds-init
rounds-init g c =
    let s = g.P.Port.sight c.args.port.now in
    let t = g.P.Port.sight c.recv.new.port in
    let is = was_stalled c.in-Err.stop c.in-Ok-stall_of.stall c.in-Ok-stall_of.ensures.gives in
    let why = subst (λ (stop : RecvStop). SaysWhy (at_receive s c.args.self.now c.args.from c.args.buffer.now) c.args.self.now.polls (after_receive t c.recv.new.self c.recv.new.buffer) stop) is
    c.in-Err.ensures.why in
    let owes = subst (λ (stop : RecvStop). Owes (λ (bytes : List ℕ). Recv c.args.from (plain_head (length c.args.buffer.now)) bytes ∷ []) s t stop) is c.in-Err.ensures.owes in
    record {
      stands = subst (λ (stop : RecvStop). StopsReceive t c.recv.new.self c.recv.new.buffer stop) is c.in-Err.ensures.stops;
      calls = owes.0;
      owes = owes.1;
      few = omega arith;
      polls = why.0;
      stalled = at_first why.1;
      seat = c.recv.ensures.seat;
      same = c.recv.ensures.same;
    }

pub returns-in-Ok-recv_on-clause-received : goal.returns-in-Ok-recv_on-clause-received
returns-in-Ok-recv_on-clause-received g c =
    let mid = in_receive (g.P.Port.sight c.rounds.port) c.rounds.self c.rounds.stall.op c.rounds.buffer in
    let more = c.rounds-test.true in
    within (omega (arith, more))
    (once_more mid (λ last stalled. (c.rounds.stall.spot, stalled)) c.rounds.invariant.stalled
    (subst (λ (polls : ℕ). Received mid polls (after_receive (g.P.Port.sight c.recv_on.new.port) c.recv_on.new.self c.recv_on.new.buffer)) c.rounds.invariant.same.polls
    c.in-Ok-recv_on.ensures.received))

pub returns-in-Err-stall_of-2-clause-why : goal.returns-in-Err-stall_of-2-clause-why
returns-in-Err-stall_of-2-clause-why g c =
    let mid = in_receive (g.P.Port.sight c.rounds.port) c.rounds.self c.rounds.stall.op c.rounds.buffer in
    let now = after_receive (g.P.Port.sight c.recv_on.new.port) c.recv_on.new.self c.recv_on.new.buffer in
    let more = c.rounds-test.true in
    within_other _ _ _ _ c.in-Err-recv_on.stop _ c.in-Err-stall_of-2.ensures.gives
    (within (omega (arith, more))
    (once_more mid (λ last stalled. (c.rounds.stall.spot, stalled)) c.rounds.invariant.stalled
    (subst (λ (polls : ℕ). SaysWhy mid polls now c.in-Err-recv_on.stop) c.rounds.invariant.same.polls c.in-Err-recv_on.ensures.why)))

pub rounds-preserved : goal.rounds-preserved
rounds-preserved g c =
    let later = c.in-Ok-stall_of-2.later in
    let m = g.P.Port.sight c.rounds.port in
    let t = g.P.Port.sight c.recv_on.new.port in
    let mid = in_receive m c.rounds.self c.rounds.stall.op c.rounds.buffer in
    let now = in_receive t c.recv_on.new.self later.op c.recv_on.new.buffer in
    let before = c.rounds.invariant in
    let more = c.rounds-test.true in
    let is = was_stalled c.in-Err-recv_on.stop later c.in-Ok-stall_of-2.ensures.gives in
    let why = subst (λ (stop : RecvStop). SaysWhy mid c.rounds.self.polls (after_receive t c.recv_on.new.self c.recv_on.new.buffer) stop) is c.in-Err-recv_on.ensures.why in
    let owes = subst (λ (stop : RecvStop). Owes (recv_call c.rounds.stall.op) m t stop) is c.in-Err-recv_on.ensures.owes in
    record {
      stands = subst (λ (stop : RecvStop). StopsReceive t c.recv_on.new.self c.recv_on.new.buffer stop) is c.in-Err-recv_on.ensures.stops;
      calls = owes.0 ∙ before.calls;
      owes = λ bytes. owes.1 bytes ∙ before.owes bytes;
      few = omega (arith, more);
      polls = why.0 ∙ before.same.polls;
      stalled = once_more mid (λ last stalled. (c.rounds.stall.spot, stalled)) before.stalled (subst (λ (polls : ℕ). RecvStalled mid polls now later.spot) before.same.polls why.1);
      seat = c.recv_on.ensures.seat ∙ before.seat;
      same = record {
        slot = c.recv_on.ensures.same.slot ∙ before.same.slot;
        heap = c.recv_on.ensures.same.heap ∙ before.same.heap;
        polls = c.recv_on.ensures.same.polls ∙ before.same.polls;
      };
    }
