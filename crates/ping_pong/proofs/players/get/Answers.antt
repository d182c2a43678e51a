use Rattle.std.proofs.Common.{◌≡◌, ◌∙◌, ℕ, ◌+◌, ◌≤◌, List, [], ◌∷◌, length, ap, arith, subst, rules}
use Rattle.scc_base.specs.Calls.{Recv}
use Rattle.scc_base.specs.Heads.{plain_head}
use Rattle.send_recv.specs.Calling.{RecvStalled}
use Rattle.send_recv.specs.Receiving.{recv_call}
use Rattle.station.specs.Calls.{at_receive, after_receive, in_receive}
use Rattle.station.specs.Stops.{Owes, SaysWhy, StopsReceive}
use Rattle.station.specs.declared.stops.RecvStop.{RecvStop}
use Rattle.station.proofs.PatienceLemmas.{at_first, once_more, within}
use Rattle.ping_pong.proofs.GivingUpLemmas.{met_other}
use Rattle.ping_pong.proofs.players.get.Goals as goal

pub returns-in_default-clause-why : goal.returns-in_default-clause-why
returns-in_default-clause-why g c = met_other _ c.in-Err.stop c.in_default.not-Stalled (within (omega arith) (at_first c.in-Err.ensures.why))

pub rounds-init : goal.rounds-init
rounds-init g c =
    let s = g.P.Port.sight c.args.port.now in
    let t = g.P.Port.sight c.recv.new.port in
    let is = c.in-Stalled.is in
    let why = subst (λ (stop : RecvStop). SaysWhy (at_receive s c.args.station.now c.args.from c.args.ball.now) c.args.station.now.polls (after_receive t c.recv.new.self c.recv.new.buffer) stop) is
    c.in-Err.ensures.why in
    let owes = subst (λ (stop : RecvStop). Owes (λ (bytes : List ℕ). Recv c.args.from (plain_head (length c.args.ball.now)) bytes ∷ []) s t stop) is c.in-Err.ensures.owes in
    let long : length c.args.ball.now ≡ 4 = c.told-ball in
    record {
      stands = subst (λ (stop : RecvStop). StopsReceive t c.recv.new.self c.recv.new.buffer stop) is c.in-Err.ensures.stops;
      calls = owes.0;
      owes = λ bytes. owes.1 bytes ∙ ap (λ (n : ℕ). Recv c.args.from (plain_head n) bytes ∷ []) long;
      few = omega arith;
      stalled = at_first why.1;
      polls = why.0;
      seat = c.recv.ensures.seat;
      same = c.recv.ensures.same.polls;
    }

pub returns-in_default-stop-clause-why : goal.returns-in_default-stop-clause-why
returns-in_default-stop-clause-why g c =
    let mid = in_receive (g.P.Port.sight c.rounds.port) c.rounds.station c.rounds.stall.op c.rounds.ball in
    let now = after_receive (g.P.Port.sight c.recv_on.new.port) c.recv_on.new.self c.recv_on.new.buffer in
    let stop = c.in-Err-recv_on.stop in
    let more = c.rounds-test.true in
    let few : c.rounds.round + 1 ≤ 1000 = omega (arith, more) in
    met_other now stop c.in_default-stop.not-Stalled
    (within few
    (once_more mid (λ last stalled. (c.rounds.stall.spot, stalled)) c.rounds.invariant.stalled
    (subst (λ (polls : ℕ). SaysWhy mid polls now stop) c.rounds.invariant.same c.in-Err-recv_on.ensures.why)))

pub rounds-preserved : goal.rounds-preserved
rounds-preserved g c =
    let later = c.in-Stalled-stop.later in
    let m = g.P.Port.sight c.rounds.port in
    let t = g.P.Port.sight c.recv_on.new.port in
    let mid = in_receive m c.rounds.station c.rounds.stall.op c.rounds.ball in
    let now = in_receive t c.recv_on.new.self later.op c.recv_on.new.buffer in
    let before = c.rounds.invariant in
    let more = c.rounds-test.true in
    let is = c.in-Stalled-stop.is in
    let why = subst (λ (stop : RecvStop). SaysWhy mid c.rounds.station.polls (after_receive t c.recv_on.new.self c.recv_on.new.buffer) stop) is c.in-Err-recv_on.ensures.why in
    let owes = subst (λ (stop : RecvStop). Owes (recv_call c.rounds.stall.op) m t stop) is c.in-Err-recv_on.ensures.owes in
    record {
      stands = subst (λ (stop : RecvStop). StopsReceive t c.recv_on.new.self c.recv_on.new.buffer stop) is c.in-Err-recv_on.ensures.stops;
      calls = owes.0 ∙ before.calls;
      owes = λ bytes. owes.1 bytes ∙ before.owes bytes;
      few = omega (arith, more);
      stalled = once_more mid (λ last stalled. (c.rounds.stall.spot, stalled)) before.stalled (subst (λ (polls : ℕ). RecvStalled mid polls now later.spot) before.same why.1);
      polls = why.0 ∙ before.same;
      seat = c.recv_on.ensures.seat ∙ before.seat;
      same = c.recv_on.ensures.same.polls ∙ before.same;
    }

-- Names the goal, so that the prover rejects a wrong body at once, without a search.
pub returns-clause-why : goal.returns-clause-why
returns-clause-why g c = search rules
