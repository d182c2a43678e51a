use Rattle.std.proofs.Common.{◌∙◌, ℕ, arith, subst}
use Rattle.barrier.specs.Calls.{Stalls}
use Rattle.station.specs.Calls.{after_barrier, in_barrier}
use Rattle.station.specs.Stops.{bar_stop_of}
use Rattle.station.proofs.PatienceLemmas.{at_first, once_more, within}
use Rattle.station.proofs.stations.Station.barrier_patiently.Goals as goal

pub returns-in-Ok-clause-met : goal.returns-in-Ok-clause-met
returns-in-Ok-clause-met g c = within (omega arith) (at_first c.in-Ok.ensures.met)

pub rounds-init : goal.rounds-init
rounds-init g c = record {
  stands = c.in-Err.ensures.open;
  calls = c.in-Err.ensures.owes.0;
  owes = c.in-Err.ensures.owes.1;
  few = omega arith;
  stalled = at_first c.in-Err.ensures.stalled;
  seat = c.barrier.ensures.seat;
  same = c.barrier.ensures.same;
}

pub returns-in-Ok-barrier_on-clause-met : goal.returns-in-Ok-barrier_on-clause-met
returns-in-Ok-barrier_on-clause-met g c =
    let more = c.rounds-test.true in
    within (omega (arith, more))
    (once_more (in_barrier (g.P.Port.sight c.rounds.port) c.rounds.self c.rounds.stall.op) (λ last stalls. (c.rounds.stall.spot, c.rounds.stall.polls, stalls)) c.rounds.invariant.stalled
    c.in-Ok-barrier_on.ensures.met)

pub rounds-preserved : goal.rounds-preserved
rounds-preserved g c =
    let mid = in_barrier (g.P.Port.sight c.rounds.port) c.rounds.self c.rounds.stall.op in
    let before = c.rounds.invariant in
    let more = c.rounds-test.true in
    record {
      stands = c.in-Err-barrier_on.ensures.open;
      calls = c.in-Err-barrier_on.ensures.owes.0 ∙ before.calls;
      owes = c.in-Err-barrier_on.ensures.owes.1 ∙ before.owes;
      few = omega (arith, more);
      stalled = once_more mid (λ last stalls. (c.rounds.stall.spot, c.rounds.stall.polls, stalls)) before.stalled
          (subst (λ (polls : ℕ). Stalls mid polls (after_barrier (g.P.Port.sight c.barrier_on.new.port) c.barrier_on.new.self) (bar_stop_of c.in-Err-barrier_on.later)) before.same.polls
          c.in-Err-barrier_on.ensures.stalled);
      seat = c.barrier_on.ensures.seat ∙ before.seat;
      same = record {
        slot = c.barrier_on.ensures.same.slot ∙ before.same.slot;
        heap = c.barrier_on.ensures.same.heap ∙ before.same.heap;
        polls = c.barrier_on.ensures.same.polls ∙ before.same.polls;
      };
    }
