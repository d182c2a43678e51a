use Rattle.std.proofs.Common.{refl, ◌∙◌}
use Rattle.scc_proto.proofs.PortLaws.{did_nothing, did_both}
use Rattle.put_get.proofs.StepLemmas.{steps_none, steps_one, steps_both}
use Rattle.sync_flags.proofs.WriteLemmas.{failed_take_more}
use Rattle.sync_flags.proofs.writes.acquire_within.Goals as goal

pub loop-init : goal.loop-init
loop-init g c = record {
  did = did_nothing (g.P.Port.sight c.args.port.now);
  same = refl;
  steps = steps_none g.P.Port.stepped (g.P.Port.sight c.args.port.now);
}

pub returns-in-Some-clause-takes : goal.returns-in-Some-clause-takes
returns-in-Some-clause-takes g c = (
  c.in-Some.ensures.names,
  (c.loop.counter, c.loop-test.true, did_both _ _ _ _ _ c.loop.invariant.did c.in-Some.ensures.takes),
)

pub returns-in-Some-clause-steps : goal.returns-in-Some-clause-steps
returns-in-Some-clause-steps g c =
    let now = g.P.Port.sight c.loop.port in
    let end = g.P.Port.sight c.try_acquire.new.port in
    steps_both g.P.Port.stepped (g.P.Port.sight c.args.port.now) now end _ _ c.loop.invariant.did c.in-Some.ensures.takes c.loop.invariant.steps
    (steps_one g.P.Port.stepped now end _ c.in-Some.ensures.takes c.in-Some.ensures.step)

pub loop-preserved : goal.loop-preserved
loop-preserved g c =
    let start = g.P.Port.sight c.args.port.now in
    let now = g.P.Port.sight c.loop.port in
    let end = g.P.Port.sight c.try_acquire.new.port in
    record {
      did = failed_take_more start now end c.args.c c.loop.counter c.loop.invariant.did c.in_default.ensures.takes;
      same = c.in_default.ensures.holds ∙ c.loop.invariant.same;
      steps = steps_both g.P.Port.stepped start now end _ _ c.loop.invariant.did c.in_default.ensures.takes c.loop.invariant.steps
          (steps_one g.P.Port.stepped now end _ c.in_default.ensures.takes c.in_default.ensures.step);
    }
