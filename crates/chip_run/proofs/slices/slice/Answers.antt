use Rattle.std.proofs.Common.{inl, inr, ⊎_elim, [], refl, arith}
use Rattle.scc_proto.proofs.PortLaws.{seat_kept}
use Rattle.chip_run.proofs.SliceLaws.{slice_falls, slice_goes, slice_is, so_far_first, turns_first}
use Rattle.chip_run.proofs.slices.slice.Goals as goal

pub loop-failed-init : goal.loop-failed-init
loop-failed-init g c = record {
  ties = c.requires.ties;
  answers = [];
  turns = turns_first g.W.Worker.behaviour (g.P.Port.stepped (g.P.Port.sight c.args.port).seat) c.args.worker.now (g.P.Port.sight c.args.port);
  so_far = so_far_first;
  gave = inl refl;
}

pub loop-failed-preserved : goal.loop-failed-preserved
loop-failed-preserved g c =
    let on = slice_goes g.W.Worker.behaviour g.P.Port.stepped c.loop-failed.invariant.answers c.loop-failed.failed c.failed_after-failed.result c.args.worker.now c.loop-failed.worker c.batch-answer.new.self
    (g.P.Port.sight c.args.port) (g.P.Port.sight c.loop-failed.port) (g.P.Port.sight c.batch-answer.result.1) c.batch-answer.result.0 c.loop-failed-test.true c.failed_after-failed.ensures.gives c.loop-failed.invariant.turns c.loop-failed.invariant.so_far
    c.batch-answer.ensures.took_batch in
    record { ties = c.batch-answer.ensures.ties; answers = on.answers; turns = on.turns; so_far = on.so_far; gave = inr c.yield_after.ensures.yields }

pub loop-failed-smaller : goal.loop-failed-smaller
loop-failed-smaller g c =
    slice_falls g.W.Worker.behaviour (g.P.Port.stepped (g.P.Port.sight c.loop-failed.port).seat) c.loop-failed.worker c.batch-answer.new.self (g.P.Port.sight c.args.port).seat
    (g.P.Port.sight c.loop-failed.port) (g.P.Port.sight c.batch-answer.result.1) c.batch-answer.result.0 c.loop-failed.failed c.failed_after-failed.result
    (seat_kept (g.P.Port.sight c.args.port) c.loop-failed.invariant.turns.events (g.P.Port.sight c.loop-failed.port) c.loop-failed.invariant.turns.did) c.loop-failed-test.true c.failed_after-failed.ensures.gives
    c.batch-answer.ensures.took_batch

pub returns-clause-slice : goal.returns-clause-slice
returns-clause-slice g c = record {
  answers = c.loop-failed.invariant.answers;
  is_slice = slice_is c.loop-failed.invariant.answers c.loop-failed.failed c.loop-failed-test.false c.loop-failed.invariant.so_far;
  turns = c.loop-failed.invariant.turns;
}

pub returns-clause-yielded_last : goal.returns-clause-yielded_last
returns-clause-yielded_last g c = ⊎_elim (λ none. absurd (omega (arith, none, c.loop-failed-test.false))) (λ gave. (c.loop-failed.failed, omega (arith, c.loop-failed-test.false), gave)) c.loop-failed.invariant.gave
