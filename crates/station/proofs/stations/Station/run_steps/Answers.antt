use Rattle.std.proofs.Common.{◌≡◌, length, refl, sym, ◌∙◌, subst, arith}
use Rattle.groups.proofs.PeerLaws.{peers-law}
use Rattle.station.specs.Groups.{IsInGroup, held_in, in_group_call, op_in, SaysWhyGroup}
use Rattle.station.specs.declared.stops.GroupStop.{GroupStop}
use Rattle.station.proofs.GroupLemmas.{all_done, count_at, done_there, fits_here, found_at, only_both, only_none, root_at, stands_here, stopped_there, why_there}
use Rattle.station.proofs.stations.Station.run_steps.Goals as goal

pub walk-init : goal.walk-init
walk-init g c = record {
  stands = λ start is. is;
  seat = refl;
  only = only_none (g.P.Port.sight c.args.port.now);
  same = record { heap = refl; polls = refl };
  output = refl;
  work = refl;
}

pub do_step-requires-clause-open : goal.do_step-requires-clause-open
do_step-requires-clause-open g c =
    let s = g.P.Port.sight c.walk.port in
    let held = held_in c.walk.output c.walk.work in
    let root = root_at (g.P.Port.sight c.args.port.now).seat s.seat c.args.op.coll c.is_root-root.result c.walk.invariant.seat c.is_root-root.ensures.tells in
    let found = found_at s.seat.setup s.seat.rank _ _ c.args.op.coll c.walk.at _ c.setup-in-walk.ensures.gives c.rank-in-walk.ensures.gives c.step-next.ensures.gives in
    let is = c.walk.invariant.stands c.requires.open.0 c.requires.open.1 in
    (is.before, stands_here s s c.walk.self c.walk.self c.args.op.coll c.args.op.folding c.walk.at c.walk.hand c.is_root-root.result c.args.input.now held held root refl c.requires.open.0 is c.step-next.result found)

pub do_step-requires-clause-peer : goal.do_step-requires-clause-peer
do_step-requires-clause-peer g c =
    let s = g.P.Port.sight c.walk.port in
    let held = held_in c.walk.output c.walk.work in
    let root = root_at (g.P.Port.sight c.args.port.now).seat s.seat c.args.op.coll c.is_root-root.result c.walk.invariant.seat c.is_root-root.ensures.tells in
    let found = found_at s.seat.setup s.seat.rank _ _ c.args.op.coll c.walk.at _ c.setup-in-walk.ensures.gives c.rank-in-walk.ensures.gives c.step-next.ensures.gives in
    let is = c.walk.invariant.stands c.requires.open.0 c.requires.open.1 in
    peers-law s.seat.setup s.seat.rank c.args.op.coll c.walk.at c.step-next.result is.callable found

pub do_step-requires-clause-fits : goal.do_step-requires-clause-fits
do_step-requires-clause-fits g c =
    let s = g.P.Port.sight c.walk.port in
    let held = held_in c.walk.output c.walk.work in
    let root = root_at (g.P.Port.sight c.args.port.now).seat s.seat c.args.op.coll c.is_root-root.result c.walk.invariant.seat c.is_root-root.ensures.tells in
    let found = found_at s.seat.setup s.seat.rank _ _ c.args.op.coll c.walk.at _ c.setup-in-walk.ensures.gives c.rank-in-walk.ensures.gives c.step-next.ensures.gives in
    let is = c.walk.invariant.stands c.requires.open.0 c.requires.open.1 in
    fits_here s s c.walk.self c.walk.self c.args.op.coll c.args.op.folding c.walk.at c.walk.hand c.is_root-root.result c.args.input.now held held root refl c.step-next.result found is.fits

pub walk-preserved : goal.walk-preserved
walk-preserved g c =
    let s = g.P.Port.sight c.walk.port in
    let held = held_in c.walk.output c.walk.work in
    let root = root_at (g.P.Port.sight c.args.port.now).seat s.seat c.args.op.coll c.is_root-root.result c.walk.invariant.seat c.is_root-root.ensures.tells in
    let found = found_at s.seat.setup s.seat.rank _ _ c.args.op.coll c.walk.at _ c.setup-in-walk.ensures.gives c.rank-in-walk.ensures.gives c.step-next.ensures.gives in
    let t = g.P.Port.sight c.do_step.new.port in
    let b = c.do_step.new.self in
    let later = held_in c.do_step.new.output c.do_step.new.work in
    let one : length c.do_step.new.output ≡ length c.walk.output = omega (arith, c.do_step.auto.output) in
    let two : length c.do_step.new.work ≡ length c.walk.work = omega (arith, c.do_step.auto.work) in
    record {
      stands = λ start begun.
          let is = c.walk.invariant.stands start begun in
          done_there s t c.walk.self b c.args.op.coll c.args.op.folding c.walk.at c.walk.hand c.is_root-root.result c.args.input.now held later root c.do_step.ensures.seat start is c.step-next.result found one two
          (c.in-Ok.ensures.done is.before (stands_here s t c.walk.self b c.args.op.coll c.args.op.folding c.walk.at c.walk.hand c.is_root-root.result c.args.input.now held later root c.do_step.ensures.seat start is c.step-next.result found));
      seat = c.do_step.ensures.seat ∙ c.walk.invariant.seat;
      only = only_both c.walk.invariant.only c.do_step.ensures.only;
      same = record { heap = c.do_step.ensures.same.heap ∙ c.walk.invariant.same.heap; polls = c.do_step.ensures.same.polls ∙ c.walk.invariant.same.polls };
      output = one ∙ c.walk.invariant.output;
      work = two ∙ c.walk.invariant.work;
    }

pub returns-in-Err-clause-open : goal.returns-in-Err-clause-open
returns-in-Err-clause-open g c =
    let s = g.P.Port.sight c.walk.port in
    let held = held_in c.walk.output c.walk.work in
    let root = root_at (g.P.Port.sight c.args.port.now).seat s.seat c.args.op.coll c.is_root-root.result c.walk.invariant.seat c.is_root-root.ensures.tells in
    let found = found_at s.seat.setup s.seat.rank _ _ c.args.op.coll c.walk.at _ c.setup-in-walk.ensures.gives c.rank-in-walk.ensures.gives c.step-next.ensures.gives in
    let t = g.P.Port.sight c.do_step.new.port in
    let b = c.do_step.new.self in
    let later = held_in c.do_step.new.output c.do_step.new.work in
    let one : length c.do_step.new.output ≡ length c.walk.output = omega (arith, c.do_step.auto.output) in
    let two : length c.do_step.new.work ≡ length c.walk.work = omega (arith, c.do_step.auto.work) in
    λ start begun.
    let is = c.walk.invariant.stands start begun in
    subst (λ (x : GroupStop). IsInGroup start (in_group_call t b (op_in x) c.args.input.now later)) (sym c.group_stopped.ensures.gives)
    (stopped_there s t c.walk.self b c.args.op.coll c.args.op.folding c.walk.at c.walk.hand c.is_root-root.result c.args.input.now held later root c.do_step.ensures.seat start is c.step-next.result found c.in-Err.ensures.none c.in-Err.stop one two
    (c.in-Err.ensures.leaves is.before (stands_here s t c.walk.self b c.args.op.coll c.args.op.folding c.walk.at c.walk.hand c.is_root-root.result c.args.input.now held later root c.do_step.ensures.seat start is c.step-next.result found)))

pub returns-in-Err-clause-only : goal.returns-in-Err-clause-only
returns-in-Err-clause-only g c = only_both c.walk.invariant.only c.do_step.ensures.only

pub returns-in-Err-clause-why : goal.returns-in-Err-clause-why
returns-in-Err-clause-why g c =
    let s = g.P.Port.sight c.walk.port in
    let held = held_in c.walk.output c.walk.work in
    let root = root_at (g.P.Port.sight c.args.port.now).seat s.seat c.args.op.coll c.is_root-root.result c.walk.invariant.seat c.is_root-root.ensures.tells in
    let found = found_at s.seat.setup s.seat.rank _ _ c.args.op.coll c.walk.at _ c.setup-in-walk.ensures.gives c.rank-in-walk.ensures.gives c.step-next.ensures.gives in
    let t = g.P.Port.sight c.do_step.new.port in
    let b = c.do_step.new.self in
    let later = held_in c.do_step.new.output c.do_step.new.work in
    subst (λ (x : GroupStop). SaysWhyGroup (g.P.Port.sight c.args.port.now) c.args.self.now.polls (in_group_call t b (op_in x) c.args.input.now later) x) (sym c.group_stopped.ensures.gives)
    (why_there s t c.walk.self b c.args.op.coll c.args.op.folding c.walk.at c.walk.hand c.is_root-root.result c.args.input.now held later root c.do_step.ensures.seat (g.P.Port.sight c.args.port.now) c.args.self.now.polls c.step-next.result c.in-Err.stop found c.walk.invariant.same.polls c.walk.invariant.only c.in-Err.ensures.why)

pub returns-clause-ended : goal.returns-clause-ended
returns-clause-ended g c =
    let s = g.P.Port.sight c.walk.port in
    let s0 = g.P.Port.sight c.args.port.now in
    let held = held_in c.walk.output c.walk.work in
    let root = root_at s0.seat s.seat c.args.op.coll c.is_root-root.result c.walk.invariant.seat c.is_root-root.ensures.tells in
    let past = c.walk-test.false in
    let many = count_at s0.seat s.seat _ _ c.args.op.coll c.steps-count.result c.walk.invariant.seat c.setup.ensures.gives c.rank.ensures.gives c.steps-count.ensures.gives in
    λ start begun.
    let over = all_done s s c.walk.self c.walk.self c.args.op.coll c.args.op.folding c.walk.at c.walk.hand c.is_root-root.result c.args.input.now held held root refl start (c.walk.invariant.stands start begun) (omega (arith, past, many)) in
    record { run = record { calls = over.run.calls; did = over.run.did; made = over.run.made }; free = over.free }
