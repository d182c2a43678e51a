use Rattle.std.proofs.Common.{◌≡◌, ◌∙◌, Bool, refl, subst, arith}
use Rattle.scc_base.specs.Places.{WordAt}
use Rattle.put_get.proofs.StepLemmas.{steps_none, steps_both}
use Rattle.scc_proto.proofs.PortLaws.{seat_kept}
use Rattle.sync_flags.specs.Flags.{flag_of}
use Rattle.sync_flags.specs.Looks.{ReadsFlag, LooksFailed, FindsFlag}
use Rattle.sync_flags.specs.Tries.{AtFlag}
use Rattle.sync_flags.proofs.LookLemmas.{none_yet, one_more, same_by_beq}
use Rattle.sync_flags.proofs.WaitLemmas.{failed_did, failed_stalls, found_ends, no_stall, stall, same_flag}
use Rattle.sync_flags.proofs.looks.wait_until.Goals as goal

pub loop-init : goal.loop-init
loop-init g c = record {
  looked = none_yet _ _ _ _ _;
  seat = refl;
  empty = c.requires.empty;
  steps = steps_none g.P.Port.stepped (g.P.Port.sight c.args.port.now);
}

pub loop-preserved : goal.loop-preserved
loop-preserved g c =
    let i = c.loop.invariant in
    let at = same_flag (g.P.Port.sight c.loop.port).seat (g.P.Port.sight c.args.port.now).seat c.rank-me.result c.args.f i.seat c.rank-me.ensures.gives in
    let reads = subst (λ (p : WordAt). ReadsFlag (g.P.Port.sight c.loop.port) c.loop.core p c.args.f.bit c.flag_read.result (g.P.Port.sight c.flag_read.new.port) c.flag_read.new.core) at c.flag_read.ensures.reads in
    record {
      looked = one_more i.looked reads c.if-flag_read-want.false;
      seat = seat_kept (g.P.Port.sight c.loop.port) _ (g.P.Port.sight c.flag_read.new.port) reads.looks.did ∙ i.seat;
      empty = c.flag_read.ensures.empty;
      steps = steps_both g.P.Port.stepped _ _ _ _ _ (failed_did i.looked) reads.looks.did i.steps c.flag_read.ensures.steps;
    }

pub returns-then-flag_read-want-clause-steps : goal.returns-then-flag_read-want-clause-steps
returns-then-flag_read-want-clause-steps g c =
    let i = c.loop.invariant in
    steps_both g.P.Port.stepped _ _ _ _ _ (failed_did i.looked) c.flag_read.ensures.reads.looks.did i.steps c.flag_read.ensures.steps

pub returns-then-flag_read-want-clause-stalls : goal.returns-then-flag_read-want-clause-stalls
returns-then-flag_read-want-clause-stalls g c =
    let i = c.loop.invariant in
    let s0 = g.P.Port.sight c.args.port.now in
    let at = same_flag (g.P.Port.sight c.loop.port).seat s0.seat c.rank-me.result c.args.f i.seat c.rank-me.ensures.gives in
    let reads = subst (λ (p : WordAt). ReadsFlag (g.P.Port.sight c.loop.port) c.loop.core p c.args.f.bit c.flag_read.result (g.P.Port.sight c.flag_read.new.port) c.flag_read.new.core) at c.flag_read.ensures.reads in
    let found = subst (λ (b : Bool). ReadsFlag (g.P.Port.sight c.loop.port) c.loop.core (flag_of s0.seat.setup s0.seat.rank c.args.f) c.args.f.bit b (g.P.Port.sight c.flag_read.new.port) c.flag_read.new.core) (same_by_beq c.flag_read.result c.args.want c.if-flag_read-want.true) reads in
    let finds : FindsFlag s0 c.args.core.now (flag_of s0.seat.setup s0.seat.rank c.args.f) c.args.f.bit c.args.want c.args.polls (g.P.Port.sight c.flag_read.new.port) c.flag_read.new.core
    = record { failed = c.loop.counter; few = c.loop-test.true; then = g.P.Port.sight c.loop.port; core = c.loop.core; looks = i.looked; reads = found } in
    λ events did. no_stall tt (AtFlag (flag_of s0.seat.setup s0.seat.rank c.args.f) c.args.f.bit c.args.want) c.args.polls events c.requires.some
    (found_ends finds c.place-place.ensures.below events did)

pub returns-clause-waits : goal.returns-clause-waits
returns-clause-waits g c =
    let s0 = g.P.Port.sight c.args.port.now in
    let all : c.loop.counter ≡ c.args.polls = omega arith in
    (subst (λ n. LooksFailed s0 c.args.core.now (flag_of s0.seat.setup s0.seat.rank c.args.f) c.args.f.bit c.args.want n (g.P.Port.sight c.loop.port) c.loop.core) all c.loop.invariant.looked, cc)

pub returns-clause-stalls : goal.returns-clause-stalls
returns-clause-stalls g c =
    let s0 = g.P.Port.sight c.args.port.now in
    let all : c.loop.counter ≡ c.args.polls = omega arith in
    let looked = subst (λ n. LooksFailed s0 c.args.core.now (flag_of s0.seat.setup s0.seat.rank c.args.f) c.args.f.bit c.args.want n (g.P.Port.sight c.loop.port) c.loop.core) all c.loop.invariant.looked in
    λ events did. stall (record { spot = c.spot_of_flag.result; polls = c.args.polls }) (AtFlag (flag_of s0.seat.setup s0.seat.rank c.args.f) c.args.f.bit c.args.want) c.args.polls events
    (failed_stalls looked c.place-place.ensures.below events did)
