use Rattle.std.proofs.Common.{◌<◌, arith, refl, subst}
use Rattle.scc_proto.specs.Ports.{Seat}
use Rattle.coll_more.specs.Turns.{more_left}
use Rattle.station.proofs.CollLemmas.{falls, only_so_far, way_differs, way_ends, way_moved, way_none, way_stalls, way_waited}
use Rattle.station.proofs.collectives.take_turns.Goals as goal

pub turns-init : goal.turns-init
turns-init g c = let some = c.requires.some in (way_none _, omega (arith, some))

pub turn-requires : goal.turn-requires
turn-requires g c = record { stands = (c.requires.stands.0, c.turns.invariant.0.stands c.requires.stands.0 c.requires.stands.1) }

pub returns-in-Done : goal.returns-in-Done
returns-in-Done g c = record {
  ended = way_ends c.turns.invariant.0 c.in-Done.ensures.turned (λ base is. c.in-Done.ensures.ended base is refl);
  stands = tt;
  why = tt;
  only = only_so_far c.turns.invariant.0 c.in-Done.ensures.turned;
}

pub returns-in-Mismatch : goal.returns-in-Mismatch
returns-in-Mismatch g c = record {
  ended = tt;
  stands = λ base is. c.in-Mismatch.ensures.stands base (c.turns.invariant.0.stands base is);
  why = way_differs c.turns.invariant.0 c.in-Mismatch.ensures.turned;
  only = only_so_far c.turns.invariant.0 c.in-Mismatch.ensures.turned;
}

pub turns-smaller-in-Moved : goal.turns-smaller-in-Moved
turns-smaller-in-Moved g c =
    let less = subst (λ (seat : Seat). more_left seat c.turn.new.self c.turn.new.slot < more_left seat c.turns.op c.turns.slot) c.turns.invariant.0.seat c.in-Moved.ensures.turned.means.0 in
    falls less c.turns.invariant.1

pub turns-preserved-in-Moved : goal.turns-preserved-in-Moved
turns-preserved-in-Moved g c = let some = c.requires.some in (way_moved c.turns.invariant.0 c.in-Moved.ensures.turned c.in-Moved.ensures.stands, omega (arith, some))

pub returns-then-failed-polls : goal.returns-then-failed-polls
returns-then-failed-polls g c = record {
  ended = tt;
  stands = λ base is. c.in-Waiting.ensures.stands base (c.turns.invariant.0.stands base is);
  why = (refl, way_stalls c.turns.invariant.0 c.in-Waiting.ensures.turned c.in-Waiting.ensures.stands c.args.polls c.if-failed-polls.true);
  only = only_so_far c.turns.invariant.0 c.in-Waiting.ensures.turned;
}

pub turns-preserved : goal.turns-preserved
turns-preserved g c =
    let more = c.if-failed-polls.false in
    (way_waited c.turns.invariant.0 c.in-Waiting.ensures.turned c.in-Waiting.ensures.stands, omega (arith, more))
