use Rattle.std.proofs.Common.{◌∙◌, subst}
use Rattle.station.specs.Groups.{IsInGroup, held_in, in_group_call, op_in}
use Rattle.station.specs.declared.stops.GroupStop.{GroupStop}
use Rattle.station_rows.proofs.groups_of_three.go_on.Goals as goal

pub rounds-preserved : goal.rounds-preserved
rounds-preserved g c =
    let start = c.rounds.invariant.stands.0 in
    let held = held_in c.rounds.output c.rounds.work in
    let stood = subst (λ (stop : GroupStop). IsInGroup start (in_group_call (g.P.Port.sight c.rounds.port) c.rounds.station (op_in stop) c.args.input.now held)) c.in-Stalled.is c.rounds.invariant.stands.1 in
    record {
      stands = (start, c.in-Err.ensures.open start stood);
      seat = c.group_on.ensures.seat ∙ c.rounds.invariant.seat;
    }
