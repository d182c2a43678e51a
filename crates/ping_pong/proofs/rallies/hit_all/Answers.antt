use Rattle.std.proofs.Common.{List, IfErr, ap, subst}
use Rattle.scc_base.specs.Calls.{DataCall}
use Rattle.scc_proto.specs.Stages.{Record}
use Rattle.scc_mesh.specs.Scenes.{sight_away}
use Rattle.scc_mesh.proofs.HandOuts.{same_ticket}
use Rattle.sync_flags.proofs.TurnLemmas.{record_at_start}
use Rattle.ping_pong.specs.GivingUp.{HitStops}
use Rattle.ping_pong.proofs.RallyLemmas.{fresh_calls, map_ok}
use Rattle.ping_pong.proofs.rallies.hit_all.Goals as goal

pub hit-requires-clause-free : goal.hit-requires-clause-free
hit-requires-clause-free c = c.requires.fresh (sight_away c.args.port.now.about c.args.port.now.ticket) c.requires.seat.2

pub returns-clause-same : goal.returns-clause-same
returns-clause-same c = same_ticket c.args.port.now c.hit.new.port c.hit.ensures.seat

pub returns-clause-calls : goal.returns-clause-calls
returns-clause-calls c = map_ok c.hit.result _ _ (λ done calls. fresh_calls c.args.port.now c.hit.new.port c.requires.seat.0 c.requires.seat.1 c.requires.seat.2 c.hit.ensures.seat calls) c.hit.ensures.calls

pub returns-clause-stopped : goal.returns-clause-stopped
returns-clause-stopped c =
    let begun = sight_away c.args.port.now.about c.args.port.now.ticket in
    let now = sight_away c.hit.new.port.about c.hit.new.port.ticket in
    subst (λ (base : List DataCall). IfErr c.hit.result (λ stop. HitStops c.args.station.now.polls base c.hit.new.seen now stop))
    (ap (λ (rec : Record). rec.calls) (record_at_start begun c.requires.seat.2)) c.hit.ensures.stopped
