use Rattle.std.proofs.Common.{List, IfErr, ap, subst}
use Rattle.scc_base.specs.Calls.{DataCall}
use Rattle.scc_proto.specs.Stages.{Record}
use Rattle.scc_mesh.specs.Scenes.{sight_away}
use Rattle.scc_mesh.proofs.HandOuts.{same_ticket}
use Rattle.sync_flags.proofs.TurnLemmas.{record_at_start}
use Rattle.ping_pong.specs.GivingUp.{ServeStops}
use Rattle.ping_pong.proofs.RallyLemmas.{fresh_calls, map_ok}
use Rattle.ping_pong.proofs.rallies.serve_all.Goals as goal

pub serve-requires-clause-free : goal.serve-requires-clause-free
serve-requires-clause-free c = c.requires.fresh (sight_away c.args.port.now.about c.args.port.now.ticket) c.requires.seat.2

pub returns-clause-same : goal.returns-clause-same
returns-clause-same c = same_ticket c.args.port.now c.serve.new.port c.serve.ensures.seat

pub returns-clause-calls : goal.returns-clause-calls
returns-clause-calls c = map_ok c.serve.result _ _ (λ done calls. fresh_calls c.args.port.now c.serve.new.port c.requires.seat.0 c.requires.seat.1 c.requires.seat.2 c.serve.ensures.seat calls) c.serve.ensures.calls

pub returns-clause-stopped : goal.returns-clause-stopped
returns-clause-stopped c =
    let begun = sight_away c.args.port.now.about c.args.port.now.ticket in
    let now = sight_away c.serve.new.port.about c.serve.new.port.ticket in
    subst (λ (base : List DataCall). IfErr c.serve.result (λ stop. ServeStops c.args.station.now.polls base c.args.balls.now c.serve.new.back now stop))
    (ap (λ (rec : Record). rec.calls) (record_at_start begun c.requires.seat.2)) c.serve.ensures.stopped
