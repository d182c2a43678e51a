use Rattle.std.proofs.Common.{◌≡◌, inl, inr, [], Result, IfErr, IfOk, refl, ap, subst, sym, ◌∙◌}
use Rattle.std.proofs.lemmas.Result.{IfErr-weaker}
use Rattle.scc_proto.specs.Records.{record_of}
use Rattle.scc_mesh.specs.AwayRanks.{Ticket}
use Rattle.scc_mesh.specs.Scenes.{sight_away}
use Rattle.station.specs.declared.stops.Stop.{Stop}
use Rattle.scc_base.specs.Worlds.{world_setup}
use Rattle.ping_pong.specs.GivingUp.{ServeStops}
use Rattle.ping_pong.specs.Rallies.{serves}
use Rattle.ping_pong.proofs.RallyLemmas.{map_ok, rallied}
use Rattle.ping_pong.proofs.rallies.rally.Goals as goal

pub returns-in-Ok-clause-seen : goal.returns-in-Ok-clause-seen
returns-in-Ok-clause-seen g c =
    let served = subst (λ (r : Result Unit Stop). IfOk r (λ done. (record_of (world_setup 2) 0 c.play-served.new.at_one.ticket.events).calls ≡ serves c.args.balls.now c.play-served.new.back)) c.in-Ok.is c.play-served.ensures.served in
    map_ok c.play-served.result.1 _ _
    (λ done hit. (rallied c.gather_both.new.chip (world_setup 2) _ _ c.args.balls.now c.play-served.new.seen c.play-served.new.back c.gather_both.ensures.about refl
    (c.gather_both.ensures.first ∙ ap (λ (t : Ticket). t.events) c.into_token-first.ensures.gives) (c.gather_both.ensures.second ∙ ap (λ (t : Ticket). t.events) c.into_token-second.ensures.gives)
    c.agrees.ensures.messages served hit (c.play-served.ensures.as_many.0 ∙ c.requires.as_many.0) c.play-served.ensures.as_many.1).0)
    c.play-served.ensures.hit

pub returns-in-Ok-clause-back : goal.returns-in-Ok-clause-back
returns-in-Ok-clause-back g c =
    let served = subst (λ (r : Result Unit Stop). IfOk r (λ done. (record_of (world_setup 2) 0 c.play-served.new.at_one.ticket.events).calls ≡ serves c.args.balls.now c.play-served.new.back)) c.in-Ok.is c.play-served.ensures.served in
    map_ok c.play-served.result.1 _ _
    (λ done hit. (rallied c.gather_both.new.chip (world_setup 2) _ _ c.args.balls.now c.play-served.new.seen c.play-served.new.back c.gather_both.ensures.about refl
    (c.gather_both.ensures.first ∙ ap (λ (t : Ticket). t.events) c.into_token-first.ensures.gives) (c.gather_both.ensures.second ∙ ap (λ (t : Ticket). t.events) c.into_token-second.ensures.gives)
    c.agrees.ensures.messages served hit (c.play-served.ensures.as_many.0 ∙ c.requires.as_many.0) c.play-served.ensures.as_many.1).1)
    c.play-served.ensures.hit

pub returns-in-Err-clause-stopped : goal.returns-in-Err-clause-stopped
returns-in-Err-clause-stopped g c =
    let port = c.play-served.new.at_one in
    let now = sight_away port.about port.ticket in
    let events = c.gather_both.ensures.first ∙ ap (λ (t : Ticket). t.events) c.into_token-first.ensures.gives in
    let about = c.play-served.ensures.about.0 ∙ sym c.gather_both.ensures.about in
    let stops = subst (λ (r : Result Unit Stop). IfErr r (λ stop. ServeStops c.args.one.now.polls [] c.args.balls.now c.play-served.new.back now stop)) c.in-Err.is c.play-served.ensures.serve_stopped in
    inl (now, record { setup = about; is_rank = c.play-served.ensures.ranks.0; events = sym events }, stops)

pub returns-in-Ok-clause-stopped : goal.returns-in-Ok-clause-stopped
returns-in-Ok-clause-stopped g c =
    let port = c.play-served.new.at_other in
    let now = sight_away port.about port.ticket in
    let events = c.gather_both.ensures.second ∙ ap (λ (t : Ticket). t.events) c.into_token-second.ensures.gives in
    let about = c.play-served.ensures.about.1 ∙ sym c.gather_both.ensures.about in
    IfErr-weaker c.play-served.result.1 _ _
    (λ stop stops. inr (now, record { setup = about; is_rank = c.play-served.ensures.ranks.1; events = sym events }, stops)) c.play-served.ensures.hit_stopped
