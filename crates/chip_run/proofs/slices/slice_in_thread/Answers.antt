use Rattle.std.proofs.Common.{ap}
use Rattle.scc_mesh.specs.AwayRanks.{Ticket}
use Rattle.scc_mesh.specs.Scenes.{sight_away}
use Rattle.scc_mesh.specs.Turns.{AfterTurnAway}
use Rattle.scc_mesh.proofs.TurnLaws.{came_back, stands_there}
use Rattle.chip_run.proofs.slices.slice_in_thread.Goals as goal

pub slice-port-requires : goal.slice-port-requires
slice-port-requires g c = record { ties = stands_there (g.W.Worker.behaviour.tied c.args.worker.now) c.args.words.space.now.about c.args.token c.port.result c.port.ensures.gives c.requires.ties }

pub returns : goal.returns
returns g c =
    let back : AfterTurnAway (g.W.Worker.behaviour.tied c.slice-port.new.worker) c.args.words.space.now.about c.args.token c.into_token.result =
    came_back (g.W.Worker.behaviour.tied c.slice-port.new.worker) c.args.words.space.now.about c.args.token c.into_token.result c.port.result c.slice-port.result c.port.ensures.gives
    (c.slice-port.ensures.slice.turns.events, c.slice-port.ensures.slice.turns.did) c.slice-port.ensures.ties c.into_token.ensures.gives in
    record {
      table = ap (λ (t : Ticket). t.table) back.is;
      rank = ap (λ (t : Ticket). t.rank) back.is;
      ties = back.here;
      slice = record {
        first = sight_away c.port.result.about c.port.result.ticket;
        last = sight_away c.slice-port.result.about c.slice-port.result.ticket;
        setup_is = ap (λ x. x.about) c.port.ensures.gives;
        rank_is = ap (λ x. x.ticket.rank) c.port.ensures.gives;
        slice = c.slice-port.ensures.slice;
      };
    }
