use Rattle.std.proofs.Common.{◌∙◌, arith}
use Rattle.scc_proto.proofs.Runs.IdleLaws.{idle_at_start, idle_may_store}
use Rattle.scc_proto.proofs.PortLaws.{seat_kept}
use Rattle.scc_rows.proofs.away_ranks.store_and_load.Goals as goal

pub store-requires : goal.store-requires
store-requires g c =
    let sight = g.P.Port.sight c.args.port.now in
    let place = c.own_word-place.ensures in
    record { permitted = idle_may_store sight sight.seat.rank 240 0 c.args.value place.valid place.below (omega arith) (idle_at_start sight c.requires.none) c.own_word-place.result place.gives }

pub returns : goal.returns
returns g c = record { kept = seat_kept _ _ _ c.load.ensures.did ∙ seat_kept _ _ _ c.store.ensures.did }
