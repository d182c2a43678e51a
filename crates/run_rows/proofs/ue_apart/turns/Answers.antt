use Rattle.std.proofs.Common.{[], ◌++◌}
use Rattle.scc_proto.proofs.PortLaws.{did_both, did_nothing}
use Rattle.run_rows.proofs.ue_apart.turns.Goals as goal

pub loop-init : goal.loop-init
loop-init g c = record { stands = c.requires.stands; did = ([], did_nothing (g.P.Port.sight c.args.port.now)) }

pub loop-preserved : goal.loop-preserved
loop-preserved g c =
    let old = c.loop.invariant.did in let new = c.turn.ensures.did in record {
      stands = c.turn.ensures.stands;
      did = (old.0 ++ new.0, did_both (g.P.Port.sight c.args.port.now) old.0 (g.P.Port.sight c.loop.port) new.0 (g.P.Port.sight c.turn.new.port) old.1 new.1);
    }
