use Rattle.std.proofs.Common.{subst, sym}
use Rattle.scc_proto.specs.Ports.{record_in}
use Rattle.coll_more.specs.Ops.{MoreAt}
use Rattle.station.specs.Collectives.{IsInCollective}
use Rattle.station.proofs.CollLemmas.{collective_begins}
use Rattle.station.proofs.stations.Station.collective.Goals as goal

pub finish_collective-requires : goal.finish_collective-requires
finish_collective-requires g c =
    let s = g.P.Port.sight c.args.port.now in
    record {
      «open» = (
        (record_in s).calls,
        subst (λ (op : MoreAt). IsInCollective (record_in s).calls s c.args.self.now op c.args.src.now c.args.dst.now) (sym c.new.ensures.starts)
            (collective_begins s c.args.self.now c.args.more c.args.len c.args.src.now c.args.dst.now c.requires.free c.requires.fit),
      );
    }
