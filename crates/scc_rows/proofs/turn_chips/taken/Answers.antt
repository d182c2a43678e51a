use Rattle.std.proofs.Common.{Option, is_none, ap}
use Rattle.scc_proto.specs.Stages.{FlagWords}
use Rattle.scc_proto.proofs.Runs.IdleLaws.{nothing_held}
use Rattle.scc_rows.proofs.turn_chips.taken.Goals as goal

pub take-requires : goal.take-requires
take-requires g c = record { permitted = ap (λ (o : Option FlagWords). is_none o) (nothing_held (g.P.Port.sight c.args.port.now) c.requires.fresh c.of.result) }
