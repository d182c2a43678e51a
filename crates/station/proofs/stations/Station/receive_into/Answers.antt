use Rattle.std.proofs.Common.{true, false, ◌∙◌}
use Rattle.station.specs.Groups.{held_in}
use Rattle.station.proofs.StepLemmas.{into_left}
use Rattle.station.proofs.stations.Station.receive_into.Goals as goal

pub returns-in-Err-clause-leaves : goal.returns-in-Err-clause-leaves
returns-in-Err-clause-leaves g c =
    λ part before same at. into_left (g.P.Port.sight c.args.port.now) (g.P.Port.sight c.finish_receive.new.port) c.args.self.now c.finish_receive.new.self c.args.op true (held_in c.args.output.now c.args.work.now) c.finish_receive.new.buffer part before (same ∙ c.if-root.true) at c.args.self.now.polls c.in-Err.stop c.receive_stopped.result c.receive_stopped.ensures.gives c.in-Err.ensures.stops c.in-Err.ensures.why

pub returns-in-Err-finish_receive-clause-leaves : goal.returns-in-Err-finish_receive-clause-leaves
returns-in-Err-finish_receive-clause-leaves g c =
    λ part before same at. into_left (g.P.Port.sight c.args.port.now) (g.P.Port.sight c.finish_receive-else-root.new.port) c.args.self.now c.finish_receive-else-root.new.self c.args.op false (held_in c.args.output.now c.args.work.now) c.finish_receive-else-root.new.buffer part before (same ∙ c.if-root.false) at c.args.self.now.polls c.in-Err-finish_receive.stop c.receive_stopped-in-Err-finish_receive.result c.receive_stopped-in-Err-finish_receive.ensures.gives c.in-Err-finish_receive.ensures.stops c.in-Err-finish_receive.ensures.why
