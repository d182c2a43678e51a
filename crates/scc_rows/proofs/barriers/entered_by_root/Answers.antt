use Rattle.std.proofs.Common.{ap}
use Rattle.put_get.specs.Cores.{Private}
use Rattle.scc_rows.proofs.EntrantLemmas.{root_starts}
use Rattle.scc_rows.proofs.barriers.entered_by_root.Goals as goal

pub barrier-requires-clause-stands : goal.barrier-requires-clause-stands
barrier-requires-clause-stands c =
    root_starts c.args.chip.now c.port-port.result.chip.now c.port-port.result.rank c.port-port.result.chip.ghost_name c.new-core.result c.new.result c.new-parity.result
    c.port-port.ensures.same c.requires.new (ap (λ (x : Private). x.out) c.new-core.ensures) c.new.ensures.starts c.new-parity.ensures.unset c.requires.world
