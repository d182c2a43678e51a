use Rattle.steps_program.proofs.IdleLemmas.{idle_home}
use Rattle.steps_program.proofs.ports.make_at_home.Goals as goal

pub make_many-requires : goal.make_many-requires
make_many-requires c =
    let port = c.port-port.result in
    record { idle = idle_home c.args.chip.now port.chip.now port.rank port.chip.ghost_name c.port-port.ensures.same c.requires.empty }
