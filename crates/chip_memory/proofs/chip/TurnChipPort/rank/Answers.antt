use Rattle.std.proofs.Common.{subst}
use Rattle.scc_proto.specs.Ports.{IsSoundPort}
use Rattle.chip_memory.specs.Chips.{TurnChipView, turn_sight}
use Rattle.chip_memory.proofs.ChipLaws.{chip_is_sound}
use Rattle.chip_memory.proofs.chip.TurnChipPort.rank.Goals as goal

pub returns-clause-sound : goal.returns-clause-sound
returns-clause-sound c =
    let p = c.self.inside in
    subst (λ (v : TurnChipView). IsSoundPort (turn_sight v)) c.self.view_is (chip_is_sound p.setup p.rank p.words p.own.items c.self.invariant)
