use Rattle.chip_memory.proofs.ChipLaws.{was_step, went_on}
use Rattle.chip_memory.proofs.chip.TurnChip.make.Goals as goal

pub invariant_of-self : goal.invariant_of-self
invariant_of-self c =
    let p = c.self.inside in
    let w = went_on p.setup p.rank p.words p.own.items c.self.invariant c.args.self.now c.self.view_is c.args.event (c.requires.event c.make.ensures.there) c.requires.step c.requires.permitted
    c.make.new.self c.and-self-inside.result.items c.make.ensures.makes c.and-self-inside.ensures in
    w.chip

pub returns-clause-did : goal.returns-clause-did
returns-clause-did c =
    let p = c.self.inside in
    let w = went_on p.setup p.rank p.words p.own.items c.self.invariant c.args.self.now c.self.view_is c.args.event (c.requires.event c.make.ensures.there) c.requires.step c.requires.permitted
    c.make.new.self c.and-self-inside.result.items c.make.ensures.makes c.and-self-inside.ensures in
    w.did

pub returns-clause-step : goal.returns-clause-step
returns-clause-step c = was_step c.args.self.now c.args.event c.requires.step

pub returns-clause-sound : goal.returns-clause-sound
returns-clause-sound c =
    let p = c.self.inside in
    let w = went_on p.setup p.rank p.words p.own.items c.self.invariant c.args.self.now c.self.view_is c.args.event (c.requires.event c.make.ensures.there) c.requires.step c.requires.permitted
    c.make.new.self c.and-self-inside.result.items c.make.ensures.makes c.and-self-inside.ensures in
    w.sound
