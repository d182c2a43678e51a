use Rattle.std.proofs.Common.{List, ◌<◌, ◌∙◌, ap, sym, subst}
use Rattle.scc_base.specs.declared.events.Event.{Event}
use Rattle.chip_memory.specs.Chips.{TurnChipView, IsTurnChip, chip_view, with_turn}
use Rattle.chip_memory.proofs.ChipLaws.{chip_turned, view_turned}
use Rattle.chip_memory.proofs.chip.TurnChip.turn_to.Goals as goal

pub invariant_of-self : goal.invariant_of-self
invariant_of-self c =
    let p = c.self.inside in
    subst (λ (own : List Event). IsTurnChip p.setup c.args.rank p.words own) (sym c.new-self-inside.ensures)
    (chip_turned p.setup p.rank c.args.rank p.words p.own.items c.self.invariant
    (subst (λ (v : TurnChipView). c.args.rank < v.setup.nue) (sym c.self.view_is) c.requires.below))

pub returns : goal.returns
returns c =
    let p = c.self.inside in
    record {
      turns = ap (λ (own : List Event). chip_view p.setup c.args.rank p.words own) c.new-self-inside.ensures
          ∙ view_turned p.setup p.rank c.args.rank p.words p.own.items c.self.invariant
          ∙ ap (λ (v : TurnChipView). with_turn v c.args.rank) c.self.view_is;
    }
