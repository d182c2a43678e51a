use Rattle.std.proofs.Common.{◌≡◌, ◌⊎◌, List, ◌∙◌, ap, sym, subst}
use Rattle.scc_proto.specs.Histories.{memory_from}
use Rattle.scc_proto.specs.Words.{RankEvent, zeros}
use Rattle.chip_memory.specs.Chips.{TurnChipView, all_events}
use Rattle.chip_memory.specs.Steps.{stands_by}
use Rattle.chip_memory.proofs.ChipLaws.{all_is, register_bit}
use Rattle.chip_memory.proofs.chip.TurnChip.stands_at.Goals as goal

pub returns-clause-gives : goal.returns-clause-gives
returns-clause-gives c =
    let p = c.self.inside in
    c.stands_at.ensures.gives
    ∙ ap (λ (l : List RankEvent). stands_by c.args.access c.args.place (memory_from zeros l)) (sym (all_is p.setup p.rank p.words p.own.items c.self.invariant))
    ∙ ap (λ (v : TurnChipView). stands_by c.args.access c.args.place (memory_from zeros (all_events v))) c.self.view_is

pub returns-clause-register : goal.returns-clause-register
returns-clause-register c =
    let p = c.self.inside in
    subst (λ (v : TurnChipView). ((memory_from zeros (all_events v)).register c.args.place.core ≡ 0) ⊎ ((memory_from zeros (all_events v)).register c.args.place.core ≡ 1)) c.self.view_is
    (subst (λ (l : List RankEvent). ((memory_from zeros l).register c.args.place.core ≡ 0) ⊎ ((memory_from zeros l).register c.args.place.core ≡ 1))
    (sym (all_is p.setup p.rank p.words p.own.items c.self.invariant))
    (register_bit p.setup p.words c.self.invariant.valid c.self.invariant.run c.self.invariant.permitted c.args.place.core))
