use Rattle.std.proofs.Common.{List, [], sym, subst}
use Rattle.scc_base.specs.declared.events.Event.{Event}
use Rattle.scc_proto.specs.Words.{RankEvent}
use Rattle.chip_memory.specs.Chips.{IsTurnChip}
use Rattle.chip_memory.proofs.ChipLaws.{chip_at_start}
use Rattle.chip_memory.proofs.chip.TurnChip.new.Goals as goal

pub invariant_of-result : goal.invariant_of-result
invariant_of-result c =
    subst (λ (own : List Event). IsTurnChip c.args.setup c.args.rank c.in_ok-words.words own) (sym c.new-2.ensures)
    (subst (λ (all : List RankEvent). IsTurnChip c.args.setup c.args.rank all []) (sym c.in_ok-words.ensures.gives)
    (chip_at_start c.args.setup c.args.rank c.nue-nue.ensures.valid c.requires.below))
