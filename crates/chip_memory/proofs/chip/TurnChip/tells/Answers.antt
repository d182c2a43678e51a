use Rattle.std.proofs.Common.{List, ◌<◌, sym, subst}
use Rattle.scc_base.specs.Setups.{IsSetup}
use Rattle.scc_proto.specs.Histories.{IsPermittedRun}
use Rattle.scc_proto.specs.Stages.{blank}
use Rattle.scc_proto.specs.Words.{IsRun, RankEvent, zeros}
use Rattle.chip_memory.specs.Chips.{TurnChipView, all_events}
use Rattle.chip_memory.proofs.ChipLaws.{all_is}
use Rattle.chip_memory.proofs.chip.TurnChip.tells.Goals as goal

pub returns-clause-run : goal.returns-clause-run
returns-clause-run c =
    let p = c.self.inside in
    subst (λ (v : TurnChipView). IsRun zeros (all_events v)) c.self.view_is
    (subst (λ (l : List RankEvent). IsRun zeros l) (sym (all_is p.setup p.rank p.words p.own.items c.self.invariant)) c.self.invariant.run)

pub returns-clause-permitted : goal.returns-clause-permitted
returns-clause-permitted c =
    let p = c.self.inside in
    subst (λ (v : TurnChipView). IsPermittedRun v.setup (λ r. blank) (all_events v)) c.self.view_is
    (subst (λ (l : List RankEvent). IsPermittedRun p.setup (λ r. blank) l) (sym (all_is p.setup p.rank p.words p.own.items c.self.invariant)) c.self.invariant.permitted)

pub returns-clause-valid : goal.returns-clause-valid
returns-clause-valid c = subst (λ (v : TurnChipView). IsSetup v.setup) c.self.view_is c.self.invariant.valid

pub returns-clause-below : goal.returns-clause-below
returns-clause-below c = subst (λ (v : TurnChipView). v.rank < v.setup.nue) c.self.view_is c.self.invariant.below
