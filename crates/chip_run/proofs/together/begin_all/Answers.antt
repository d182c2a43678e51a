use Rattle.std.proofs.Common.{◌+◌, refl, ◌∙◌, ap, arith, slice_index_or}
use Rattle.chip_run.specs.declared.members.Member.{Member}
use Rattle.chip_run.proofs.ThreadLaws.{none_served, all_served, away_yet}
use Rattle.chip_run.proofs.TogetherLaws.{served_one}
use Rattle.chip_run.proofs.together.begin_all.Goals as goal

pub loop-at-init : goal.loop-at-init
loop-at-init g c = none_served _ c.args.members.now

pub begin-requires : goal.begin-requires
begin-requires g c =
    let about = c.args.words.space.now.about in
    let table = c.args.words.space.now.table in
    let d = c.index-members-at.result in record {
      away = away_yet g.W.Worker.behaviour.tied about about (c.args.start + c.loop-at.at) (slice_index_or c.args.members.now c.loop-at.at d) (slice_index_or c.loop-at.members c.loop-at.at d) refl
          (c.loop-at.invariant.left c.loop-at.at d (omega arith)) table table refl (c.requires.away c.loop-at.at d c.loop-at-test.true);
    }

pub loop-at-preserved : goal.loop-at-preserved
loop-at-preserved g c =
    let d = c.index-members-at.result in
    let so = c.loop-at.invariant in
    served_one _ c.args.members.now c.loop-at.members c.loop-at.at c.begin.new.member d c.loop-at-test.true so
    (c.begin.ensures.begins ∙ ap (λ (m : Member g.row.W.Denot). record m { failed = 0 }) (so.left c.loop-at.at d (omega arith)), c.begin.ensures.passed)

pub returns : goal.returns
returns g c = record { served = all_served _ c.loop-at.at _ c.args.members.now c.loop-at.members c.loop-at.auto.at-end c.loop-at-test.false c.loop-at.invariant }
