use Rattle.std.proofs.Common.{Bool, ◌&&◌, ◌∙◌, ap}
use Rattle.rank_monitor.specs.declared.works.Standing.TheVariants as standing
use Rattle.rank_monitor.proofs.StageLaws.{taken_whole}
use Rattle.rank_monitor.proofs.WorkLaws.{keeps_at}
use Rattle.rank_monitor.proofs.works.Work.has_taken.Goals as goal

pub returns : goal.returns
returns c = record {
  decides = λ rec f.
      let w = c.args.self.now in
      c.both.ensures.tells ∙ ap (λ (b : Bool). b && c.is_whole-whole.result) c.eq.ensures ∙ taken_whole w.size w.header w.chunk w.bytes.items _ _ rec.stage (keeps_at w rec (standing.Taking _ _) c.in-Taking.is f) c.args.to c.is_whole-whole.result
      (λ m words o is. c.is_whole-whole.ensures.tells m words is (c.left.ensures.gives m o));
}
