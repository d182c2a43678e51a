use Rattle.std.proofs.Common.{◌≡◌, [], true, false, subst, sym, ◌∙◌}
use Rattle.scc_proto.specs.Permission.{is_idle}
use Rattle.scc_proto.specs.Stages.{Stage}
use Rattle.rank_monitor.specs.Standing.{KeepsStage}
use Rattle.rank_monitor.specs.Standing.KeepsStage.{AtDraft}
use Rattle.rank_monitor.specs.declared.works.Standing.TheVariants as standing
use Rattle.rank_monitor.proofs.SendLaws.{opens_idle, stays_opened}
use Rattle.rank_monitor.proofs.StageLaws.{rest_open}
use Rattle.rank_monitor.proofs.works.Work.begin_draft.Goals as goal

pub returns-then-not-is_at_rest-clause-opens : goal.returns-then-not-is_at_rest-clause-opens
returns-then-not-is_at_rest-clause-opens c = λ rec f.
    let w = c.args.self.now in
    let no : is_idle rec.stage ≡ false = sym (rest_open w.size w.header w.chunk w.bytes.items w.standing rec.stage f.keeps) ∙ sym c.is_at_rest.ensures.tells ∙ c.if-not-is_at_rest.true in
    record { keeps = subst (λ (x : Stage). KeepsStage w.size w.header w.chunk w.bytes.items w.standing x) (sym (stays_opened rec.stage no)) f.keeps; post = f.post; said = f.said; flags = f.flags }

pub returns-clause-opens : goal.returns-clause-opens
returns-clause-opens c = λ rec f.
    let w = c.args.self.now in
    let yes : is_idle rec.stage ≡ true = sym (rest_open w.size w.header w.chunk w.bytes.items w.standing rec.stage f.keeps) ∙ sym c.is_at_rest.ensures.tells ∙ c.if-not-is_at_rest.false in
    record {
      keeps = subst (λ (x : Stage). KeepsStage w.size c.new-self.result c.clear.new.self w.bytes.items standing.Drafting x) (sym (opens_idle rec.stage yes)) (AtDraft [] [] c.new-self.ensures.none c.clear.ensures.none);
      post = f.post;
      said = f.said;
      flags = f.flags;
    }
