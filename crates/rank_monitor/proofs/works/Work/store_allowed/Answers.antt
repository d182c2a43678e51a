use Rattle.std.proofs.Common.{◌≡◌, if◌then◌else◌, Bool, refl, sym, ◌∙◌, ap}
use Rattle.rank_monitor.specs.Next.{store_allowed}
use Rattle.rank_monitor.specs.declared.next.NextStore.TheVariants as may
use Rattle.rank_monitor.specs.declared.works.Standing.TheVariants as standing
use Rattle.scc_proto.specs.Stages.{Stage}
use Rattle.rank_monitor.proofs.NextKept.{at_answered, at_fill, at_idle, at_meet, at_pause, at_raised, at_take, draft_at}
use Rattle.rank_monitor.proofs.WorkLaws.{keeps_at}
use Rattle.rank_monitor.proofs.works.Work.store_allowed.Goals as goal

pub returns-in-Idle : goal.returns-in-Idle
returns-in-Idle c = record {
  gives = λ rec f.
      let w = c.args.self.now in
      at_idle w.size w.header w.chunk w.bytes.items (λ (st : Stage). c.idle_allowed.result ≡ store_allowed w.size st rec.post rec.notes) rec.stage (keeps_at w rec standing.Idle c.in-Idle.is f)
      (c.idle_allowed.ensures.gives w.size rec.post rec.notes f.post);
}

pub returns-else-is_ready_for : goal.returns-else-is_ready_for
returns-else-is_ready_for c = record {
  gives = λ rec f.
      let w = c.args.self.now in
      ap (λ (b : Bool). if b then may.Raise else may.Draft) (sym c.if-is_ready_for.false)
      ∙ draft_at w.size c.of.result w.header w.chunk w.bytes.items rec.stage (keeps_at w rec standing.Drafting c.in-Drafting.is f) c.is_ready_for.result (c.is_ready_for.ensures.tells rec f) rec.post rec.notes;
}

pub returns-in-Filling : goal.returns-in-Filling
returns-in-Filling c = record {
  gives = λ rec f.
      let w = c.args.self.now in
      at_fill w.size w.header w.chunk w.bytes.items (λ (st : Stage). c.filling_allowed.result ≡ store_allowed w.size st rec.post rec.notes) _ _ rec.stage (keeps_at w rec (standing.Filling _ _) c.in-Filling.is f)
      (λ m chunk o is. c.filling_allowed.ensures.gives m chunk rec.post rec.notes o is);
}

pub returns-in-Raised : goal.returns-in-Raised
returns-in-Raised c = record {
  gives = λ rec f.
      let w = c.args.self.now in
      at_raised w.size w.header w.chunk w.bytes.items (λ (st : Stage). may.SeeReady c.in-Raised.to ≡ store_allowed w.size st rec.post rec.notes) _ _ rec.stage (keeps_at w rec (standing.Raised _ _) c.in-Raised.is f)
      (λ m chunk. refl);
}

pub returns-in-Answered : goal.returns-in-Answered
returns-in-Answered c = record {
  gives = λ rec f.
      let w = c.args.self.now in
      at_answered w.size w.header w.chunk w.bytes.items (λ (st : Stage). may.LowerReady c.in-Answered.to ≡ store_allowed w.size st rec.post rec.notes) _ _ rec.stage (keeps_at w rec (standing.Answered _ _) c.in-Answered.is f)
      (λ m chunk. refl);
}

pub returns-in-Between : goal.returns-in-Between
returns-in-Between c = record {
  gives = λ rec f.
      let w = c.args.self.now in
      at_pause w.size w.header w.chunk w.bytes.items (λ (st : Stage). c.pause_allowed.result ≡ store_allowed w.size st rec.post rec.notes) _ _ rec.stage (keeps_at w rec (standing.Between _ _) c.in-Between.is f)
      (λ m. c.pause_allowed.ensures.gives w.size m rec.post rec.notes f.said);
}

pub returns-in-Taking : goal.returns-in-Taking
returns-in-Taking c = record {
  gives = λ rec f.
      let w = c.args.self.now in
      at_take w.size w.header w.chunk w.bytes.items (λ (st : Stage). c.taking_allowed.result ≡ store_allowed w.size st rec.post rec.notes) _ _ rec.stage (keeps_at w rec (standing.Taking _ _) c.in-Taking.is f)
      (λ m chunk o is. c.taking_allowed.ensures.gives m chunk rec.post rec.notes o is);
}

pub returns-in-Meeting : goal.returns-in-Meeting
returns-in-Meeting c = record {
  gives = λ rec f.
      let w = c.args.self.now in
      at_meet w.size w.header w.chunk w.bytes.items (λ (st : Stage). may.Meet c.in-Meeting.comm ≡ store_allowed w.size st rec.post rec.notes) _ _ _ rec.stage (keeps_at w rec (standing.Meeting _ _ _) c.in-Meeting.is f) refl;
}
