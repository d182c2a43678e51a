use Rattle.std.proofs.Common.{sym, ◌∙◌}
use Rattle.rank_monitor.specs.Steps.{look_of}
use Rattle.rank_monitor.specs.declared.works.Standing.TheVariants as standing
use Rattle.rank_monitor.proofs.SendLaws.{ready_other, ready_seen, ready_unseen}
use Rattle.rank_monitor.proofs.WorkLaws.{keeps_at}
use Rattle.rank_monitor.proofs.works.Work.answer_chunk.Goals as goal

pub returns-in_default-clause-stands : goal.returns-in_default-clause-stands
returns-in_default-clause-stands c = λ rec f.
    let w = c.args.self.now in
    record { keeps = ready_other w.size w.header w.chunk w.bytes.items w.standing rec.stage f.keeps c.in_default.not-Raised (look_of c.args.look.now); post = f.post; said = f.said; flags = f.flags }

pub returns-then-not-sees-clause-stands : goal.returns-then-not-sees-clause-stands
returns-then-not-sees-clause-stands c = λ rec f.
    let w = c.args.self.now in
    let x = ready_unseen w.size w.header w.chunk w.bytes.items _ _ rec.stage (keeps_at w rec (standing.Raised _ _) c.in-Raised.is f) (look_of c.args.look.now) (sym c.sees.ensures.tells ∙ c.if-not-sees.true) in
    record { keeps = rw c.in-Raised.is x; post = f.post; said = f.said; flags = f.flags }

pub returns-clause-stands : goal.returns-clause-stands
returns-clause-stands c = λ rec f.
    let w = c.args.self.now in
    record {
      keeps = ready_seen w.size w.header w.chunk w.bytes.items _ _ rec.stage (keeps_at w rec (standing.Raised _ _) c.in-Raised.is f) (look_of c.args.look.now) (sym c.sees.ensures.tells ∙ c.if-not-sees.false);
      post = f.post;
      said = f.said;
      flags = f.flags;
    }
