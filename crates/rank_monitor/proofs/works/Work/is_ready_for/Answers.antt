use Rattle.std.proofs.Common.{Bool, Option, ◌&&◌, min, ◌∙◌, ap, subst}
use Rattle.scc_base.specs.Heads.{MessageHead}
use Rattle.scc_proto.specs.Messages.{fresh_message, head_of}
use Rattle.rank_monitor.specs.Noted.{TellsHead}
use Rattle.rank_monitor.specs.declared.works.Standing.TheVariants as standing
use Rattle.rank_monitor.proofs.NotedLaws.{line_no_head}
use Rattle.rank_monitor.proofs.StageLaws.{count_first, raise_first, raise_later, raise_other, raise_unsaid}
use Rattle.rank_monitor.proofs.WorkLaws.{keeps_at}
use Rattle.rank_monitor.proofs.works.Work.is_ready_for.Goals as goal

pub returns-in-Filling : goal.returns-in-Filling
returns-in-Filling c = record {
  tells = λ rec f.
      let w = c.args.self.now in
      c.both.ensures.tells ∙ ap (λ (b : Bool). b && c.is_drafted-drafted.result) c.eq.ensures ∙ raise_later w.size w.header w.chunk w.bytes.items _ _ rec.stage (keeps_at w rec (standing.Filling _ _) c.in-Filling.is f) c.args.to c.is_drafted-drafted.result
      (λ m words o is. c.is_drafted-drafted.ensures.tells m words is (c.left.ensures.gives m o));
}

pub returns-in_default-standing : goal.returns-in_default-standing
returns-in_default-standing c = record {
  tells = λ rec f.
      let w = c.args.self.now in
      raise_other w.size w.header w.chunk w.bytes.items w.standing rec.stage f.keeps c.in_default-standing.not-Drafting c.in_default.not-Filling c.args.to;
}

pub returns-in_default-head : goal.returns-in_default-head
returns-in_default-head c = record {
  tells = λ rec f.
      let w = c.args.self.now in
      raise_unsaid w.size w.header w.chunk w.bytes.items rec.stage (keeps_at w rec standing.Drafting c.in-Drafting.is f) c.args.to
      (λ words is. line_no_head words (subst (λ (o : Option MessageHead). TellsHead words o) c.in_default-head.is (c.head.ensures.says words is)));
}

pub returns : goal.returns
returns c = record {
  tells = λ rec f.
      let w = c.args.self.now in
      c.both-2.ensures.tells ∙ raise_first w.size w.header w.chunk w.bytes.items rec.stage (keeps_at w rec standing.Drafting c.in-Drafting.is f) c.args.to c.is_whole-line.result c.is_drafted-drafted-2.result
      (λ words is. c.is_whole-line.ensures.tells words is)
      (λ line words is are. c.is_drafted-drafted-2.ensures.tells (fresh_message (head_of line)) words are (c.min-count.ensures ∙ (λ i. min (c.len.ensures.gives i) w.size) ∙ count_first w.size c.in-Some.head line (subst (λ (o : Option MessageHead). TellsHead line o) c.in-Some.is (c.head.ensures.says line is)).1));
}
