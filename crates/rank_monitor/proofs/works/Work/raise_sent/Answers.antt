use Rattle.std.proofs.Common.{List, ℕ, Option, Some, SomeIff, is_none, sym, ◌∙◌, subst, arith}
use Rattle.scc_base.specs.Heads.{IsPostHead, MessageHead}
use Rattle.scc_proto.specs.Moves.{calls_raised, raise_sent}
use Rattle.scc_proto.specs.Permission.{may_raise}
use Rattle.scc_proto.specs.Stages.{InFlight}
use Rattle.scc_proto.proofs.Tests.{both_second}
use Rattle.scc_base.specs.declared.calls.Call.TheVariants as call
use Rattle.rank_monitor.specs.Following.{Adds}
use Rattle.rank_monitor.specs.Standing.{IsInHand, KeepsStage, KeepsPost}
use Rattle.rank_monitor.specs.declared.works.Standing.TheVariants as standing
use Rattle.rank_monitor.proofs.NotedLaws.{line_is_post, line_says}
use Rattle.rank_monitor.proofs.SendLaws.{post_goes, raised_again, raises_line, send_begins}
use Rattle.rank_monitor.proofs.StageLaws.{pushed}
use Rattle.rank_monitor.proofs.WorkLaws.{keeps_at}
use Rattle.rank_monitor.proofs.works.Work.raise_sent.Goals as goal

pub returns-in-Filling-clause-moves : goal.returns-in-Filling-clause-moves
returns-in-Filling-clause-moves c = λ rec f may.
    let w = c.args.self.now in
    let x = raised_again w.size w.header w.chunk w.bytes.items _ _ rec.stage (keeps_at w rec (standing.Filling _ _) c.in-Filling.is f) c.args.to (both_second (is_none rec.post) (may_raise w.size c.args.to rec.stage) may) rec.calls rec.post in
    record {
      stands = record { keeps = x.0; post = subst (λ (p : Option InFlight). KeepsPost w.post p) (sym x.2) f.post; said = f.said; flags = f.flags };
      adds = x.1;
    }

pub returns-in_default-head-clause-moves : goal.returns-in_default-head-clause-moves
returns-in_default-head-clause-moves c = λ rec f may.
    let w = c.args.self.now in
    let line = raises_line w.size w.header w.chunk w.bytes.items w.standing rec.stage f.keeps c.in_default.not-Filling c.args.to (both_second (is_none rec.post) (may_raise w.size c.args.to rec.stage) may) in
    let x = line_says line.0 c.head.result (c.head.ensures.says line.0 line.1) line.2 in
    absurd (c.in_default-head.not-Some x.0 x.1)

pub returns-then-not-is_posted-clause-moves : goal.returns-then-not-is_posted-clause-moves
returns-then-not-is_posted-clause-moves c = λ rec f may.
    let w = c.args.self.now in
    let to = c.args.to in
    let head = c.in-Some.head in
    let x = send_begins w.size w.header w.chunk w.bytes.items w.standing rec.stage f.keeps c.in_default.not-Filling to (both_second (is_none rec.post) (may_raise w.size to rec.stage) may) rec.calls rec.post head
    c.in-Some.ensures.says (λ words is. sym (c.is_posted.ensures.tells words is) ∙ c.if-not-is_posted.true) in
    record {
      stands = record {
        keeps = subst (λ (b : List ℕ). KeepsStage w.size w.header w.chunk b (standing.Raised to head) (raise_sent to rec.stage)) (sym c.clear.ensures.items) x.0;
        post = subst (λ (p : Option InFlight). KeepsPost w.post p) (sym x.2) f.post;
        said = f.said;
        flags = f.flags;
      };
      adds = x.1;
    }

pub returns-in_default-new-clause-moves : goal.returns-in_default-new-clause-moves
returns-in_default-new-clause-moves c = λ rec f may.
    let w = c.args.self.now in
    let line = raises_line w.size w.header w.chunk w.bytes.items w.standing rec.stage f.keeps c.in_default.not-Filling c.args.to (both_second (is_none rec.post) (may_raise w.size c.args.to rec.stage) may) in
    let post = line_is_post line.0 c.in-Some.head line.2 (sym (c.is_posted.ensures.tells line.0 line.1) ∙ c.if-not-is_posted.false) (c.in-Some.ensures.says line.0 line.1).1 in
    absurd (subst (λ (o : Option MessageHead). SomeIff o (IsPostHead c.in-Some.head) c.in-Some.head) c.in_default-new.is c.new.ensures.gives post)

pub returns-clause-moves : goal.returns-clause-moves
returns-clause-moves c = λ rec f may.
    let w = c.args.self.now in
    let to = c.args.to in
    let head = c.in-Some.head in
    let now = c.push_bytes.new.bytes.items in
    let x = post_goes w.size w.header w.chunk w.bytes.items w.standing rec.stage f.keeps c.in_default.not-Filling to (both_second (is_none rec.post) (may_raise w.size to rec.stage) may) rec.calls rec.post head
    c.in-Some.ensures.says (λ words is. sym (c.is_posted.ensures.tells words is) ∙ c.if-not-is_posted.false) now
    (λ m words o is. pushed w.size head w.chunk c.clear.new.self.items now c.left-count.result c.left-count.ensures.gives (λ notes given le. c.push_bytes.ensures.items notes given (omega (arith, le))) m words (subst (λ (b : List ℕ). IsInHand w.size head b m) (sym c.clear.ensures.items) o) is) in
    record {
      stands = record { keeps = x.0; post = x.2; said = f.said; flags = f.flags };
      adds = subst (λ (q : MessageHead). Adds (Some (call.Post to q)) now rec.calls (calls_raised w.size to rec.stage rec.calls)) (sym c.in-Some-new.ensures.gives.1) x.1;
    }
