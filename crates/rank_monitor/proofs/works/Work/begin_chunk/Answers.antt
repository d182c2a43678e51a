use Rattle.std.proofs.Common.{List, ℕ, sym, subst}
use Rattle.scc_proto.specs.Moves.{lower_sent}
use Rattle.rank_monitor.specs.Standing.{KeepsStage}
use Rattle.rank_monitor.specs.declared.works.Standing.TheVariants as standing
use Rattle.rank_monitor.proofs.NotedLaws.{says_some}
use Rattle.rank_monitor.proofs.ReceiveLaws.{take_begins, take_goes_on, take_says}
use Rattle.rank_monitor.proofs.WorkLaws.{keeps_at}
use Rattle.rank_monitor.proofs.works.Work.begin_chunk.Goals as goal

pub returns-in-Between-clause-stands : goal.returns-in-Between-clause-stands
returns-in-Between-clause-stands c = λ rec words f is may.
    let w = c.args.self.now in
    record {
      keeps = take_goes_on w.size w.header w.chunk w.bytes.items _ _ rec.stage (keeps_at w rec (standing.Between _ _) c.in-Between.is f) c.args.from words may c.clear.new.self c.clear.ensures.none;
      post = f.post;
      said = f.said;
      flags = f.flags;
    }

pub returns-in_default-head-clause-stands : goal.returns-in_default-head-clause-stands
returns-in_default-head-clause-stands c = λ rec words f is may.
    let w = c.args.self.now in
    let x = says_some words c.head.result (c.head.ensures.says words is) (take_says w.size w.header w.chunk w.bytes.items w.standing rec.stage f.keeps c.in_default.not-Between c.args.from words may) in
    absurd (c.in_default-head.not-Some x.0 x.1)

pub returns-clause-stands : goal.returns-clause-stands
returns-clause-stands c = λ rec words f is may.
    let w = c.args.self.now in
    let x = take_begins w.size w.header w.chunk w.bytes.items w.standing rec.stage f.keeps c.in_default.not-Between c.args.from words may c.in-Some.head (c.in-Some.ensures.says words is) c.clear-3.new.self c.clear-3.ensures.none in
    record {
      keeps = subst (λ (b : List ℕ). KeepsStage w.size w.header c.clear-3.new.self b (standing.Taking c.args.from c.in-Some.head) (lower_sent c.args.from words rec.stage)) (sym c.clear-2.ensures.items) x;
      post = f.post;
      said = f.said;
      flags = f.flags;
    }
