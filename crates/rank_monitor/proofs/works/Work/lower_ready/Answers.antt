use Rattle.std.proofs.Common.{sym, ◌∙◌, arith}
use Rattle.rank_monitor.specs.declared.works.Standing.TheVariants as standing
use Rattle.rank_monitor.proofs.SendLaws.{lowered_other, sent_last, sent_more}
use Rattle.rank_monitor.proofs.StageLaws.{pushed}
use Rattle.rank_monitor.proofs.WorkLaws.{keeps_at}
use Rattle.rank_monitor.proofs.works.Work.lower_ready.Goals as goal

pub returns-in_default-clause-moves : goal.returns-in_default-clause-moves
returns-in_default-clause-moves c = λ by rec f may.
    let w = c.args.self.now in
    let x = lowered_other w.size w.header w.chunk w.bytes.items w.standing rec.stage f.keeps c.in_default.not-Answered by rec.post may rec.calls in
    record { stands = record { keeps = x.0; post = tt; said = f.said; flags = f.flags }; adds = x.1 }

pub returns-then-last-clause-moves : goal.returns-then-last-clause-moves
returns-then-last-clause-moves c = λ by rec f may.
    let w = c.args.self.now in
    let now = c.push_bytes.new.bytes.items in
    let x = sent_last w.size w.header w.chunk w.bytes.items _ _ rec.stage (keeps_at w rec (standing.Answered _ _) c.in-Answered.is f) rec.calls now
    (pushed w.size _ w.chunk w.bytes.items now c.left-count.result c.left-count.ensures.gives (λ words is le. c.push_bytes.ensures.items words is (omega (arith, le)))) (λ m o. sym (c.is_last-last.ensures.tells m o) ∙ c.if-last.true) in
    record { stands = record { keeps = x.0; post = tt; said = f.said; flags = f.flags }; adds = x.1 }

pub returns-clause-moves : goal.returns-clause-moves
returns-clause-moves c = λ by rec f may.
    let w = c.args.self.now in
    let now = c.push_bytes.new.bytes.items in
    let x = sent_more w.size w.header w.chunk w.bytes.items _ _ rec.stage (keeps_at w rec (standing.Answered _ _) c.in-Answered.is f) rec.calls now c.clear.new.self c.clear.ensures.none
    (pushed w.size _ w.chunk w.bytes.items now c.left-count.result c.left-count.ensures.gives (λ words is le. c.push_bytes.ensures.items words is (omega (arith, le)))) (λ m o. sym (c.is_last-last.ensures.tells m o) ∙ c.if-last.false) in
    record { stands = record { keeps = x.0; post = tt; said = f.said; flags = f.flags }; adds = x.1 }
