use Rattle.std.proofs.Common.{sym, ◌∙◌, arith}
use Rattle.rank_monitor.specs.declared.works.Standing.TheVariants as standing
use Rattle.rank_monitor.proofs.ReceiveLaws.{taken_last, taken_more}
use Rattle.rank_monitor.proofs.StageLaws.{pushed, ready_not_taking}
use Rattle.rank_monitor.proofs.WorkLaws.{keeps_at}
use Rattle.rank_monitor.proofs.works.Work.raise_ready.Goals as goal

pub returns-in_default-clause-moves : goal.returns-in_default-clause-moves
returns-in_default-clause-moves c = λ to rec f may.
    let w = c.args.self.now in
    absurd (ready_not_taking w.size w.header w.chunk w.bytes.items w.standing rec.stage f.keeps c.in_default.not-Taking to may)

pub returns-then-last-clause-moves : goal.returns-then-last-clause-moves
returns-then-last-clause-moves c = λ to rec f may.
    let w = c.args.self.now in
    let now = c.push_bytes.new.bytes.items in
    let x = taken_last w.size w.header w.chunk w.bytes.items _ _ rec.stage (keeps_at w rec (standing.Taking _ _) c.in-Taking.is f) rec.calls now
    (pushed w.size _ w.chunk w.bytes.items now c.left-count.result c.left-count.ensures.gives (λ words is le. c.push_bytes.ensures.items words is (omega (arith, le)))) (λ m o. sym (c.is_last-last.ensures.tells m o) ∙ c.if-last.true) in
    record { stands = record { keeps = x.0; post = f.post; said = f.said; flags = f.flags }; adds = x.1 }

pub returns-clause-moves : goal.returns-clause-moves
returns-clause-moves c = λ to rec f may.
    let w = c.args.self.now in
    let now = c.push_bytes.new.bytes.items in
    let x = taken_more w.size w.header w.chunk w.bytes.items _ _ rec.stage (keeps_at w rec (standing.Taking _ _) c.in-Taking.is f) rec.calls now
    (pushed w.size _ w.chunk w.bytes.items now c.left-count.result c.left-count.ensures.gives (λ words is le. c.push_bytes.ensures.items words is (omega (arith, le)))) (λ m o. sym (c.is_last-last.ensures.tells m o) ∙ c.if-last.false) in
    record { stands = record { keeps = x.0; post = f.post; said = f.said; flags = f.flags }; adds = x.1 }
