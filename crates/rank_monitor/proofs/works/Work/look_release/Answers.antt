use Rattle.std.proofs.Common.{◌&&◌, ◌==◌, ◌%◌, List, ℕ, Some, sym, ◌∙◌, subst}
use Rattle.scc_base.specs.declared.calls.Call.TheVariants as call
use Rattle.scc_proto.specs.Moves.{calls_let_go, look_release}
use Rattle.rank_monitor.specs.Following.{Adds}
use Rattle.rank_monitor.specs.Standing.{KeepsStage}
use Rattle.rank_monitor.specs.declared.works.Standing.TheVariants as standing
use Rattle.rank_monitor.proofs.ReceiveLaws.{kept_waiting, let_go, release_other}
use Rattle.rank_monitor.proofs.WorkLaws.{flag_told, keeps_at}
use Rattle.rank_monitor.proofs.works.Work.look_release.Goals as goal

pub returns-in_default-clause-moves : goal.returns-in_default-clause-moves
returns-in_default-clause-moves c = λ rec f may.
    let w = c.args.self.now in
    let x = release_other w.size w.header w.chunk w.bytes.items w.standing rec.stage f.keeps c.in_default.not-Meeting c.args.comm c.args.value (rec.flips c.args.comm % 2) rec.calls in
    record { stands = record { keeps = x.0; post = f.post; said = f.said; flags = f.flags }; adds = x.1 }

pub returns-then-not-are_all-clause-moves : goal.returns-then-not-are_all-clause-moves
returns-then-not-are_all-clause-moves c = λ rec f may.
    let w = c.args.self.now in
    let told = flag_told w rec c.args.comm c.args.value c.requires.below f in
    let test = (λ i. (c.in-Meeting.open == c.args.comm) && sym told i) ∙ sym c.are_all.ensures.tells ∙ c.if-not-are_all.true in
    let x = kept_waiting w.size w.header w.chunk w.bytes.items _ _ _ rec.stage (keeps_at w rec (standing.Meeting _ _ _) c.in-Meeting.is f) c.args.comm c.args.value (rec.flips c.args.comm % 2) test rec.calls in
    record { stands = record { keeps = rw c.in-Meeting.is x.0; post = f.post; said = f.said; flags = f.flags }; adds = x.1 }

pub returns-clause-moves : goal.returns-clause-moves
returns-clause-moves c = λ rec f may.
    let w = c.args.self.now in
    let told = flag_told w rec c.args.comm c.args.value c.requires.below f in
    let test = (λ i. (c.in-Meeting.open == c.args.comm) && sym told i) ∙ sym c.are_all.ensures.tells ∙ c.if-not-are_all.false in
    let x = let_go w.size w.header w.chunk w.bytes.items _ _ _ rec.stage (keeps_at w rec (standing.Meeting _ _ _) c.in-Meeting.is f) c.args.comm c.args.value (rec.flips c.args.comm % 2) test rec.calls in
    record {
      stands = record { keeps = subst (λ (b : List ℕ). KeepsStage w.size w.header w.chunk b standing.Idle (look_release c.args.comm c.args.value (rec.flips c.args.comm % 2) rec.stage)) (sym c.clear.ensures.items) x.0; post = f.post; said = f.said; flags = f.flags };
      adds = subst (λ (b : List ℕ). Adds (Some (call.Bar c.in-Meeting.open)) b rec.calls (calls_let_go c.args.comm c.args.value (rec.flips c.args.comm % 2) rec.stage rec.calls)) (sym c.clear.ensures.items) x.1;
    }
