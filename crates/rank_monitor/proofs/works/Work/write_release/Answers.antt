use Rattle.std.proofs.Common.{◌≡◌, ◌==◌, ◌%◌, List, ℕ, Some, true, sym, ◌∙◌, ap, subst}
use Rattle.scc_proto.proofs.Tests.{eqb_other, eqb_same, true_not_false}
use Rattle.scc_base.specs.declared.calls.Call.TheVariants as call
use Rattle.scc_proto.specs.Moves.{calls_released, write_release}
use Rattle.rank_monitor.specs.Following.{Adds}
use Rattle.rank_monitor.specs.Standing.{KeepsStage}
use Rattle.rank_monitor.specs.declared.works.Standing.TheVariants as standing
use Rattle.rank_monitor.proofs.ReceiveLaws.{released_last, released_more}
use Rattle.rank_monitor.proofs.StageLaws.{release_none}
use Rattle.rank_monitor.proofs.WorkLaws.{keeps_at}
use Rattle.rank_monitor.proofs.works.Work.write_release.Goals as goal

pub returns-in_default-clause-moves : goal.returns-in_default-clause-moves
returns-in_default-clause-moves c = λ comm to value rec f may.
    let w = c.args.self.now in
    true_not_false (sym may ∙ sym (release_none w.size w.header w.chunk w.bytes.items w.standing rec.stage f.keeps c.in_default.not-Meeting comm c.args.place value c.args.last (rec.flips comm % 2)))

pub returns-then-place-last-clause-moves : goal.returns-then-place-last-clause-moves
returns-then-place-last-clause-moves c = λ comm to value rec f may.
    let w = c.args.self.now in
    let yes : (c.args.place == c.args.last) ≡ true = ap (λ (n : ℕ). n == c.args.last) c.if-place-last.true ∙ eqb_same c.args.last in
    let x = released_last w.size w.header w.chunk w.bytes.items _ _ _ rec.stage (keeps_at w rec (standing.Meeting _ _ _) c.in-Meeting.is f) comm c.args.place value c.args.last (rec.flips comm % 2) may yes rec.calls in
    record {
      stands = record { keeps = subst (λ (b : List ℕ). KeepsStage w.size w.header w.chunk b standing.Idle (write_release c.args.last rec.stage)) (sym c.clear.ensures.items) x.0; post = f.post; said = f.said; flags = f.flags };
      adds = subst (λ (b : List ℕ). Adds (Some (call.Bar c.in-Meeting.comm)) b rec.calls (calls_released c.args.last rec.stage rec.calls)) (sym c.clear.ensures.items) x.1;
    }

pub returns-clause-moves : goal.returns-clause-moves
returns-clause-moves c = λ comm to value rec f may.
    let w = c.args.self.now in
    let x = released_more w.size w.header w.chunk w.bytes.items _ _ _ rec.stage (keeps_at w rec (standing.Meeting _ _ _) c.in-Meeting.is f) comm c.args.place value c.args.last (rec.flips comm % 2) may
    (eqb_other c.args.place c.args.last c.if-place-last.false) rec.calls in
    record { stands = record { keeps = x.0; post = f.post; said = f.said; flags = f.flags }; adds = x.1 }
