use Rattle.std.proofs.Common.{◌≡◌, ◌&&◌, ◌==◌, ◌%◌, ℕ, suc, refl, sym, ◌∙◌, subst}
use Rattle.scc_proto.proofs.Tests.{both_first, both_second, same_by_eqb}
use Rattle.scc_proto.specs.Moves.{look_gather}
use Rattle.rank_monitor.specs.Standing.{KeepsStage}
use Rattle.rank_monitor.specs.declared.works.Standing.TheVariants as standing
use Rattle.rank_monitor.proofs.ReceiveLaws.{gather_other, gather_seen, gather_unseen}
use Rattle.rank_monitor.proofs.WorkLaws.{flag_told, keeps_at}
use Rattle.rank_monitor.proofs.works.Work.look_gather.Goals as goal

pub returns-in_default-clause-moves : goal.returns-in_default-clause-moves
returns-in_default-clause-moves c = λ from rec f may.
    let w = c.args.self.now in
    record {
      stands = record { keeps = gather_other w.size w.header w.chunk w.bytes.items w.standing rec.stage f.keeps c.in_default.not-Meeting c.args.comm c.args.place c.args.value (rec.flips c.args.comm % 2); post = f.post; said = f.said; flags = f.flags };
      adds = refl;
    }

pub returns-then-not-are_all-clause-moves : goal.returns-then-not-are_all-clause-moves
returns-then-not-are_all-clause-moves c = λ from rec f may.
    let w = c.args.self.now in
    let told = flag_told w rec c.args.comm c.args.value c.requires.below f in
    let test = (λ i. (c.in-Meeting.open == c.args.comm) && (sym c.is_next-next.ensures.tells i && sym told i)) ∙ sym c.are_all.ensures.tells ∙ c.if-not-are_all.true in
    let x = gather_unseen w.size w.header w.chunk w.bytes.items _ _ _ rec.stage (keeps_at w rec (standing.Meeting _ _ _) c.in-Meeting.is f) c.args.comm c.args.place c.args.value (rec.flips c.args.comm % 2) test in
    record { stands = record { keeps = rw c.in-Meeting.is x; post = f.post; said = f.said; flags = f.flags }; adds = refl }

pub returns-clause-moves : goal.returns-clause-moves
returns-clause-moves c = λ from rec f may.
    let w = c.args.self.now in
    let told = flag_told w rec c.args.comm c.args.value c.requires.below f in
    let test = (λ i. (c.in-Meeting.open == c.args.comm) && (sym c.is_next-next.ensures.tells i && sym told i)) ∙ sym c.are_all.ensures.tells ∙ c.if-not-are_all.false in
    let x = gather_seen w.size w.header w.chunk w.bytes.items _ _ _ rec.stage (keeps_at w rec (standing.Meeting _ _ _) c.in-Meeting.is f) c.args.comm c.args.place c.args.value (rec.flips c.args.comm % 2) test in
    let at : c.args.place ≡ suc c.in-Meeting.seen = same_by_eqb c.args.place (suc c.in-Meeting.seen) (both_first (c.args.place == suc c.in-Meeting.seen) (c.args.value == rec.flips c.args.comm % 2)
    (both_second (c.in-Meeting.open == c.args.comm) ((c.args.place == suc c.in-Meeting.seen) && (c.args.value == rec.flips c.args.comm % 2)) test)) in
    record { stands = record { keeps = subst (λ (n : ℕ). KeepsStage w.size w.header w.chunk w.bytes.items (standing.Meeting c.in-Meeting.open n c.in-Meeting.released) (look_gather c.args.comm c.args.place c.args.value (rec.flips c.args.comm % 2) rec.stage)) (sym at) x; post = f.post; said = f.said; flags = f.flags }; adds = refl }
