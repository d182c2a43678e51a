use Rattle.std.proofs.Common.{◌≡◌, ◌<◌, ℕ, [], Option, Some, None, length, slice_index_or, slice_set, unwrap_or, refl, sym, ◌∙◌, ap, subst, true, arith}
use Rattle.scc_proto.specs.Messages.{Notes}
use Rattle.scc_proto.specs.Moves.{lower_sent}
use Rattle.scc_proto.specs.Permission.{may_take}
use Rattle.scc_proto.specs.Tables.{table_with}
use Rattle.scc_proto.proofs.Tests.{true_not_false}
use Rattle.rank_monitor.specs.Standing.{KeepsSaid, KeepsStage}
use Rattle.rank_monitor.proofs.PartLaws.{said_here, said_put, unsaid_here}
use Rattle.rank_monitor.proofs.works.Work.lower_sent.Goals as goal

pub returns-in_default-clause-moves : goal.returns-in_default-clause-moves
returns-in_default-clause-moves c = λ rec f may.
    let w = c.args.self.now in
    let from = c.args.from in
    let none : slice_index_or w.said from None ≡ None = ap (λ (k : ℕ). slice_index_or w.said k None) (sym c.number-at.ensures.gives) ∙ c.in_default.is in
    let unseen = unsaid_here w.said rec.notes from (omega arith) none f.said in
    true_not_false (sym may ∙ ap (λ (n : Option Notes). may_take from n rec.stage) unseen)

pub returns-clause-moves : goal.returns-clause-moves
returns-clause-moves c = λ rec f may.
    let w = c.args.self.now in
    let from = c.args.from in
    let some : slice_index_or w.said from None ≡ Some c.in-Some.line = ap (λ (k : ℕ). slice_index_or w.said k None) (sym c.number-at.ensures.gives) ∙ c.in-Some.is in
    let x = said_here w.said rec.notes from c.in-Some.line (omega arith) some f.said in
    let allowed : may_take from (Some x.0) rec.stage ≡ true = ap (λ (n : Option Notes). may_take from n rec.stage) (sym x.1) ∙ may in
    let o = c.begin_chunk.ensures.stands rec x.0 f x.2 allowed in
    let n = c.begin_chunk.new.self in
    let within : from < length n.said = omega arith in
    record {
      stands = record {
        keeps = subst (λ (h : Option Notes). KeepsStage n.size n.header n.chunk n.bytes.items n.standing (lower_sent from (unwrap_or h []) rec.stage)) (sym x.1) o.keeps;
        post = o.post;
        said = subst (λ (k : ℕ). KeepsSaid (slice_set n.said k None) (table_with rec.notes from None)) (sym c.number-at.ensures.gives) (said_put n.said rec.notes from None None within tt o.said);
        flags = o.flags;
      };
      adds = refl;
    }
