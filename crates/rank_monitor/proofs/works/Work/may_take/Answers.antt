use Rattle.std.proofs.Common.{◌≡◌, ℕ, Option, Some, None, slice_index_or, sym, ◌∙◌, ap, arith}
use Rattle.scc_proto.specs.Messages.{Notes}
use Rattle.scc_proto.specs.Permission.{may_take}
use Rattle.rank_monitor.proofs.NotedLaws.{says_whether}
use Rattle.rank_monitor.proofs.PartLaws.{said_here}
use Rattle.rank_monitor.proofs.StageLaws.{take_rest}
use Rattle.rank_monitor.proofs.works.Work.may_take.Goals as goal

pub returns : goal.returns
returns c = record {
  decides = λ rec f.
      let w = c.args.self.now in
      let from = c.args.from in
      let some : slice_index_or w.said from None ≡ Some c.in-Some.line = ap (λ (k : ℕ). slice_index_or w.said k None) (sym c.number.ensures.gives) ∙ c.in-Some.is in
      let x = said_here w.said rec.notes from c.in-Some.line (omega arith) some f.said in
      let rest = take_rest w.size w.header w.chunk w.bytes.items w.standing rec.stage f.keeps (sym c.is_at_rest.ensures.tells ∙ c.if-not-is_at_rest.false) from x.0 in
      c.is_some.ensures ∙ says_whether x.0 c.head.result (c.head.ensures.says x.0 x.2) ∙ rest ∙ ap (λ (n : Option Notes). may_take from n rec.stage) (sym x.1);
}
