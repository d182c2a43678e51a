use Rattle.std.proofs.Common.{◌≡◌, ◌==◌, ℕ, true, refl, sym, ◌∙◌, ap}
use Rattle.scc_proto.proofs.Tests.{eqb_other, eqb_same}
use Rattle.rank_monitor.specs.declared.works.Standing.TheVariants as standing
use Rattle.rank_monitor.proofs.ReceiveLaws.{chunk_other, chunk_read, chunk_unread}
use Rattle.rank_monitor.proofs.WorkLaws.{keeps_at}
use Rattle.rank_monitor.proofs.works.Work.read_chunk.Goals as goal

pub returns-in_default-clause-moves : goal.returns-in_default-clause-moves
returns-in_default-clause-moves c = λ rec f may.
    let w = c.args.self.now in
    record {
      stands = record { keeps = chunk_other w.size w.header w.chunk w.bytes.items w.standing rec.stage f.keeps c.in_default.not-Taking c.args.from c.args.word c.args.value; post = f.post; said = f.said; flags = f.flags };
      adds = refl;
    }

pub returns-then-number-clause-moves : goal.returns-then-number-clause-moves
returns-then-number-clause-moves c = λ rec f may.
    let w = c.args.self.now in
    let x = chunk_unread w.size w.header w.chunk w.bytes.items _ _ rec.stage (keeps_at w rec (standing.Taking _ _) c.in-Taking.is f) c.args.from c.args.word c.args.value (eqb_other c.in-Taking.sender c.args.from (λ same. absurd (c.if-number.true (c.number.ensures.gives ∙ same ∙ sym c.number-2.ensures.gives)))) in
    record { stands = record { keeps = rw c.in-Taking.is x; post = f.post; said = f.said; flags = f.flags }; adds = refl }

pub returns-clause-moves : goal.returns-clause-moves
returns-clause-moves c = λ rec f may.
    let w = c.args.self.now in
    let same : (c.in-Taking.sender == c.args.from) ≡ true = ap (λ (k : ℕ). k == c.args.from) (sym c.number.ensures.gives ∙ c.if-number.false ∙ c.number-2.ensures.gives) ∙ eqb_same c.args.from in
    let x = chunk_read w.size w.header w.chunk w.bytes.items _ _ rec.stage (keeps_at w rec (standing.Taking _ _) c.in-Taking.is f) c.args.from c.args.word c.args.value same c.note.new.self c.note.ensures.notes in
    record { stands = record { keeps = rw c.in-Taking.is x; post = f.post; said = f.said; flags = f.flags }; adds = refl }
