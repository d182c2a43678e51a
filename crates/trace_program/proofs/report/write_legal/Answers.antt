use Rattle.std.proofs.Common.{◌++◌, ℕ, List, codes, refl, subst, append_assoc}
use Rattle.rcce_io.specs.Sending.{Sends}
use Rattle.rcce_io.proofs.SendingLemmas.{cut_then, cut_within, sends_after, sends_err, whole_within}
use Rattle.rcce_audit.specs.Texts.{table_lines, text_of}
use Rattle.trace_program.specs.Texts.{count_lines, kept_text, lists_text}
use Rattle.trace_program.proofs.report.write_legal.Goals as goal

pub returns-in_err-write_all : goal.returns-in_err-write_all
returns-in_err-write_all g c =
    let f = c.args.finished.now in
    let before = g.S.Sink.seen c.args.sink.now in
    let after = g.S.Sink.seen c.write_all.new.sink in
    sends_err before after (kept_text c.args.nue f) _ c.from_residual.ensures.0
    (cut_then before after (codes "legal\n") (text_of (table_lines (count_lines c.args.nue) 0 f.counts) ++ lists_text f.lists) c.in_err-write_all.ensures)

pub returns-in_err-write_ranks : goal.returns-in_err-write_ranks
returns-in_err-write_ranks g c =
    let f = c.args.finished.now in
    let before = g.S.Sink.seen c.args.sink.now in
    let between = g.S.Sink.seen c.write_all.new.sink in
    let after = g.S.Sink.seen c.write_ranks.new.sink in
    sends_err before after (kept_text c.args.nue f) _ c.from_residual-in_err-write_ranks.ensures.0
    (cut_within before between after (codes "legal\n") (text_of (table_lines (count_lines c.args.nue) 0 f.counts)) (lists_text f.lists) (kept_text c.args.nue f) refl
    c.in_ok-write_all.ensures c.in_err-write_ranks.ensures)

pub returns : goal.returns
returns g c =
    let f = c.args.finished.now in
    let before = g.S.Sink.seen c.args.sink.now in
    let between = g.S.Sink.seen c.write_all.new.sink in
    let middle = g.S.Sink.seen c.write_ranks.new.sink in
    let after = g.S.Sink.seen c.write_asked.new.sink in
    let first = codes "legal\n" in
    let second = text_of (table_lines (count_lines c.args.nue) 0 f.counts) in
    let third = lists_text f.lists in
    subst (λ (t : List ℕ). Sends t before after c.write_asked.result) (append_assoc first second third)
    (sends_after before middle after (first ++ second) third c.write_asked.result (whole_within before between middle first second (first ++ second) refl c.in_ok-write_all.ensures c.in_ok-write_ranks.ensures) c.write_asked.ensures)
