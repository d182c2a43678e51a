use Rattle.std.proofs.Common.{◌≡◌, ◌∙◌, ◌<◌, ℕ, List, [], ap, sym, subst, get_or, length, map, arith}
use Rattle.std.proofs.lemmas.List.{length-map}
use Rattle.scc_base.specs.Calls.{DataCall}
use Rattle.rcce_io.specs.Sending.{CutShort, with_text}
use Rattle.rcce_io.proofs.SendingLemmas.{cut_within, sends_err, whole_within}
use Rattle.rcce_audit.specs.Held.{held_calls}
use Rattle.rcce_audit.specs.Texts.{call_lines, text_of}
use Rattle.rcce_audit.proofs.HeldLemmas.{held_lines}
use Rattle.rcce_audit.proofs.ListLemmas.{get_or-map_within}
use Rattle.rcce_audit.proofs.TextLemmas.{table-more, table-parts}
use Rattle.rcce_audit.proofs.held.write_all_lists.Goals as goal

pub returns-in_err-write_list : goal.returns-in_err-write_list
returns-in_err-write_list g c =
    let lists = c.args.lists.now in
    let rank = c.loop-rank.rank in
    let list = c.index-lists-rank.result in
    let within : rank < length lists = omega arith in
    let among : rank < length (map held_calls lists) = omega (arith, within, length-map lists held_calls) in
    let here = get_or-map_within held_calls lists rank list [] within in
    let text = held_lines rank (held_calls (get_or lists rank list)) ∙ ap (λ (l : List DataCall). text_of (call_lines rank l)) (sym here) in
    sends_err _ _ _ _ c.from_residual.ensures.0 (
    cut_within (g.S.Sink.seen c.args.sink.now) (g.S.Sink.seen c.loop-rank.sink) (g.S.Sink.seen c.write_list.new.sink) _ _ _ _
    (table-parts call_lines (map held_calls lists) rank [] among) c.loop-rank.invariant
    (subst (λ (t : List ℕ). CutShort t (g.S.Sink.seen c.loop-rank.sink) (g.S.Sink.seen c.write_list.new.sink)) text c.in_err-write_list.ensures))

pub loop-rank-preserved : goal.loop-rank-preserved
loop-rank-preserved g c =
    let lists = c.args.lists.now in
    let rank = c.loop-rank.rank in
    let list = c.index-lists-rank.result in
    let within : rank < length lists = omega arith in
    let among : rank < length (map held_calls lists) = omega (arith, within, length-map lists held_calls) in
    let here = get_or-map_within held_calls lists rank list [] within in
    let text = held_lines rank (held_calls (get_or lists rank list)) ∙ ap (λ (l : List DataCall). text_of (call_lines rank l)) (sym here) in
    whole_within (g.S.Sink.seen c.args.sink.now) (g.S.Sink.seen c.loop-rank.sink) (g.S.Sink.seen c.write_list.new.sink) _ _ _
    (table-more call_lines (map held_calls lists) rank [] among) c.loop-rank.invariant
    (subst (λ (t : List ℕ). g.S.Sink.seen c.write_list.new.sink ≡ with_text t (g.S.Sink.seen c.loop-rank.sink)) text c.in_ok-write_list.ensures)
