use Rattle.std.proofs.Common.{◌≡◌, ◌∙◌, ◌<◌, ℕ, List, [], ap, sym, subst, length, arith}
use Rattle.std.proofs.lemmas.List.{length-map}
use Rattle.scc_base.specs.Calls.{DataCall}
use Rattle.rcce_io.specs.Sending.{CutShort, with_text}
use Rattle.rcce_io.proofs.SendingLemmas.{cut_within, sends_err, whole_within}
use Rattle.rcce_audit.specs.declared.logs.LogCall.{LogCall}
use Rattle.rcce_audit.specs.Texts.{call_lines, text_of}
use Rattle.rcce_audit.specs.Views.{data_list, data_lists}
use Rattle.rcce_audit.proofs.ListLemmas.{get_or-map_within}
use Rattle.rcce_audit.proofs.TextLemmas.{calls_text, table-more, table-parts}
use Rattle.rcce_audit.proofs.writing.write_lists.Goals as goal

pub returns-in_err-write_calls : goal.returns-in_err-write_calls
returns-in_err-write_calls g c =
    let lists = c.args.lists.now in
    let rank = c.loop-rank.rank in
    let calls = c.index-lists-rank.result in
    let within : rank < length lists = omega (arith, c.requires, c.loop-rank-test.true) in
    let among : rank < length (data_lists lists) = omega (arith, within, length-map lists (λ list. data_list list.items)) in
    let here = get_or-map_within (λ list. data_list list.items) lists rank calls [] within ∙ ap (λ list. data_list list.items) (sym c.index-lists-rank.is) in
    let text = calls_text rank c.as_slice.result.now ∙ ap (λ (l : List LogCall). text_of (call_lines rank (data_list l))) c.as_slice.ensures.value ∙ ap (λ (l : List DataCall). text_of (call_lines rank l)) (sym here) in
    sends_err _ _ _ _ c.from_residual.ensures.0 (
    cut_within (g.S.Sink.seen c.args.sink.now) (g.S.Sink.seen c.loop-rank.sink) (g.S.Sink.seen c.write_calls.new.sink) _ _ _ _
    (table-parts call_lines (data_lists lists) rank [] among) c.loop-rank.invariant
    (subst (λ (t : List ℕ). CutShort t (g.S.Sink.seen c.loop-rank.sink) (g.S.Sink.seen c.write_calls.new.sink)) text c.in_err-write_calls.ensures))

pub loop-rank-preserved : goal.loop-rank-preserved
loop-rank-preserved g c =
    let lists = c.args.lists.now in
    let rank = c.loop-rank.rank in
    let calls = c.index-lists-rank.result in
    let within : rank < length lists = omega (arith, c.requires, c.loop-rank-test.true) in
    let among : rank < length (data_lists lists) = omega (arith, within, length-map lists (λ list. data_list list.items)) in
    let here = get_or-map_within (λ list. data_list list.items) lists rank calls [] within ∙ ap (λ list. data_list list.items) (sym c.index-lists-rank.is) in
    let text = calls_text rank c.as_slice.result.now ∙ ap (λ (l : List LogCall). text_of (call_lines rank (data_list l))) c.as_slice.ensures.value ∙ ap (λ (l : List DataCall). text_of (call_lines rank l)) (sym here) in
    whole_within (g.S.Sink.seen c.args.sink.now) (g.S.Sink.seen c.loop-rank.sink) (g.S.Sink.seen c.write_calls.new.sink) _ _ _
    (table-more call_lines (data_lists lists) rank [] among) c.loop-rank.invariant
    (subst (λ (t : List ℕ). g.S.Sink.seen c.write_calls.new.sink ≡ with_text t (g.S.Sink.seen c.loop-rank.sink)) text c.in_ok-write_calls.ensures)
