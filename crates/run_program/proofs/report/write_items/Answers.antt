use Rattle.std.proofs.Common.{◌≡◌, ◌<◌, ◌≤◌, List, ℕ, length, get_or, subst, arith}
use Rattle.std.proofs.lemmas.Option.{get_or_from_slice_get}
use Rattle.rcce_io.specs.Sending.{RestWaits}
use Rattle.rcce_io.proofs.SendingLemmas.{cut_gathered, joined-all, joined-more, joined-parts, sends_err, sends_waiting, waits_none, waits_within}
use Rattle.plain_meaning.specs.Ends.{ended_at}
use Rattle.run_program.specs.Reports.{printed_line}
use Rattle.run_program.proofs.report.write_items.Goals as goal

pub loop-i-init : goal.loop-i-init
loop-i-init g c = rw c.new-buffer.ensures (waits_none (g.S.Sink.seen c.args.sink.now))

pub returns-in_err-gather : goal.returns-in_err-gather
returns-in_err-gather g c =
    let items = (ended_at (g.T.Endings.ended c.args.run.now) c.args.rank).printed in
    let item = c.item-item.result in
    let line = printed_line c.args.scripts.now.names c.args.rank in
    let within : c.loop-i.i < length items = omega arith in
    let here : get_or items c.loop-i.i item ≡ item = get_or_from_slice_get items c.loop-i.i item item c.item-item.ensures in
    sends_err _ _ _ _ c.from_residual.ensures.0 (
    cut_gathered (g.S.Sink.seen c.args.sink.now) (g.S.Sink.seen c.loop-i.sink) (g.S.Sink.seen c.gather.new.sink) _ _ c.loop-i.buffer _ _
    (rw here at (joined-parts line items c.loop-i.i item within)) c.loop-i.invariant
    (rw (c.name.ensures, c.reg.ensures) at c.in_err-gather.ensures))

pub loop-i-preserved : goal.loop-i-preserved
loop-i-preserved g c =
    let items = (ended_at (g.T.Endings.ended c.args.run.now) c.args.rank).printed in
    let item = c.item-item.result in
    let line = printed_line c.args.scripts.now.names c.args.rank in
    let within : c.loop-i.i < length items = omega arith in
    let here : get_or items c.loop-i.i item ≡ item = get_or_from_slice_get items c.loop-i.i item item c.item-item.ensures in
    waits_within (g.S.Sink.seen c.args.sink.now) (g.S.Sink.seen c.loop-i.sink) (g.S.Sink.seen c.gather.new.sink) _ _ c.loop-i.buffer _ _
    (rw here at (joined-more line items c.loop-i.i item within)) c.loop-i.invariant
    (rw (c.name.ensures, c.reg.ensures) at c.in_ok-gather.ensures)

pub returns : goal.returns
returns g c =
    let items = (ended_at (g.T.Endings.ended c.args.run.now) c.args.rank).printed in
    let line = printed_line c.args.scripts.now.names c.args.rank in
    let past : length items ≤ c.loop-i.i = omega arith in
    let P : List ℕ → Type 0 = λ text. RestWaits text c.loop-i.buffer (g.S.Sink.seen c.args.sink.now) (g.S.Sink.seen c.loop-i.sink) in
    sends_waiting (g.S.Sink.seen c.args.sink.now) (g.S.Sink.seen c.loop-i.sink) (g.S.Sink.seen c.flush.new.sink) _ c.loop-i.buffer c.flush.result
    (subst P (joined-all line items c.loop-i.i past) c.loop-i.invariant) c.flush.ensures.sends
