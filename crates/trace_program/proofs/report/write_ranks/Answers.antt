use Rattle.std.proofs.Common.{◌<◌, length, arith}
use Rattle.rcce_io.proofs.SendingLemmas.{cut_within, sends_err, whole_within}
use Rattle.rcce_audit.proofs.TextLemmas.{table-more, table-parts}
use Rattle.trace_program.specs.Texts.{count_lines}
use Rattle.trace_program.proofs.report.write_ranks.Goals as goal

pub returns-in_err-write_rank : goal.returns-in_err-write_rank
returns-in_err-write_rank g c =
    let counts = c.args.counts.now in
    let rank = c.loop-rank.rank in
    let within : rank < length counts = omega (arith, c.requires, c.loop-rank-test.true) in
    sends_err _ _ _ _ c.from_residual.ensures.0 (
    cut_within (g.S.Sink.seen c.args.sink.now) (g.S.Sink.seen c.loop-rank.sink) (g.S.Sink.seen c.write_rank.new.sink) _ _ _ _
    (table-parts (count_lines c.args.nue) counts rank 0 within) c.loop-rank.invariant
    c.in_err-write_rank.ensures)

pub loop-rank-preserved : goal.loop-rank-preserved
loop-rank-preserved g c =
    let counts = c.args.counts.now in
    let rank = c.loop-rank.rank in
    let within : rank < length counts = omega (arith, c.requires, c.loop-rank-test.true) in
    whole_within (g.S.Sink.seen c.args.sink.now) (g.S.Sink.seen c.loop-rank.sink) (g.S.Sink.seen c.write_rank.new.sink) _ _ _
    (table-more (count_lines c.args.nue) counts rank 0 within) c.loop-rank.invariant
    c.in_ok-write_rank.ensures
