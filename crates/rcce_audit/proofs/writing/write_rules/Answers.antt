use Rattle.std.proofs.Common.{◌<◌, length, arith}
use Rattle.scc_base.specs.declared.communicators.CommRule.TheVariants.{Absent}
use Rattle.rcce_io.proofs.SendingLemmas.{cut_within, sends_err, whole_within}
use Rattle.rcce_audit.specs.Texts.{rule_lines}
use Rattle.rcce_audit.proofs.TextLemmas.{table-more, table-parts}
use Rattle.rcce_audit.proofs.writing.write_rules.Goals as goal

pub returns-in_err-write_rule : goal.returns-in_err-write_rule
returns-in_err-write_rule g c =
    let within : c.loop-comm.comm < length c.args.comms.now = omega arith in
    sends_err _ _ _ _ c.from_residual.ensures.0 (
    cut_within (g.S.Sink.seen c.args.sink.now) (g.S.Sink.seen c.loop-comm.sink) (g.S.Sink.seen c.write_rule.new.sink) _ _ _ _
    (table-parts rule_lines c.args.comms.now c.loop-comm.comm Absent within) c.loop-comm.invariant c.in_err-write_rule.ensures)

pub loop-comm-preserved : goal.loop-comm-preserved
loop-comm-preserved g c =
    let within : c.loop-comm.comm < length c.args.comms.now = omega arith in
    whole_within (g.S.Sink.seen c.args.sink.now) (g.S.Sink.seen c.loop-comm.sink) (g.S.Sink.seen c.write_rule.new.sink) _ _ _
    (table-more rule_lines c.args.comms.now c.loop-comm.comm Absent within) c.loop-comm.invariant c.in_ok-write_rule.ensures
