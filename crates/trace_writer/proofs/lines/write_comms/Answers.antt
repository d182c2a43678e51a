use Rattle.std.proofs.Common.{◌≡◌, ◌+◌, ◌<◌, ◌≤◌, List, ℕ, sym, subst, arith}
use Rattle.rcce_io.specs.Sending.{CutShort, with_text}
use Rattle.rcce_io.proofs.SendingLemmas.{cut_within, sends_err, text_none, whole_within}
use Rattle.scc_base.specs.declared.communicators.CommRule.{CommRule}
use Rattle.trace_writer.specs.Lines.{comm_line, comm_line_after}
use Rattle.trace_writer.proofs.RangeLaws.{numbers-all, numbers-more, numbers-parts}
use Rattle.trace_writer.proofs.lines.write_comms.Goals as goal

pub loop-before-init : goal.loop-before-init
loop-before-init g c = sym (text_none (g.S.Sink.seen c.args.sink.now))

pub returns-in_err-write_comm : goal.returns-in_err-write_comm
returns-in_err-write_comm g c =
    let within : c.loop-before.before < 15 = omega arith in
    let cut = subst (λ (r : CommRule). CutShort (comm_line (c.loop-before.before + 1) r) (g.S.Sink.seen c.loop-before.sink) (g.S.Sink.seen c.write_comm.new.sink))
    c.rule.ensures.gives c.in_err-write_comm.ensures in
    sends_err _ _ _ _ c.from_residual.ensures.0 (
    cut_within (g.S.Sink.seen c.args.sink.now) (g.S.Sink.seen c.loop-before.sink) (g.S.Sink.seen c.write_comm.new.sink) _ _ _ _
    (numbers-parts (comm_line_after c.args.setup.now) 15 c.loop-before.before within) c.loop-before.invariant cut)

pub loop-before-preserved : goal.loop-before-preserved
loop-before-preserved g c =
    let within : c.loop-before.before < 15 = omega arith in
    let sent = subst (λ (r : CommRule). g.S.Sink.seen c.write_comm.new.sink ≡ with_text (comm_line (c.loop-before.before + 1) r) (g.S.Sink.seen c.loop-before.sink))
    c.rule.ensures.gives c.in_ok-write_comm.ensures in
    whole_within (g.S.Sink.seen c.args.sink.now) (g.S.Sink.seen c.loop-before.sink) (g.S.Sink.seen c.write_comm.new.sink) _ _ _
    (numbers-more (comm_line_after c.args.setup.now) 15 c.loop-before.before within) c.loop-before.invariant sent

pub returns : goal.returns
returns g c =
    let past : 15 ≤ c.loop-before.before = omega arith in
    subst (λ (t : List ℕ). g.S.Sink.seen c.loop-before.sink ≡ with_text t (g.S.Sink.seen c.args.sink.now)) (numbers-all (comm_line_after c.args.setup.now) 15 c.loop-before.before past) c.loop-before.invariant
