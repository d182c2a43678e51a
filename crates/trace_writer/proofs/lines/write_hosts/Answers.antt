use Rattle.std.proofs.Common.{◌≡◌, ◌<◌, ◌≤◌, List, ℕ, sym, subst, arith}
use Rattle.rcce_io.specs.Sending.{CutShort, with_text}
use Rattle.rcce_io.proofs.SendingLemmas.{cut_within, sends_err, text_none, whole_within}
use Rattle.trace_writer.specs.Lines.{host_words}
use Rattle.trace_writer.proofs.RangeLaws.{numbers-all, numbers-more, numbers-parts}
use Rattle.trace_writer.proofs.lines.write_hosts.Goals as goal

pub loop-number-init : goal.loop-number-init
loop-number-init g c = sym (text_none (g.S.Sink.seen c.args.sink.now))

pub returns-in_err-write_host : goal.returns-in_err-write_host
returns-in_err-write_host g c =
    let within : c.loop-number.number < c.args.setup.now.nue = omega arith in
    sends_err _ _ _ _ c.from_residual.ensures.0 (
    cut_within (g.S.Sink.seen c.args.sink.now) (g.S.Sink.seen c.loop-number.sink) (g.S.Sink.seen c.write_host.new.sink) _ _ _ _
    (numbers-parts (host_words c.args.setup.now) c.args.setup.now.nue c.loop-number.number within) c.loop-number.invariant
    (subst (λ (k : ℕ). CutShort (host_words c.args.setup.now k) (g.S.Sink.seen c.loop-number.sink) (g.S.Sink.seen c.write_host.new.sink)) c.of.ensures.gives c.in_err-write_host.ensures))

pub loop-number-preserved : goal.loop-number-preserved
loop-number-preserved g c =
    let within : c.loop-number.number < c.args.setup.now.nue = omega arith in
    whole_within (g.S.Sink.seen c.args.sink.now) (g.S.Sink.seen c.loop-number.sink) (g.S.Sink.seen c.write_host.new.sink) _ _ _
    (numbers-more (host_words c.args.setup.now) c.args.setup.now.nue c.loop-number.number within) c.loop-number.invariant
    (subst (λ (k : ℕ). g.S.Sink.seen c.write_host.new.sink ≡ with_text (host_words c.args.setup.now k) (g.S.Sink.seen c.loop-number.sink)) c.of.ensures.gives c.in_ok-write_host.ensures)

pub returns : goal.returns
returns g c =
    let past : c.args.setup.now.nue ≤ c.loop-number.number = omega arith in
    subst (λ (t : List ℕ). g.S.Sink.seen c.loop-number.sink ≡ with_text t (g.S.Sink.seen c.args.sink.now)) (numbers-all (host_words c.args.setup.now) c.args.setup.now.nue c.loop-number.number past) c.loop-number.invariant
