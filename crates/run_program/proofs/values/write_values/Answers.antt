use Rattle.std.proofs.Common.{◌≡◌, ℕ, ◌+◌, ◌-◌, ◌/◌, ◌≤◌, length, subst, sym, arith}
use Rattle.groups.specs.Folds.{bytes_in}
use Rattle.rcce_io.specs.Sending.{with_text}
use Rattle.rcce_io.proofs.SendingLemmas.{cut_within, sends_err, text_none, whole_within}
use Rattle.run_program.specs.Texts.{values_text, values_text_from}
use Rattle.run_program.proofs.ValueLemmas.{values-more, values-parts}
use Rattle.run_program.proofs.values.write_values.Goals as goal

pub loop-done-init : goal.loop-done-init
loop-done-init g c = record { within = omega arith; so_far = sym (text_none (g.S.Sink.seen c.args.sink.now)) }

pub returns-in_err-write_block : goal.returns-in_err-write_block
returns-in_err-write_block g c =
    let from = c.loop-done.done in
    let to = from + c.min.result in
    let all = length c.args.bytes.now / bytes_in c.args.ty in
    let later : from ≤ to = omega arith in
    let within : to ≤ all = omega arith in
    sends_err _ _ _ _ c.from_residual.ensures.0 (
    cut_within (g.S.Sink.seen c.args.sink.now) (g.S.Sink.seen c.loop-done.sink) (g.S.Sink.seen c.write_block.new.sink)
    (values_text_from c.args.ty c.args.bytes.now 0 from) (values_text_from c.args.ty c.args.bytes.now from (to - from))
    (values_text_from c.args.ty c.args.bytes.now to (all - to)) (values_text c.args.ty c.args.bytes.now)
    (values-parts c.args.ty c.args.bytes.now from to all later within) c.loop-done.invariant.so_far c.in_err-write_block.ensures)

pub loop-done-preserved : goal.loop-done-preserved
loop-done-preserved g c =
    let from = c.loop-done.done in
    let to = from + c.min.result in
    let later : from ≤ to = omega arith in
    record {
      within = omega arith;
      so_far = whole_within (g.S.Sink.seen c.args.sink.now) (g.S.Sink.seen c.loop-done.sink) (g.S.Sink.seen c.write_block.new.sink)
          (values_text_from c.args.ty c.args.bytes.now 0 from) (values_text_from c.args.ty c.args.bytes.now from (to - from))
          (values_text_from c.args.ty c.args.bytes.now 0 to)
          (values-more c.args.ty c.args.bytes.now from to later) c.loop-done.invariant.so_far c.in_ok-write_block.ensures;
    }

pub returns : goal.returns
returns g c =
    let whole : c.loop-done.done ≡ length c.args.bytes.now / bytes_in c.args.ty = omega arith in
    subst (λ (n : ℕ). g.S.Sink.seen c.loop-done.sink ≡ with_text (values_text_from c.args.ty c.args.bytes.now 0 n) (g.S.Sink.seen c.args.sink.now))
    whole c.loop-done.invariant.so_far
