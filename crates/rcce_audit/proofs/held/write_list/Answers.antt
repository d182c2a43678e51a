use Rattle.std.proofs.Common.{◌≡◌, List, ℕ, length, drop, take, refl, sym, subst, ap, ◌∙◌, arith}
use Rattle.rcce_io.specs.Sending.{CutShort, with_text}
use Rattle.rcce_io.proofs.SendingLemmas.{cut_within, sends_err, text_none, whole_within}
use Rattle.rcce_audit.specs.Held.{call_with_bytes}
use Rattle.rcce_audit.specs.Pieces.{line_by}
use Rattle.rcce_audit.proofs.HeldLemmas.{place_more, text_around, text_more}
use Rattle.rcce_audit.proofs.held.write_list.Goals as goal

pub piece-own-requires : goal.piece-own-requires
piece-own-requires g c = record { within = c.loop-call.invariant.within }

pub loop-call-init : goal.loop-call-init
loop-call-init g c = record { within = omega arith; place = refl; so_far = sym (text_none (g.S.Sink.seen c.args.sink.now)) }

pub returns-in_err-write_held : goal.returns-in_err-write_held
returns-in_err-write_held g c =
    let call = c.call-item.result in
    let own = c.piece-own.ensures.gives ∙ ap (λ (n : ℕ). take n (drop c.loop-call.at c.args.bytes.now)) c.bytes_in.ensures in
    let parts = text_around c.args.rank c.args.calls.now c.args.bytes.now c.loop-call.call-index c.loop-call.at call c.loop-call-test.true c.call-item.is c.loop-call.invariant.place in
    sends_err _ _ _ _ c.from_residual.ensures.0 (
    cut_within (g.S.Sink.seen c.args.sink.now) (g.S.Sink.seen c.loop-call.sink) (g.S.Sink.seen c.write_held.new.sink) _ _ _ _ parts c.loop-call.invariant.so_far
    (subst (λ (b : List ℕ). CutShort (line_by c.args.rank (call_with_bytes call b)) (g.S.Sink.seen c.loop-call.sink) (g.S.Sink.seen c.write_held.new.sink)) own c.in_err-write_held.ensures))

pub loop-call-preserved : goal.loop-call-preserved
loop-call-preserved g c =
    let call = c.call-item.result in
    let own = c.piece-own.ensures.gives ∙ ap (λ (n : ℕ). take n (drop c.loop-call.at c.args.bytes.now)) c.bytes_in.ensures in
    let afterwards = c.piece-own.ensures.within in
    record {
      within = omega (arith, afterwards);
      place = place_more c.args.rank c.args.calls.now c.args.bytes.now c.loop-call.call-index c.loop-call.at call c.loop-call-test.true c.call-item.is c.loop-call.invariant.place _ (ap length own);
      so_far = whole_within (g.S.Sink.seen c.args.sink.now) (g.S.Sink.seen c.loop-call.sink) (g.S.Sink.seen c.write_held.new.sink) _ _ _
          (text_more c.args.rank c.args.calls.now c.args.bytes.now c.loop-call.call-index c.loop-call.at call c.loop-call-test.true c.call-item.is c.loop-call.invariant.place) c.loop-call.invariant.so_far
          (subst (λ (b : List ℕ). g.S.Sink.seen c.write_held.new.sink ≡ with_text (line_by c.args.rank (call_with_bytes call b)) (g.S.Sink.seen c.loop-call.sink)) own c.in_ok-write_held.ensures);
    }
