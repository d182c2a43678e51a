use Rattle.std.proofs.Common.{◌≡◌, ℕ, ◌+◌, ◌-◌, List, ◌++◌, length, length-drop, take, drop, ap, arith, sym, ◌∙◌}
use Rattle.std.proofs.Math.Seq.{take-add}
use Rattle.std.proofs.lemmas.List.{take-append-drop, take_rest}
use Rattle.rcce_io.specs.Sending.{with_fault}
use Rattle.rcce_io.proofs.SendingLemmas.{text_none, text_after}
use Rattle.rcce_io.proofs.writing.write_all.Goals as goal

-- a front of the slice that a write is given goes on from what was sent
take-more : (sent n : ℕ) (bytes : List ℕ) →
    take (sent + n) bytes ≡ take sent bytes ++ take n (take (length bytes - sent) (drop sent bytes))
take-more sent n bytes = rw take_rest (take-add sent n bytes)

pub loop-sent-init : goal.loop-sent-init
loop-sent-init g c = record { within = omega arith; left = sym (text_none (g.S.Sink.seen c.args.sink.now)) }

pub loop-sent-preserved : goal.loop-sent-preserved
loop-sent-preserved g c = record {
  within = let taken = rw take_rest at c.in-Took.ensures.1 in omega (arith, length-drop c.loop-sent.sent c.args.bytes.now, taken);
  left = rw (take-more c.loop-sent.sent c.in-Took.n c.args.bytes.now) (
      text_after (g.S.Sink.seen c.args.sink.now) (g.S.Sink.seen c.loop-sent.sink) (g.S.Sink.seen c.write.new.self) _ _
      c.loop-sent.invariant.left c.in-Took.ensures.2);
}

pub returns-in-Failed : goal.returns-in-Failed
returns-in-Failed g c = record {
  front = take c.loop-sent.sent c.args.bytes.now;
  back = drop c.loop-sent.sent c.args.bytes.now;
  whole = sym (take-append-drop c.loop-sent.sent c.args.bytes.now);
  missing = omega (arith, length-drop c.loop-sent.sent c.args.bytes.now);
  left = c.in-Failed.ensures ∙ ap with_fault c.loop-sent.invariant.left;
}
