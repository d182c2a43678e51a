use Rattle.std.proofs.Common.{◌+◌, ◌-◌, slice_index, ◌∙◌, arith}
use Rattle.send_recv.proofs.Lines.Puts.{Puts, line_put, line_before, line_after, part_long, part_put, part_before, part_after}
use Rattle.send_recv.proofs.slices.put_line.Goals as goal

pub returns : goal.returns
returns c =
    let first : Puts c.args.bytes.now c.args.at (slice_index c.args.words.now 0) c.put_word.new.bytes
    = record { put = c.put_word.ensures.put; before = c.put_word.ensures.before; afterwards = c.put_word.ensures.afterwards; same = c.put_word.auto.bytes } in
    let second : Puts c.put_word.new.bytes (c.args.at + 8) (slice_index c.args.words.now 1) c.put_word-2.new.bytes
    = record { put = c.put_word-2.ensures.put; before = c.put_word-2.ensures.before; afterwards = c.put_word-2.ensures.afterwards; same = c.put_word-2.auto.bytes } in
    let third : Puts c.put_word-2.new.bytes (c.args.at + 16) (slice_index c.args.words.now 2) c.put_word-3.new.bytes
    = record { put = c.put_word-3.ensures.put; before = c.put_word-3.ensures.before; afterwards = c.put_word-3.ensures.afterwards; same = c.put_word-3.auto.bytes } in
    let fourth : Puts c.put_word-3.new.bytes (c.args.at + 24) (slice_index c.args.words.now 3) c.put_word-4.new.bytes
    = record { put = c.put_word-4.ensures.put; before = c.put_word-4.ensures.before; afterwards = c.put_word-4.ensures.afterwards; same = c.put_word-4.auto.bytes } in
    record {
      put = line_put c.args.words.now c.args.at c.args.bytes.now _ _ _ _ first second third fourth;
      before = line_before c.args.words.now c.args.at c.args.bytes.now _ _ _ _ first second third fourth;
      afterwards = line_after c.args.words.now c.args.at c.args.bytes.now _ _ _ _ first second third fourth;
    }

pub put_four_words-requires : goal.put_four_words-requires
put_four_words-requires c =
    let long = part_long c.args.bytes.now c.args.at 32 c.if-at-bytes.true in
    record { whole = omega (arith, long) }

pub returns-then-at-bytes-clause-put : goal.returns-then-at-bytes-clause-put
returns-then-at-bytes-clause-put c = λ k low within.
    part_put c.args.bytes.now c.put_four_words.new.line c.args.at (c.args.at + 32 - c.args.at) (omega (arith, c.if-at-bytes.true))
    (c.put_four_words.auto.line ∙ part_long c.args.bytes.now c.args.at 32 c.if-at-bytes.true) k (omega (arith, low))
    ∙ c.put_four_words.ensures.put k low

pub returns-then-at-bytes-clause-before : goal.returns-then-at-bytes-clause-before
returns-then-at-bytes-clause-before c =
    part_before c.args.bytes.now c.put_four_words.new.line c.args.at (c.args.at + 32 - c.args.at) (omega (arith, c.if-at-bytes.true))
    (c.put_four_words.auto.line ∙ part_long c.args.bytes.now c.args.at 32 c.if-at-bytes.true)

pub returns-then-at-bytes-clause-afterwards : goal.returns-then-at-bytes-clause-afterwards
returns-then-at-bytes-clause-afterwards c = λ k high.
    part_after c.args.bytes.now c.put_four_words.new.line c.args.at (c.args.at + 32 - c.args.at) (omega (arith, c.if-at-bytes.true))
    (c.put_four_words.auto.line ∙ part_long c.args.bytes.now c.args.at 32 c.if-at-bytes.true) k (omega (arith, high))
