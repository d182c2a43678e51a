use Rattle.std.proofs.Common.{◌≡◌, ℕ, ◌+◌, slice_index, subst, arith}
use Rattle.send_recv.specs.Bytes.{byte_of_line}
use Rattle.send_recv.proofs.Lines.Puts.{line_put}
use Rattle.send_recv.proofs.slices.put_four_words.Goals as goal

pub returns : goal.returns
returns c = record {
  put = λ k low.
      let here : 0 + k ≡ k = omega arith in
      subst (λ (n : ℕ). slice_index c.put_word-4.new.bytes n ≡ byte_of_line c.args.words.now k) here
      (line_put c.args.words.now 0 c.args.line.now c.put_word.new.bytes c.put_word-2.new.bytes c.put_word-3.new.bytes c.put_word-4.new.bytes
      (record { put = c.put_word.ensures.put; before = c.put_word.ensures.before; afterwards = c.put_word.ensures.afterwards; same = c.put_word.auto.bytes })
      (record { put = c.put_word-2.ensures.put; before = c.put_word-2.ensures.before; afterwards = c.put_word-2.ensures.afterwards; same = c.put_word-2.auto.bytes })
      (record { put = c.put_word-3.ensures.put; before = c.put_word-3.ensures.before; afterwards = c.put_word-3.ensures.afterwards; same = c.put_word-3.auto.bytes })
      (record { put = c.put_word-4.ensures.put; before = c.put_word-4.ensures.before; afterwards = c.put_word-4.ensures.afterwards; same = c.put_word-4.auto.bytes })
      k low (omega (arith, low, c.requires.whole)));
}
