use Rattle.std.proofs.Common.{◌≡◌, ℕ, ◌+◌, ◌-◌, ◌*◌, ◌<◌, ◌≤◌, List, [], ◌∷◌, take, drop, slice_index, sym, ◌∙◌, ap, arith}
use Rattle.std.proofs.lemmas.List.{get_or-drop, get_or-take}
use Rattle.send_recv.specs.Bytes.{word_of_bytes, words_at}
use Rattle.send_recv.proofs.slices.line_from.Goals as goal

-- the words of the same eight bytes
module _ (a b : List ℕ) (i j : ℕ) (same : (k : ℕ) → k < 8 → slice_index a (i + k) ≡ slice_index b (j + k)) where
  byte : (k x y : ℕ) → k < 8 → x ≡ i + k → y ≡ j + k → slice_index a x ≡ slice_index b y
  byte k x y low one two = ap (slice_index a) one ∙ same k low ∙ sym (ap (slice_index b) two)

  same_word : word_of_bytes a i ≡ word_of_bytes b j
  same_word =
      let e0 = byte 0 i j (omega arith) (omega arith) (omega arith) in
      let e1 = byte 1 (i + 1) (j + 1) (omega arith) (omega arith) (omega arith) in
      let e2 = byte 2 (i + 2) (j + 2) (omega arith) (omega arith) (omega arith) in
      let e3 = byte 3 (i + 3) (j + 3) (omega arith) (omega arith) (omega arith) in
      let e4 = byte 4 (i + 4) (j + 4) (omega arith) (omega arith) (omega arith) in
      let e5 = byte 5 (i + 4 + 1) (j + 4 + 1) (omega arith) (omega arith) (omega arith) in
      let e6 = byte 6 (i + 4 + 2) (j + 4 + 2) (omega arith) (omega arith) (omega arith) in
      let e7 = byte 7 (i + 4 + 3) (j + 4 + 3) (omega arith) (omega arith) (omega arith) in
      λ t. (e0 t + 0x100 * e1 t + 0x10000 * e2 t + 0x1000000 * e3 t) + 0x100000000 * (e4 t + 0x100 * e5 t + 0x10000 * e6 t + 0x1000000 * e7 t)

-- a line that stands in the message as a slice of its own
module _ (bytes : List ℕ) (at n : ℕ) (long : 32 ≤ n) where
  index_in : (i x : ℕ) → i < 32 → x ≡ at + i → slice_index (take n (drop at bytes)) i ≡ slice_index bytes x
  index_in i x low is = get_or-take n (drop at bytes) i 0 (omega (arith, low, long)) ∙ get_or-drop at bytes i 0 ∙ sym (ap (slice_index bytes) is)

  word_in : (i j : ℕ) → i < 25 → j ≡ at + i → word_of_bytes (take n (drop at bytes)) i ≡ word_of_bytes bytes j
  word_in i j low is = same_word (take n (drop at bytes)) bytes i j (λ k small. index_in (i + k) (j + k) (omega (arith, low, small)) (omega (arith, is)))

  words_in : words_at (take n (drop at bytes)) 0 ≡ words_at bytes at
  words_in =
      let w0 = word_in 0 at (omega arith) (omega arith) in
      let w1 = word_in 8 (at + 8) (omega arith) (omega arith) in
      let w2 = word_in 16 (at + 16) (omega arith) (omega arith) in
      let w3 = word_in 24 (at + 24) (omega arith) (omega arith) in
      λ t. w0 t ∷ w1 t ∷ w2 t ∷ w3 t ∷ []

pub returns-then-at-bytes : goal.returns-then-at-bytes
returns-then-at-bytes c = record { gives = c.four_words_from.ensures.gives ∙ words_in c.args.bytes.now c.args.at (c.args.at + 32 - c.args.at) (omega arith) }
