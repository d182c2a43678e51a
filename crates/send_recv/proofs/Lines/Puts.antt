-- The bytes of a line as its four words are put one after the other, and those of a word.
use Rattle.std.proofs.Common.{◌≡◌, ◌≢◌, ⊎_elim, ℕ, zero, suc, ◌+◌, ◌-◌, ◌*◌, ◌/◌, ◌%◌, ◌<◌, ◌≤◌, List, ◌++◌, length, slice_index, take, drop, set, below_more, refl, sym, ◌∙◌, ap, subst, arith}
use Rattle.std.specs.Int.{w64, to_le_bytes}
use Rattle.std.proofs.lemmas.List.{length-take-le, length-drop, get_or-set_same, get_or-set_other, get_or-take, get_or-drop, get_or_append_left, get_or-append-add, get_or-append_right}
use Rattle.std.proofs.lemmas.Bool.{cases_lt}
use Rattle.scc_base.specs.Bytes.{byte_of_word}
use Rattle.send_recv.specs.Bytes.{byte_of_line}

-- the eight bytes of a word were put from a byte on, up to the end, and no others
pub record Puts (old : List ℕ) (at word : ℕ) (new : List ℕ) : Type 0 where
  pub put : (k : ℕ) → k < 8 → at + k < length old → slice_index new (at + k) ≡ byte_of_word word k
  pub before : (k : ℕ) → k < at → slice_index new k ≡ slice_index old k
  pub afterwards : (k : ℕ) → at + 8 ≤ k → slice_index new k ≡ slice_index old k
  pub same : length new ≡ length old

-- a byte of a line is one of the eight of one of its words
word_byte : (words : List ℕ) (j i k : ℕ) → i < 8 → k ≡ 8 * j + i → byte_of_word (slice_index words j) i ≡ byte_of_line words k
word_byte words j i k low is =
    let word : j ≡ k / 8 = omega (arith, low, is) in
    let byte : i ≡ k % 8 = omega (arith, low, is) in
    λ t. byte_of_word (slice_index words (word t)) (byte t)

put_at : {old new : List ℕ} {from word : ℕ} → Puts old from word new → (at i : ℕ) → at ≡ from + i → i < 8 → at < length old → slice_index new at ≡ byte_of_word word i
put_at {old} {new} p at i is low within = ap (slice_index new) is ∙ p.put i low (subst (λ (n : ℕ). n < length old) is within)

module _ (words : List ℕ) (at : ℕ) (s t u v w : List ℕ) (one : Puts s at (slice_index words 0) t) (two : Puts t (at + 8) (slice_index words 1) u)
    (three : Puts u (at + 16) (slice_index words 2) v) (four : Puts v (at + 24) (slice_index words 3) w) where
  in_first : (k : ℕ) → k < 8 → at + k < length s → slice_index w (at + k) ≡ byte_of_line words k
  in_first k low within =
      four.before (at + k) (omega (arith, low)) ∙ three.before (at + k) (omega (arith, low)) ∙ two.before (at + k) (omega (arith, low))
      ∙ one.put k low within ∙ word_byte words 0 k k low (omega arith)

  in_second : (k : ℕ) → 8 ≤ k → k < 16 → at + k < length s → slice_index w (at + k) ≡ byte_of_line words k
  in_second k high low within =
      four.before (at + k) (omega (arith, low)) ∙ three.before (at + k) (omega (arith, low))
      ∙ put_at two (at + k) (k - 8) (omega (arith, high)) (omega (arith, low)) (omega (arith, within, one.same))
      ∙ word_byte words 1 (k - 8) k (omega (arith, low)) (omega (arith, high))

  in_third : (k : ℕ) → 16 ≤ k → k < 24 → at + k < length s → slice_index w (at + k) ≡ byte_of_line words k
  in_third k high low within =
      four.before (at + k) (omega (arith, low))
      ∙ put_at three (at + k) (k - 16) (omega (arith, high)) (omega (arith, low)) (omega (arith, within, one.same, two.same))
      ∙ word_byte words 2 (k - 16) k (omega (arith, low)) (omega (arith, high))

  in_fourth : (k : ℕ) → 24 ≤ k → k < 32 → at + k < length s → slice_index w (at + k) ≡ byte_of_line words k
  in_fourth k high low within =
      put_at four (at + k) (k - 24) (omega (arith, high)) (omega (arith, low)) (omega (arith, within, one.same, two.same, three.same))
      ∙ word_byte words 3 (k - 24) k (omega (arith, low)) (omega (arith, high))

  pub line_put : (k : ℕ) → k < 32 → at + k < length s → slice_index w (at + k) ≡ byte_of_line words k
  line_put k low within =
      ⊎_elim (λ (a : k < 8). in_first k a within) (λ (b : 8 ≤ k).
      ⊎_elim (λ (a : k < 16). in_second k b a within) (λ (d : 16 ≤ k).
      ⊎_elim (λ (a : k < 24). in_third k d a within) (λ (e : 24 ≤ k). in_fourth k e low within) (cases_lt k 24)) (cases_lt k 16)) (cases_lt k 8)

  pub line_before : (k : ℕ) → k < at → slice_index w k ≡ slice_index s k
  line_before k low = four.before k (omega (arith, low)) ∙ three.before k (omega (arith, low)) ∙ two.before k (omega (arith, low)) ∙ one.before k low

  pub line_after : (k : ℕ) → at + 32 ≤ k → slice_index w k ≡ slice_index s k
  line_after k high = four.afterwards k (omega (arith, high)) ∙ three.afterwards k (omega (arith, high)) ∙ two.afterwards k (omega (arith, high)) ∙ one.afterwards k (omega (arith, high))

-- ---- a part of a message that is written as a slice of its own

module _ (xs ys : List ℕ) (at n : ℕ) (fits : at + n ≤ length xs) (long : length ys ≡ n) where
  -- the message then
  abbrev whole : List ℕ
  whole = take at xs ++ (ys ++ drop n (drop at xs))

  first : length (take at xs) ≡ at
  first = length-take-le at xs (omega (arith, fits))

  pub part_put : (k : ℕ) → k < n → slice_index whole (at + k) ≡ slice_index ys k
  part_put k low =
      ap (λ (m : ℕ). slice_index whole (m + k)) (sym first)
      ∙ get_or-append-add (take at xs) (ys ++ drop n (drop at xs)) k 0 ∙ get_or_append_left ys (drop n (drop at xs)) 0 k (omega (arith, low, long))

  pub part_before : (k : ℕ) → k < at → slice_index whole k ≡ slice_index xs k
  part_before k low = get_or_append_left (take at xs) (ys ++ drop n (drop at xs)) 0 k (omega (arith, first, low)) ∙ get_or-take at xs k 0 low

  pub part_after : (k : ℕ) → at + n ≤ k → slice_index whole k ≡ slice_index xs k
  part_after k high =
      let there : at + (n + (k - at - n)) ≡ k = omega (arith, high) in
      get_or-append_right (take at xs) (ys ++ drop n (drop at xs)) at k 0 first (omega (arith, high))
      ∙ get_or-append_right ys (drop n (drop at xs)) n (k - at) 0 long (omega (arith, high))
      ∙ get_or-drop n (drop at xs) (k - at - n) 0 ∙ get_or-drop at xs (n + (k - at - n)) 0 ∙ ap (slice_index xs) there

pub part_long : (bytes : List ℕ) (at n : ℕ) → at + n ≤ length bytes → length (take (at + n - at) (drop at bytes)) ≡ at + n - at
part_long bytes at n fits =
    let rest = length-drop at bytes in
    length-take-le (at + n - at) (drop at bytes) (omega (arith, rest, fits))

-- ---- the bytes of a word, one after the other

pub le_byte : (word k : ℕ) → k < 8 → slice_index (to_le_bytes w64 word) k ≡ byte_of_word word k
le_byte word zero low = let one : word ≡ word / 1 = omega arith in ap (λ (n : ℕ). n % 256) one
le_byte word (suc zero) low = refl
le_byte word (suc (suc zero)) low = refl
le_byte word (suc (suc (suc zero))) low = refl
le_byte word (suc (suc (suc (suc zero)))) low = refl
le_byte word (suc (suc (suc (suc (suc zero))))) low = refl
le_byte word (suc (suc (suc (suc (suc (suc zero)))))) low = refl
le_byte word (suc (suc (suc (suc (suc (suc (suc zero))))))) low = refl
le_byte word (suc (suc (suc (suc (suc (suc (suc (suc k)))))))) low = absurd (omega (arith, low))

-- the first n bytes of a word were put from a byte on, up to the end, and no others
pub record IsPutting (old : List ℕ) (at word n : ℕ) (new : List ℕ) : Type 0 where
  pub put : (k : ℕ) → k < n → at + k < length new → slice_index new (at + k) ≡ byte_of_word word k
  pub before : (k : ℕ) → k < at → slice_index new k ≡ slice_index old k
  pub afterwards : (k : ℕ) → at + n ≤ k → slice_index new k ≡ slice_index old k

module _ (old new : List ℕ) (at word n : ℕ) (is : IsPutting old at word n new) where
  pub putting_more : (byte : ℕ) → byte ≡ byte_of_word word n → at + n < length new → IsPutting old at word (n + 1) (set new (at + n) byte)
  putting_more byte gives low = record {
    put = below_more _ _
        (λ k below within.
        let apart : at + k ≢ at + n = omega (arith, below) in
        get_or-set_other new (at + n) (at + k) byte 0 apart ∙ is.put k below (omega (arith, below, low)))
        (λ within. get_or-set_same new (at + n) byte 0 low ∙ gives);
    before = λ k below.
        let apart : k ≢ at + n = omega (arith, below) in
        get_or-set_other new (at + n) k byte 0 apart ∙ is.before k below;
    afterwards = λ k high.
        let apart : k ≢ at + n = omega (arith, high) in
        get_or-set_other new (at + n) k byte 0 apart ∙ is.afterwards k (omega (arith, high));
  }

  pub putting_past : length new ≤ at + n → IsPutting old at word (n + 1) new
  putting_past end = record {
    put = below_more _ _ is.put (λ within. absurd (omega (arith, end, within)));
    before = is.before;
    afterwards = λ k high. is.afterwards k (omega (arith, high));
  }
