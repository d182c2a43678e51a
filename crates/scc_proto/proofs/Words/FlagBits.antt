-- Words of bit flags of which one bit is raised or lowered.
use Rattle.std.proofs.Common.{◌≡◌, ◌≢◌, ⊎_elim, ℕ, zero, suc, ◌+◌, ◌-◌, ◌*◌, ◌/◌, ◌%◌, ◌^◌, ◌<◌, ◌≤◌, Bool, true, false, not, ◌&&◌, ◌==◌, Some, refl, sym, ◌∙◌, ap, subst, arith}
use Rattle.std.specs.Prelude.{◌⊎◌, min, bit_and, bit_or}
use Rattle.std.specs.Int.{bit_at, bit_not}
use mir.Syntax.{w64}
use Rattle.std.proofs.Math.Nat.{div-add-mod}
use Rattle.std.proofs.lemmas.Bool.{cases_order, cases_lt}
use Rattle.std.proofs.lemmas.Nat.{pow_pos}
use Rattle.std.proofs.lemmas.Nat.Bits.{bit_at_lowest, bit_at_and, bit_at_cat_low, bit_at_cat_high, bit_at-suc, bit_at-pow_same, bit_at-pow_other, bit_at_above, bit_at_set_same, bit_at_set_other, bit_at_clear_same, bit_at_clear_other, same_from_bits}
use Rattle.scc_proto.specs.Records.{raises_bit, lowers_bit, lowered_below}
use Rattle.scc_proto.proofs.Tests.{same_or_other, same_by_eqb, eqb_same, both_first, both_second, not_true, eqb_other, true_not_false}
use Rattle.scc_proto.proofs.Layouts.Roles.{eq_not, if_yes, if_no}

below_some : (n p : ℕ) → 0 < p → n % p < p
below_some n p h = omega arith

below_pow : (n k : ℕ) → n % 2 ^ k < 2 ^ k
below_pow n k = below_some n (2 ^ k) (pow_pos k)

one_more : (q p r n : ℕ) → p * q + r ≡ n → n + p ≡ (q + 1) * p + r
one_more q p r n e = omega arith

turned : (q p r n : ℕ) → p * q + r ≡ n → n ≡ q * p + r
turned q p r n e = omega arith

half_more : (q : ℕ) → q % 2 ≡ 0 → (q + 1) / 2 ≡ q / 2
half_more q even = omega arith

odd_more : (q : ℕ) → q % 2 ≡ 0 → (q + 1) % 2 ≡ 1
odd_more q even = omega arith

even_less : (q : ℕ) → (q + 1) % 2 ≡ 1 → q % 2 ≡ 0
even_less q odd = omega arith

-- a word by its bits from one on, and what is left
word_is : (b n : ℕ) → n ≡ n / 2 ^ b * 2 ^ b + n % 2 ^ b
word_is b n = turned (n / 2 ^ b) (2 ^ b) (n % 2 ^ b) n (div-add-mod n (2 ^ b))

more_is : (b n : ℕ) → n + 2 ^ b ≡ (n / 2 ^ b + 1) * 2 ^ b + n % 2 ^ b
more_is b n = one_more (n / 2 ^ b) (2 ^ b) (n % 2 ^ b) n (div-add-mod n (2 ^ b))

-- the bit itself
more_bit : (b n : ℕ) → bit_at (n + 2 ^ b) b ≡ (n / 2 ^ b + 1) % 2
more_bit b n = let none : b - b ≡ 0 = omega arith in
    ap (λ (w : ℕ). bit_at w b) (more_is b n) ∙ bit_at_cat_high (n / 2 ^ b + 1) b (n % 2 ^ b) b (below_pow n b) (omega arith)
    ∙ ap (λ (i : ℕ). bit_at (n / 2 ^ b + 1) i) none ∙ bit_at_lowest (n / 2 ^ b + 1)

pub raised_here : (b n : ℕ) → bit_at n b ≡ 0 → bit_at (n + 2 ^ b) b ≡ 1
raised_here b n clear = more_bit b n ∙ odd_more (n / 2 ^ b) clear

pub was_clear : (b n : ℕ) → bit_at (n + 2 ^ b) b ≡ 1 → bit_at n b ≡ 0
was_clear b n set = even_less (n / 2 ^ b) (sym (more_bit b n) ∙ set)

pub raised_there : (b n i : ℕ) → bit_at n b ≡ 0 → i ≢ b → bit_at (n + 2 ^ b) i ≡ bit_at n i
raised_there b n i clear other = ⊎_elim (λ (e : i ≡ b). absurd (other e))
    (λ (apart : (i < b) ⊎ (b < i)). ⊎_elim
    (λ (low : i < b). ap (λ (w : ℕ). bit_at w i) (more_is b n) ∙ bit_at_cat_low (n / 2 ^ b + 1) b (n % 2 ^ b) i low
    ∙ sym (ap (λ (w : ℕ). bit_at w i) (word_is b n) ∙ bit_at_cat_low (n / 2 ^ b) b (n % 2 ^ b) i low))
    (λ (above : b < i). let step : i - b ≡ suc (i - b - 1) = omega (arith, above) in let le : b ≤ i = omega (arith, above) in
    ap (λ (w : ℕ). bit_at w i) (more_is b n) ∙ bit_at_cat_high (n / 2 ^ b + 1) b (n % 2 ^ b) i (below_pow n b) le
    ∙ ap (λ (k : ℕ). bit_at (n / 2 ^ b + 1) k) step ∙ bit_at-suc (n / 2 ^ b + 1) (i - b - 1)
    ∙ ap (λ (q : ℕ). bit_at q (i - b - 1)) (half_more (n / 2 ^ b) clear)
    ∙ sym (ap (λ (w : ℕ). bit_at w i) (word_is b n) ∙ bit_at_cat_high (n / 2 ^ b) b (n % 2 ^ b) i (below_pow n b) le
    ∙ ap (λ (k : ℕ). bit_at (n / 2 ^ b) k) step ∙ bit_at-suc (n / 2 ^ b) (i - b - 1)))
    apart)
    (cases_order i b)

-- ---- the tests

both_true : (x y : Bool) → x ≡ true → y ≡ true → (x && y) ≡ true
both_true x y a c = λ i. a i && c i

-- a word of which one bit is raised
pub record IsRaised (b old new : ℕ) : Type 0 where
  pub clear : bit_at old b ≡ 0
  pub here : bit_at new b ≡ 1
  pub there : (i : ℕ) → i ≢ b → bit_at new i ≡ bit_at old i

-- a word of which one bit is lowered
pub record IsLowered (b old new : ℕ) : Type 0 where
  pub set : bit_at old b ≡ 1
  pub here : bit_at new b ≡ 0
  pub there : (i : ℕ) → i ≢ b → bit_at new i ≡ bit_at old i

pub raises_is : (b old new : ℕ) → raises_bit b old new ≡ true → IsRaised b old new
raises_is b old new t =
    let clear = same_by_eqb (bit_at old b) 0 (both_first (bit_at old b == 0) (new == old + 2 ^ b) t) in
    let sum = same_by_eqb new (old + 2 ^ b) (both_second (bit_at old b == 0) (new == old + 2 ^ b) t) in
    record { clear = clear; here = ap (λ (w : ℕ). bit_at w b) sum ∙ raised_here b old clear; there = λ i other. ap (λ (w : ℕ). bit_at w i) sum ∙ raised_there b old i clear other }

pub lowers_is : (b old new : ℕ) → lowers_bit b old new ≡ true → IsLowered b old new
lowers_is b old new t =
    let set = same_by_eqb (bit_at old b) 1 (both_first (bit_at old b == 1) (old == new + 2 ^ b) t) in
    let sum = same_by_eqb old (new + 2 ^ b) (both_second (bit_at old b == 1) (old == new + 2 ^ b) t) in
    let clear = was_clear b new (ap (λ (w : ℕ). bit_at w b) (sym sum) ∙ set) in
    record { set = set; here = clear; there = λ i other. sym (ap (λ (w : ℕ). bit_at w i) sum ∙ raised_there b new i clear other) }

pub raises_from : (b old : ℕ) → bit_at old b ≡ 0 → raises_bit b old (old + 2 ^ b) ≡ true
raises_from b old clear = both_true (bit_at old b == 0) (old + 2 ^ b == old + 2 ^ b) (ap (λ (x : ℕ). x == 0) clear) (eqb_same (old + 2 ^ b))

pub lowers_from : (b old new : ℕ) → bit_at old b ≡ 1 → old ≡ new + 2 ^ b → lowers_bit b old new ≡ true
lowers_from b old new set sum = both_true (bit_at old b == 1) (old == new + 2 ^ b) (ap (λ (x : ℕ). x == 1) set) (ap (λ (x : ℕ). x == new + 2 ^ b) sum ∙ eqb_same (new + 2 ^ b))

-- one bit alone is lowered
pow_once : (i j : ℕ) → 2 ^ i ≡ 2 ^ j → i ≡ j
pow_once i j e = same_or_other (i ≡ j) i j (λ t same. same)
    (λ t other. let a : 1 ≡ 0 = sym (bit_at-pow_same i) ∙ ap (λ (w : ℕ). bit_at w i) e ∙ bit_at-pow_other j i other in absurd (omega (arith, a)))

sum_once : (a b new old : ℕ) → old ≡ new + a → old ≡ new + b → a ≡ b
sum_once a b new old e f = omega arith

pub lowered_once : (i j old new : ℕ) → lowers_bit i old new ≡ true → lowers_bit j old new ≡ true → i ≡ j
lowered_once i j old new s t = pow_once i j (sum_once (2 ^ i) (2 ^ j) new old
    (same_by_eqb old (new + 2 ^ i) (both_second (bit_at old i == 1) (old == new + 2 ^ i) s))
    (same_by_eqb old (new + 2 ^ j) (both_second (bit_at old j == 1) (old == new + 2 ^ j) t)))

-- the rank whose bit is lowered
pub record IsLoweredBelow (me old new n j : ℕ) : Type 0 where
  pub below : j < n
  pub other : j ≢ me
  pub lowers : lowers_bit j old new ≡ true

pub lowered_below-is : (me old new n j : ℕ) → lowered_below me old new n ≡ Some j → IsLoweredBelow me old new n j
lowered_below-is me old new zero j is = absurd (cc)
lowered_below-is me old new (suc n) j is = by (λ f. lowered_below-is me old new n j f) (not (n == me) && lowers_bit n old new) refl
  where
    by : (lowered_below me old new n ≡ Some j → IsLoweredBelow me old new n j) → (t : Bool) → (not (n == me) && lowers_bit n old new) ≡ t → IsLoweredBelow me old new (suc n) j
    by rest true e = let a : Some n ≡ Some j = sym (if_yes (not (n == me) && lowers_bit n old new) (Some n) (lowered_below me old new n) e) ∙ is in
        let same : n ≡ j = cc (a) in
        let other : n ≢ me = eq_not n me (not_true (n == me) (both_first (not (n == me)) (lowers_bit n old new) e)) in
        record { below = omega (arith, same); other = λ x. other (same ∙ x); lowers = ap (λ (x : ℕ). lowers_bit x old new) (sym same) ∙ both_second (not (n == me)) (lowers_bit n old new) e }
    by rest false e = let a = rest (sym (if_no (not (n == me) && lowers_bit n old new) (Some n) (lowered_below me old new n) e) ∙ is) in
        record { below = omega (arith, a.below); other = a.other; lowers = a.lowers }

pub lowered_below-from : (me old new n j : ℕ) → j < n → j ≢ me → lowers_bit j old new ≡ true → lowered_below me old new n ≡ Some j
lowered_below-from me old new zero j lt other t = absurd (omega (arith, lt))
lowered_below-from me old new (suc n) j lt other t = by (λ f. lowered_below-from me old new n j f other t) (not (n == me) && lowers_bit n old new) refl
  where
    by : (j < n → lowered_below me old new n ≡ Some j) → (b : Bool) → (not (n == me) && lowers_bit n old new) ≡ b → lowered_below me old new (suc n) ≡ Some j
    by rest true e = if_yes (not (n == me) && lowers_bit n old new) (Some n) (lowered_below me old new n) e ∙ ap (λ (x : ℕ). Some x) (lowered_once n j old new (both_second (not (n == me)) (lowers_bit n old new) e) t)
    by rest false e = if_no (not (n == me) && lowers_bit n old new) (Some n) (lowered_below me old new n) e ∙ rest (omega (arith, lt, apart e))
      where
        apart : (not (n == me) && lowers_bit n old new) ≡ false → n ≢ j
        apart f = λ x. true_not_false (sym (ap (λ (i : ℕ). not (i == me) && lowers_bit i old new) x ∙ both_true (not (j == me)) (lowers_bit j old new) (ap not (eqb_other j me other)) t) ∙ f)

-- ---- as the code changes a word

-- a clear bit is set
pub bit_set-is : (old b : ℕ) → b < 64 → bit_at old b ≡ 0 → bit_or old (1 * 2 ^ b % 2 ^ 64) ≡ old + 2 ^ b
bit_set-is old b small clear = same_from_bits (bit_or old (1 * 2 ^ b % 2 ^ 64)) (old + 2 ^ b) (λ i. same_or_other (bit_at (bit_or old (1 * 2 ^ b % 2 ^ 64)) i ≡ bit_at (old + 2 ^ b) i) i b
    (λ t e. subst (λ (x : ℕ). bit_at (bit_or old (1 * 2 ^ b % 2 ^ 64)) x ≡ bit_at (old + 2 ^ b) x) (sym e) (bit_at_set_same w64 old b small ∙ sym (raised_here b old clear)))
    (λ t ne. bit_at_set_other w64 old b small i ne ∙ sym (raised_there b old i clear ne)))

-- a set bit is cleared
pub bit_clear-is : (old b : ℕ) → b < 64 → old < 2 ^ 64 → bit_at old b ≡ 1 → old ≡ bit_and old (bit_not w64 (1 * 2 ^ b % 2 ^ 64)) + 2 ^ b
bit_clear-is old b small fits set = same_from_bits old (bit_and old (bit_not w64 (1 * 2 ^ b % 2 ^ 64)) + 2 ^ b) (λ i. same_or_other (bit_at old i ≡ bit_at (bit_and old (bit_not w64 (1 * 2 ^ b % 2 ^ 64)) + 2 ^ b) i) i b
    (λ t e. subst (λ (x : ℕ). bit_at old x ≡ bit_at (bit_and old (bit_not w64 (1 * 2 ^ b % 2 ^ 64)) + 2 ^ b) x) (sym e) (set ∙ sym (raised_here b _ (bit_at_clear_same w64 old b small))))
    (λ t ne. sym (raised_there b _ i (bit_at_clear_same w64 old b small) ne ∙ ⊎_elim
    (λ (low : i < 64). bit_at_clear_other w64 old b small i low ne)
    (λ (high : 64 ≤ i). bit_at_and old _ i ∙ none (bit_at old i) _ (bit_at_above old 64 i fits high)) (cases_lt i 64))))
  where
    none : (m n : ℕ) → m ≡ 0 → min m n ≡ m
    none m n z = omega arith
