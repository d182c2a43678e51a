-- The word with one bit as asked, as the code computes it.
use Rattle.std.proofs.Common.{◌≡◌, ⊎_elim, ℕ, ◌+◌, ◌-◌, ◌*◌, ◌%◌, ◌^◌, ◌<◌, ◌≤◌, true, false, ◌==◌, if◌then◌else◌, sym, ◌∙◌, subst, arith}
use Rattle.std.specs.Prelude.{◌⊎◌, min, bit_and, bit_or}
use Rattle.std.specs.Int.{bit_at, bit_not}
use mir.Syntax.{w64}
use Rattle.std.proofs.lemmas.Bool.{cases_lt}
use Rattle.std.proofs.lemmas.Nat.Bits.{bit_at-lt, bit_at_and, bit_at_above, bit_at_set_same, bit_at_set_other, bit_at_clear_same, bit_at_clear_other, same_from_bits}
use Rattle.scc_proto.proofs.Tests.{same_or_other}
use Rattle.scc_proto.proofs.Words.FlagBits.{bit_set-is, bit_clear-is}
use Rattle.sync_flags.specs.Flags.{with_bit}

clear_or_set : (n b : ℕ) → (bit_at n b ≡ 0) ⊎ (bit_at n b ≡ 1)
clear_or_set n b = two (bit_at n b) (bit_at-lt n b)
  where
    two : (x : ℕ) → x < 2 → (x ≡ 0) ⊎ (x ≡ 1)
    two x lt = grind arith

set_stays : (word b : ℕ) → b < 64 → bit_at word b ≡ 1 → bit_or word (1 * 2 ^ b % 2 ^ 64) ≡ word
set_stays word b small set = same_from_bits (bit_or word (1 * 2 ^ b % 2 ^ 64)) word (λ i. same_or_other (bit_at (bit_or word (1 * 2 ^ b % 2 ^ 64)) i ≡ bit_at word i) i b
    (λ t e. subst (λ (x : ℕ). bit_at (bit_or word (1 * 2 ^ b % 2 ^ 64)) x ≡ bit_at word x) (sym e) (bit_at_set_same w64 word b small ∙ sym set))
    (λ t ne. bit_at_set_other w64 word b small i ne))

clear_stays : (word b : ℕ) → b < 64 → word < 2 ^ 64 → bit_at word b ≡ 0 → bit_and word (bit_not w64 (1 * 2 ^ b % 2 ^ 64)) ≡ word
clear_stays word b small fits clear = same_from_bits (bit_and word (bit_not w64 (1 * 2 ^ b % 2 ^ 64))) word (λ i. same_or_other (bit_at (bit_and word (bit_not w64 (1 * 2 ^ b % 2 ^ 64))) i ≡ bit_at word i) i b
    (λ t e. subst (λ (x : ℕ). bit_at (bit_and word (bit_not w64 (1 * 2 ^ b % 2 ^ 64))) x ≡ bit_at word x) (sym e) (bit_at_clear_same w64 word b small ∙ sym clear))
    (λ t ne. ⊎_elim
    (λ (low : i < 64). bit_at_clear_other w64 word b small i low ne)
    (λ (high : 64 ≤ i). bit_at_and word _ i ∙ none (bit_at word i) _ (bit_at_above word 64 i fits high)) (cases_lt i 64)))
  where
    none : (m n : ℕ) → m ≡ 0 → min m n ≡ m
    none m n z = omega arith

less : (old new b : ℕ) → old ≡ new + b → new ≡ old - b
less old new b e = omega arith

pub set_is : (word b : ℕ) → b < 64 → bit_or word (1 * 2 ^ b % 2 ^ 64) ≡ with_bit b true word
set_is word b small = ⊎_elim
    (λ (e : bit_at word b ≡ 0). bit_set-is word b small e ∙ sym (λ i. if e i == 1 then word else (word + 2 ^ b)))
    (λ (e : bit_at word b ≡ 1). set_stays word b small e ∙ sym (λ i. if e i == 1 then word else (word + 2 ^ b)))
    (clear_or_set word b)

pub clear_is : (word b : ℕ) → b < 64 → word < 2 ^ 64 → bit_and word (bit_not w64 (1 * 2 ^ b % 2 ^ 64)) ≡ with_bit b false word
clear_is word b small fits = ⊎_elim
    (λ (e : bit_at word b ≡ 0). clear_stays word b small fits e ∙ sym (λ i. if e i == 0 then word else (word - 2 ^ b)))
    (λ (e : bit_at word b ≡ 1). less word (bit_and word (bit_not w64 (1 * 2 ^ b % 2 ^ 64))) (2 ^ b) (bit_clear-is word b small fits e) ∙ sym (λ i. if e i == 0 then word else (word - 2 ^ b)))
    (clear_or_set word b)
