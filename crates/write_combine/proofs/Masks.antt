-- The mask of a line of which words are written.
use Rattle.std.proofs.Common.{◌≡◌, ℕ, zero, suc, ◌<◌, Bool, true, List, [], ◌∷◌, length, refl, arith, slice_set, Some}
use Rattle.std.specs.List.{list_any}
use Rattle.std.proofs.lemmas.Bool.{or_right}
use Rattle.scc_base.specs.Places.{LineAt}
use Rattle.write_combine.specs.declared.combiner.Out.{Out}
use Rattle.write_combine.specs.Combining.{whole_line}

pub list_any-written : (mask : List Bool) (i : ℕ) → i < length mask → list_any (λ written. written) (slice_set mask i true) ≡ true
list_any-written [] i h = absurd (omega arith)
list_any-written (b ∷ bs) zero h = refl
list_any-written (b ∷ bs) (suc i) h =
    or_right b (list_any (λ written. written) (slice_set bs i true)) (list_any-written bs i (omega arith))

-- four words that are all written
abbrev all_written : LineAt → List ℕ → Out
all_written line words = record { line = line; words = words; mask = true ∷ true ∷ true ∷ true ∷ [] }

pub whole_written : (line : LineAt) (words : List ℕ) → length words ≡ 4 → Some (all_written line words) ≡ Some (whole_line line words)
whole_written line (a ∷ b ∷ c ∷ d ∷ []) four = refl
whole_written line [] four = absurd (omega (arith, four))
whole_written line (a ∷ []) four = absurd (omega (arith, four))
whole_written line (a ∷ b ∷ []) four = absurd (omega (arith, four))
whole_written line (a ∷ b ∷ c ∷ []) four = absurd (omega (arith, four))
whole_written line (a ∷ b ∷ c ∷ d ∷ e ∷ ws) four = absurd (omega (arith, four))
