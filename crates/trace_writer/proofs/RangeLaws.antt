-- Texts of numbers that are sent one by one.
use Rattle.std.proofs.Common.{◌≡◌, ℕ, ◌+◌, ◌<◌, ◌≤◌, List, ◌++◌, map, length, take, drop, get_or, ap, ◌∙◌, arith}
use Rattle.std.specs.List.{range_with_len}
use Rattle.std.proofs.lemmas.List.{take_all}
use Rattle.std.proofs.lemmas.List.FromFn.{get_or-range_with_len, length-range_with_len}
use Rattle.rcce_io.specs.Sending.{joined_texts}
use Rattle.rcce_io.proofs.SendingLemmas.{joined-more, joined-parts}

module _ (f : ℕ → List ℕ) (n i : ℕ) where
  within : i < n → i < length (range_with_len 0 n)
  within below = omega (arith, length-range_with_len 0 n, below)

  here : i < n → get_or (range_with_len 0 n) i 0 ≡ i
  here below = omega (arith, get_or-range_with_len 0 n i 0 below)

  -- the first texts, and the next one
  pub numbers-more : i < n → joined_texts (map f (take (i + 1) (range_with_len 0 n))) ≡ joined_texts (map f (take i (range_with_len 0 n))) ++ f i
  numbers-more below =
      joined-more f (range_with_len 0 n) i 0 (within below) ∙ ap (λ (k : ℕ). joined_texts (map f (take i (range_with_len 0 n))) ++ f k) (here below)

  -- and the rest
  pub numbers-parts : i < n → joined_texts (map f (range_with_len 0 n)) ≡ joined_texts (map f (take i (range_with_len 0 n))) ++ (f i ++ joined_texts (map f (drop (i + 1) (range_with_len 0 n))))
  numbers-parts below =
      joined-parts f (range_with_len 0 n) i 0 (within below)
      ∙ ap (λ (k : ℕ). joined_texts (map f (take i (range_with_len 0 n))) ++ (f k ++ joined_texts (map f (drop (i + 1) (range_with_len 0 n))))) (here below)

  -- all texts
  pub numbers-all : n ≤ i → joined_texts (map f (take i (range_with_len 0 n))) ≡ joined_texts (map f (range_with_len 0 n))
  numbers-all past = ap (λ (l : List ℕ). joined_texts (map f l)) (take_all i (range_with_len 0 n) (omega (arith, length-range_with_len 0 n, past)))
