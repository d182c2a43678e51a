-- Statements with a fixed number of words after the first one. Any other number is a fault (this project's profile).
use Rattle.std.specs.Prelude.{ℕ, List, [], ◌∷◌, Result, Err}
use Rattle.script_rules.specs.declared.fault.FaultKind.{FaultKind}
use Rattle.script_rules.specs.declared.fault.FaultKind.TheVariants as kind

-- reads a statement of two words after its first one
abbrev pub of_two_words : {A : Type 0} → (List ℕ → List ℕ → Result A FaultKind) → List (List ℕ) → Result A FaultKind
of_two_words says (a ∷ b ∷ []) = says a b
of_two_words says _ = Err kind.WrongCount

-- reads a statement of three words after its first one
abbrev pub of_three_words : {A : Type 0} → (List ℕ → List ℕ → List ℕ → Result A FaultKind) → List (List ℕ) → Result A FaultKind
of_three_words says (a ∷ b ∷ c ∷ []) = says a b c
of_three_words says _ = Err kind.WrongCount

-- reads a statement of four words after its first one
abbrev pub of_four_words : {A : Type 0} → (List ℕ → List ℕ → List ℕ → List ℕ → Result A FaultKind) → List (List ℕ) → Result A FaultKind
of_four_words says (a ∷ b ∷ c ∷ d ∷ []) = says a b c d
of_four_words says _ = Err kind.WrongCount

-- reads a statement of five words after its first one
abbrev pub of_five_words : {A : Type 0} → (List ℕ → List ℕ → List ℕ → List ℕ → List ℕ → Result A FaultKind)
    → List (List ℕ) → Result A FaultKind
of_five_words says (a ∷ b ∷ c ∷ d ∷ e ∷ []) = says a b c d e
of_five_words says _ = Err kind.WrongCount

-- reads a statement of six words after its first one
abbrev pub of_six_words : {A : Type 0} → (List ℕ → List ℕ → List ℕ → List ℕ → List ℕ → List ℕ → Result A FaultKind)
    → List (List ℕ) → Result A FaultKind
of_six_words says (a ∷ b ∷ c ∷ d ∷ e ∷ f ∷ []) = says a b c d e f
of_six_words says _ = Err kind.WrongCount
