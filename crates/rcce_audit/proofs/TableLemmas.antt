-- Tables whose things have lines, one thing after the other.
use Rattle.std.proofs.Common.{◌≡◌, ℕ, zero, suc, ◌+◌, ◌<◌, List, [], ◌∷◌, ◌++◌, length, get_or, set, refl, sym, ◌∙◌, ap, subst, append_assoc, arith}
use Rattle.std.proofs.lemmas.List.{append-nil}
use Rattle.rcce_audit.specs.Texts.{table_lines}

-- a table of things without lines has none
pub table_none : {X : Type 0} (lines : ℕ → X → List (List ℕ)) (n : ℕ) (xs : List X) (d : X) → ((k : ℕ) → k < length xs → lines (n + k) (get_or xs k d) ≡ []) → table_lines lines n xs ≡ []
table_none lines n [] d none = refl
table_none {X} lines n (x ∷ xs) d none =
    let first : lines n x ≡ [] = subst (λ (m : ℕ). lines m x ≡ []) (omega arith) (none 0 (omega arith)) in
    let later : table_lines lines (n + 1) xs ≡ [] = table_none lines (n + 1) xs d (λ k below. subst (λ (m : ℕ). lines m (get_or xs k d) ≡ []) (omega arith) (none (suc k) (omega arith))) in
    ap (λ (l : List (List ℕ)). l ++ table_lines lines (n + 1) xs) first ∙ later

-- a thing behind which none has lines, with more lines than before
pub table_set : {X : Type 0} (lines : ℕ → X → List (List ℕ)) (n : ℕ) (xs : List X) (i : ℕ) (x d : X) (more : List (List ℕ)) → i < length xs
    → ((k : ℕ) → i < k → k < length xs → lines (n + k) (get_or xs k d) ≡ []) → lines (n + i) x ≡ lines (n + i) (get_or xs i d) ++ more
    → table_lines lines n (set xs i x) ≡ table_lines lines n xs ++ more
table_set lines n [] i x d more below none grown = absurd (omega arith)
table_set {X} lines n (y ∷ xs) zero x d more below none grown =
    let rest : table_lines lines (n + 1) xs ≡ [] = table_none lines (n + 1) xs d (λ k under. subst (λ (m : ℕ). lines m (get_or xs k d) ≡ []) (omega arith) (none (suc k) (omega arith) (omega arith))) in
    let here : lines n x ≡ lines n y ++ more = subst (λ (m : ℕ). lines m x ≡ lines m y ++ more) (omega arith) grown in
    let P : List (List ℕ) → Type 0 = λ t. lines n x ++ t ≡ (lines n y ++ t) ++ more in
    subst P (sym rest) (append-nil (lines n x) ∙ here ∙ ap (λ (l : List (List ℕ)). l ++ more) (sym (append-nil (lines n y))))
table_set {X} lines n (y ∷ xs) (suc i) x d more below none grown =
    let within : i < length xs = omega arith in
    let ih = table_set lines (n + 1) xs i x d more within
    (λ k above under. subst (λ (m : ℕ). lines m (get_or xs k d) ≡ []) (omega arith) (none (suc k) (omega arith) (omega arith)))
    (subst (λ (m : ℕ). lines m x ≡ lines m (get_or xs i d) ++ more) (omega arith) grown) in
    ap (λ (t : List (List ℕ)). lines n y ++ t) ih ∙ sym (append_assoc (lines n y) (table_lines lines (n + 1) xs) more)
