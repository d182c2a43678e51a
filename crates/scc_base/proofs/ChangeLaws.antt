-- Changes of sets that have no cell in common can be made in either order.
use Rattle.std.proofs.Common.{◌≡◌, ◌⊎◌, ℕ, Bool, true, false, if◌then◌else◌, inl, inr, ⊎_elim, refl, sym, ◌∙◌, ap, subst₂}
use Rattle.scc_base.specs.Changes.{Change}

pub true_or_false : (b : Bool) → (b ≡ true) ⊎ (b ≡ false)
true_or_false true = inl refl
true_or_false false = inr refl

-- two sets with no rank in common
abbrev pub AreApart : (ℕ → Bool) → (ℕ → Bool) → Type 0
AreApart one two = (k : ℕ) → one k ≡ true → two k ≡ true → ⊥

-- the cells of the set from one family, and all others from another
abbrev pub chosen : {U : Type 0} → (ℕ → Bool) → (ℕ → U) → (ℕ → U) → ℕ → U
chosen set t u k = if set k then t k else u k

chosen_in : {U : Type 0} (set : ℕ → Bool) (t u : ℕ → U) (k : ℕ) → set k ≡ true → chosen set t u k ≡ t k
chosen_in set t u k is = ap (λ (b : Bool). if b then t k else u k) is

chosen_out : {U : Type 0} (set : ℕ → Bool) (t u : ℕ → U) (k : ℕ) → set k ≡ false → chosen set t u k ≡ u k
chosen_out set t u k is = ap (λ (b : Bool). if b then t k else u k) is

-- the second change after the first
pub change_after : {U : Type 0} (one two : ℕ → Bool) (R Q : ℕ → U → U → Type 0) (s t u : ℕ → U) → AreApart one two → Change one R s t → Change two Q s u → Change two Q t (chosen one t u)
change_after one two R Q s t u apart first second = record {
  changed = λ k within.
      ⊎_elim
      (λ (is : one k ≡ true). absurd (apart k is within))
      (λ (is : one k ≡ false). subst₂ (Q k) (first.others k is) (sym (chosen_out one t u k is)) (second.changed k within))
      (true_or_false (one k));
  others = λ k without.
      ⊎_elim
      (λ (is : one k ≡ true). sym (chosen_in one t u k is))
      (λ (is : one k ≡ false). sym (first.others k is) ∙ second.others k without ∙ sym (chosen_out one t u k is))
      (true_or_false (one k));
}

-- the first change after the second
pub change_before : {U : Type 0} (one two : ℕ → Bool) (R Q : ℕ → U → U → Type 0) (s t u : ℕ → U) → AreApart one two → Change one R s t → Change two Q s u → Change one R u (chosen one t u)
change_before one two R Q s t u apart first second = record {
  changed = λ k within.
      subst₂ (R k) (second.others k (outside k within)) (sym (chosen_in one t u k within)) (first.changed k within);
  others = λ k without. sym (chosen_out one t u k without);
}
  where
    outside : (k : ℕ) → one k ≡ true → two k ≡ false
    outside k within =
        ⊎_elim
        (λ (is : two k ≡ true). absurd (apart k within is))
        (λ (is : two k ≡ false). is)
        (true_or_false (two k))

-- changes of sets that are apart come to the same family in either order
pub apart_changes : {U : Type 0} (one two : ℕ → Bool) (R Q : ℕ → U → U → Type 0) (s t u : ℕ → U) → AreApart one two → Change one R s t → Change two Q s u → (v : ℕ → U) × Change two Q t v × Change one R u v
apart_changes one two R Q s t u apart first second =
    (chosen one t u, change_after one two R Q s t u apart first second, change_before one two R Q s t u apart first second)

-- a change by a function is one
pub same_change : {U : Type 0} (set : ℕ → Bool) (R : ℕ → U → U → Type 0) (s t u : ℕ → U) → ((k : ℕ) (x y z : U) → R k x y → R k x z → y ≡ z) → Change set R s t → Change set R s u → t ≡ u
same_change {U} set R s t u one_value first second = λ i k. each k i
  where
    each : (k : ℕ) → t k ≡ u k
    each k =
        ⊎_elim
        (λ (is : set k ≡ true). one_value k (s k) (t k) (u k) (first.changed k is) (second.changed k is))
        (λ (is : set k ≡ false). sym (first.others k is) ∙ second.others k is)
        (true_or_false (set k))
