-- One more value of a fold, and the last one.
use Rattle.std.proofs.Common.{◌≡◌, refl, sym, ◌∙◌, ap, ℕ, zero, suc, ◌+◌, ◌*◌, ◌/◌, ◌%◌, ◌≤◌, List, [], ◌∷◌, ◌++◌, length, take, drop, arith, length-append, append_assoc, zero-add, ℤ}
use Rattle.std.specs.List.{flat_map, range_with_len}
use Rattle.std.proofs.lemmas.List.{take_at, drop_at, append-nil, at_drop_all, drop-drop}
use Rattle.std.proofs.Math.Nat.{div-mul-le_self, mod-eq-sub-div-mul}
use Rattle.groups.specs.Folds.{bytes_in, bytes_of_value, combine, CanFold, fold_first, fold_of, fold_values, typed_value_at, value_of}
use Rattle.groups.specs.declared.operations.Op.{Op}
use Rattle.groups.specs.declared.operations.Ty.{Ty}
use Rattle.groups.specs.declared.operations.Ty.TheVariants.{Int, Long}

-- the bytes of one number more
pub flat_more : (f : ℕ → List ℕ) (a n j : ℕ) → j ≡ a + n → flat_map f (range_with_len a (suc n)) ≡ flat_map f (range_with_len a n) ++ f j
flat_more f a zero j e = let is : j ≡ a = omega (arith, e) in rw (is, append-nil (f a)) refl
flat_more f a (suc n) j e =
    let rest : flat_map f (range_with_len (a + 1) (suc n)) ≡ flat_map f (range_with_len (a + 1) n) ++ f j = flat_more f (a + 1) n j (omega (arith, e)) in
    ap (λ (l : List ℕ). f a ++ l) rest ∙ sym (append_assoc (f a) (flat_map f (range_with_len (a + 1) n)) (f j))

-- a value has its type's bytes
pub bytes_length : (ty : Ty) (v : ℤ) → length (bytes_of_value ty v) ≡ bytes_in ty
bytes_length Int v = refl
bytes_length Long v = refl

-- the bytes of the first values, and of one more
abbrev one : Op → Ty → List ℕ → List ℕ → ℕ → List ℕ
one op ty acc more i = bytes_of_value ty (combine op ty (typed_value_at ty acc i) (typed_value_at ty more i))

pub first_more : (op : Op) (ty : Ty) (n : ℕ) (acc more : List ℕ) → fold_first op ty (suc n) acc more ≡ fold_first op ty n acc more ++ one op ty acc more n
first_more op ty n acc more = flat_more (one op ty acc more) 0 n n (sym (zero-add n))

pub first_length : (op : Op) (ty : Ty) (n : ℕ) (acc more : List ℕ) → length (fold_first op ty n acc more) ≡ n * bytes_in ty
first_length op ty zero acc more = omega arith
first_length op ty (suc n) acc more =
    let rest : length (fold_first op ty n acc more) ≡ n * bytes_in ty = first_length op ty n acc more in
    let both = length-append (fold_first op ty n acc more) (one op ty acc more n) in
    let last = bytes_length ty (combine op ty (typed_value_at ty acc n) (typed_value_at ty more n)) in
    rw (first_more op ty n acc more) (omega (arith, rest, both, last))

-- one more value is put in its place, and what stands behind it stays
pub put_value : (op : Op) (ty : Ty) (acc more cur part : List ℕ) (n m a k : ℕ) → m ≡ suc n → a ≡ n * bytes_in ty → k ≡ bytes_in ty
    → cur ≡ fold_first op ty n acc more ++ drop (n * bytes_in ty) acc
    → part ≡ bytes_of_value ty (combine op ty (value_of ty (take k (drop a cur))) (value_of ty (take k (drop a more))))
    → take a cur ++ (part ++ drop k (drop a cur)) ≡ fold_first op ty m acc more ++ drop (m * bytes_in ty) acc
put_value op ty acc more cur part n m a k next at long same value =
    let first = fold_first op ty n acc more in
    let back = drop (n * bytes_in ty) acc in
    let wide = first_length op ty n acc more in
    let front : take a cur ≡ first = rw (same, at) (take_at first back (n * bytes_in ty) wide) in
    let rest : drop a cur ≡ back = rw (same, at) (drop_at first back (n * bytes_in ty) wide) in
    let new : part ≡ one op ty acc more n = value ∙ rw (rest, long, at) refl in
    let past : drop k (drop a cur) ≡ drop (suc n * bytes_in ty) acc = rw (rest, drop-drop k (n * bytes_in ty) acc) (ap (λ (j : ℕ). drop j acc) (omega (arith, long))) in
    rw (front, new, past, next, first_more op ty n acc more) (sym (append_assoc first (one op ty acc more n) (drop (suc n * bytes_in ty) acc)))

-- after the last value nothing stands behind it
pub all_values : (op : Op) (ty : Ty) (acc more cur : List ℕ) (n w : ℕ) → w ≡ bytes_in ty → n ≡ length acc / w → length acc % w ≡ 0
    → cur ≡ fold_first op ty n acc more ++ drop (n * bytes_in ty) acc → cur ≡ fold_values op ty acc more
all_values op ty acc more cur n w wide count whole same =
    let low = div-mul-le_self (length acc) w in
    let left = mod-eq-sub-div-mul (length acc) w in
    let past : length acc ≤ n * bytes_in ty = rw (← wide, count) (omega (arith, low, left, whole)) in
    same ∙ at_drop_all (λ (l : List ℕ). fold_first op ty n acc more ++ l) acc (n * bytes_in ty) past ∙ append-nil (fold_first op ty n acc more)
    ∙ ap (λ (k : ℕ). fold_first op ty k acc more) (count ∙ ap (λ (v : ℕ). length acc / v) wide)

-- a fold is as long as what it is folded into
pub fold_length : (op : Op) (ty : Ty) (acc more : List ℕ) → CanFold ty acc more → length (fold_values op ty acc more) ≡ length acc
fold_length op ty acc more fits =
    let low = div-mul-le_self (length acc) (bytes_in ty) in
    let left = mod-eq-sub-div-mul (length acc) (bytes_in ty) in
    let wide = first_length op ty (length acc / bytes_in ty) acc more in
    omega (arith, low, left, wide, fits.whole)

-- one list more
pub fold_next : (op : Op) (ty : Ty) (first : List ℕ) (rest : List (List ℕ)) (more : List ℕ)
    → fold_of op ty first (rest ++ more ∷ []) ≡ fold_values op ty (fold_of op ty first rest) more
fold_next op ty first [] more = refl
fold_next op ty first (x ∷ rest) more = fold_next op ty (fold_values op ty first x) rest more
