-- Lists by their places.
use Rattle.std.proofs.Common.{◌≡◌, ℕ, zero, suc, ◌+◌, ◌<◌, List, [], ◌∷◌, ◌++◌, length, map, take, drop, Option, Some, unwrap_or, slice_get, sum_by, refl, ap, ◌∙◌, arith}
use Rattle.std.proofs.lemmas.List.Sums.{sum_by-cons}

pub some_same : {X : Type 0} (x y : X) → Some x ≡ Some y → x ≡ y
some_same {X} x y same = ap (λ (o : Option X). unwrap_or o x) same

pub get_front : {X : Type 0} (xs ys : List X) (k : ℕ) → k < length xs → slice_get (xs ++ ys) k ≡ slice_get xs k
get_front [] ys k less = absurd (omega (arith, less))
get_front (x ∷ xs) ys zero less = refl
get_front (x ∷ xs) ys (suc k) less = get_front xs ys k (omega (arith, less))

pub get_after : {X : Type 0} (xs ys : List X) (k n : ℕ) → k ≡ length xs + n → slice_get (xs ++ ys) k ≡ slice_get ys n
get_after [] ys k n at = let same : k ≡ n = omega (arith, at) in ap (slice_get ys) same
get_after (x ∷ xs) ys zero n at = absurd (omega (arith, at))
get_after (x ∷ xs) ys (suc k) n at = get_after xs ys k n (omega (arith, at))

-- the element at a place is the next one
pub next_taken : {X Y : Type 0} (f : X → Y) (xs : List X) (k : ℕ) (x : X) → slice_get xs k ≡ Some x → map f (take (k + 1) xs) ≡ map f (take k xs) ++ f x ∷ []
next_taken f [] k x at = absurd (cc)
next_taken {X} {Y} f (y ∷ ys) zero x at = ap (λ (z : X). f z ∷ []) (some_same y x at)
next_taken {X} {Y} f (y ∷ ys) (suc k) x at =
    let more : suc k + 1 ≡ suc (k + 1) = omega arith in
    ap (λ (n : ℕ). map f (take n (y ∷ ys))) more ∙ ap (λ (l : List Y). f y ∷ l) (next_taken f ys k x at)

pub next_left : {X : Type 0} (f : X → ℕ) (xs : List X) (k : ℕ) (x : X) → slice_get xs k ≡ Some x → sum_by f (drop k xs) ≡ f x + sum_by f (drop (k + 1) xs)
next_left f [] k x at = absurd (cc)
next_left {X} f (y ∷ ys) zero x at = sum_by-cons f y ys ∙ ap (λ (z : X). f z + sum_by f ys) (some_same y x at)
next_left f (y ∷ ys) (suc k) x at =
    let more : suc (k + 1) ≡ suc k + 1 = omega arith in
    next_left f ys k x at ∙ ap (λ (n : ℕ). f x + sum_by f (drop n (y ∷ ys))) more

-- functions that agree on the first elements
pub same_taken : {X Y : Type 0} (f g : X → Y) (xs : List X) (n : ℕ) → ((k : ℕ) (x : X) → k < n → slice_get xs k ≡ Some x → f x ≡ g x) → map f (take n xs) ≡ map g (take n xs)
same_taken f g xs zero same = refl
same_taken f g [] (suc n) same = refl
same_taken f g (x ∷ xs) (suc n) same = λ i. same 0 x (omega arith) refl i ∷ same_taken f g xs n (λ k y less at. same (suc k) y (omega (arith, less)) at) i
