-- Lists of equal things, and lists of lists.
use Rattle.std.proofs.Common.{◌≡◌, ℕ, zero, suc, ◌<◌, List, [], ◌∷◌, ◌++◌, length, get_or, set, map, replicate, refl, ap, arith}

-- each of equal things is the thing, and so is the default past the end
pub get_or-replicate_same : {X : Type 0} (n k : ℕ) (x : X) → get_or (replicate n x) k x ≡ x
get_or-replicate_same zero k x = refl
get_or-replicate_same (suc n) zero x = refl
get_or-replicate_same (suc n) (suc k) x = get_or-replicate_same n k x

-- one more of equal things
pub replicate-push : {X : Type 0} (n : ℕ) (x : X) → replicate n x ++ x ∷ [] ≡ replicate (suc n) x
replicate-push zero x = refl
replicate-push {X} (suc n) x = ap (λ (l : List X). x ∷ l) (replicate-push n x)

-- the image of a thing in a list
pub get_or-map_within : {X Y : Type 0} (f : X → Y) (xs : List X) (i : ℕ) (d : X) (e : Y) → i < length xs → get_or (map f xs) i e ≡ f (get_or xs i d)
get_or-map_within f [] i d e below = absurd (omega arith)
get_or-map_within f (x ∷ xs) zero d e below = refl
get_or-map_within f (x ∷ xs) (suc i) d e below = let within : i < length xs = omega arith in get_or-map_within f xs i d e within

-- and of a list of which one thing is another
pub map-set_one : {X Y : Type 0} (f : X → Y) (xs : List X) (i : ℕ) (x : X) → map f (set xs i x) ≡ set (map f xs) i (f x)
map-set_one f [] i x = refl
map-set_one f (y ∷ xs) zero x = refl
map-set_one {X} {Y} f (y ∷ xs) (suc i) x = ap (λ (l : List Y). f y ∷ l) (map-set_one f xs i x)
