-- Two tests, and what is chosen by one.
use Rattle.std.proofs.Common.{◌≡◌, Bool, true, false, cond, ◌&&◌, not, refl, ap}

-- two tests that pass, or do not
pub both_true : (a b : Bool) → (a && b) ≡ true → (a ≡ true) × (b ≡ true)
both_true true b is = (refl, is)
both_true false b is = absurd (cc)

pub and_of : (a b : Bool) → a ≡ true → b ≡ true → (a && b) ≡ true
and_of true b one two = two
and_of false b one two = absurd (cc)

pub not_true : (a : Bool) → not a ≡ true → a ≡ false
not_true true is = absurd (cc)
not_true false is = refl

pub not_of : (a : Bool) → a ≡ false → not a ≡ true
not_of true is = absurd (cc)
not_of false is = refl

pub chosen : {A : Type 0} (b : Bool) (x y : A) → b ≡ true → cond b x y ≡ x
chosen b x y is = ap (λ t. cond t x y) is

pub other : {A : Type 0} (b : Bool) (x y : A) → b ≡ false → cond b x y ≡ y
other b x y is = ap (λ t. cond t x y) is
