-- A test at the ranks below a number.
use Rattle.std.proofs.Common.{◌≡◌, ℕ, zero, suc, ◌<◌, Bool, true, false, ◌||◌, ◌&&◌, Option, Some, None, refl, arith, subst, inl, inr}
use Rattle.std.proofs.lemmas.Bool.{cases_lt}
use Rattle.script_rules.specs.declared.script.Who.{Who}
use Rattle.script_rules.specs.Checks.{some_below, some_rank}
use Rattle.script_rules.specs.Script.{has_rank}

or-true : (a b : Bool) → b ≡ true → (a || b) ≡ true
or-true true b h = refl
or-true false b h = h

true-or : (a b : Bool) → a ≡ true → (a || b) ≡ true
true-or true b h = refl
true-or false b h = cc

-- a rank that passes is some rank
pub some_below-at : (n k : ℕ) (test : ℕ → Bool) → k < n → test k ≡ true → some_below n test ≡ true
some_below-at zero k test below passes = absurd (omega arith)
some_below-at (suc n) k test below passes =
    elim (cases_lt k n) [ inl less ↦ true-or _ _ (some_below-at n k test less passes) | inr past ↦ let same : k ≡ n = omega arith in or-true _ _ (subst (λ m. test m ≡ true) same passes) ]

both-true : (a b : Bool) → a ≡ true → b ≡ true → (a && b) ≡ true
both-true true b h k = k
both-true false b h k = h

-- a rank of the section that is refused
pub some_rank-at : (n k : ℕ) (who : Who) (refused : ℕ → Bool) → k < n → has_rank who k ≡ true → refused k ≡ true → some_below n (λ rank. has_rank who rank && refused rank) ≡ true
some_rank-at n k who refused below has refuses = some_below-at n k (λ rank. has_rank who rank && refused rank) below (both-true _ _ has refuses)

-- where neither of two tests passes, each fails
pub false-left : (a b : Bool) → (a || b) ≡ false → a ≡ false
false-left false b h = refl
false-left true b h = cc

pub false-right : (a b : Bool) → (a || b) ≡ false → b ≡ false
false-right false b h = h
false-right true b h = cc

-- and the other way round
pub neither : (a b : Bool) → a ≡ false → b ≡ false → (a || b) ≡ false
neither true b left right = left
neither false b left right = right

and-right : (a b : Bool) → b ≡ false → (a && b) ≡ false
and-right true b h = h
and-right false b h = refl

nobody-below : (n : ℕ) (test : ℕ → Bool) → ((rank : ℕ) → test rank ≡ false) → some_below n test ≡ false
nobody-below zero test none = refl
nobody-below (suc n) test none = neither (some_below n test) (test n) (nobody-below n test none) (none n)

-- where no rank passes, none of a section does
pub nobody : (nue : ℕ) (section : Option Who) (test : ℕ → Bool) → ((rank : ℕ) → test rank ≡ false) → some_rank nue section test ≡ false
nobody nue None test none = refl
nobody nue (Some who) test none = nobody-below nue (λ rank. has_rank who rank && test rank) (λ rank. and-right (has_rank who rank) (test rank) (none rank))
