-- The key of a rank in a communicator, split by split.
use Rattle.std.proofs.Common.{◌≡◌, refl, ap, ℕ, zero, suc, ◌+◌, ◌*◌, ◌/◌, ◌%◌, ◌<◌, List, arith}
use Rattle.scc_base.specs.Groups.{place_in}
use Rattle.scc_base.specs.Communicators.{rule_of, key_under, key_within, key_of, IsRule, AreRules}
use Rattle.scc_base.specs.declared.communicators.CommRule.{CommRule}
use Rattle.scc_base.specs.declared.communicators.CommRule.TheVariants.{Absent, World, Mod, Div}

-- a key depends on the parent's keys alone
under_same : (comms : List CommRule) (comm : ℕ) (rule : CommRule) (keys other : ℕ → ℕ → ℕ) → IsRule comms comm rule
    → ((parent : ℕ) → parent < comm → keys parent ≡ other parent) → (r : ℕ) → key_under rule keys r ≡ key_under rule other r
under_same comms comm Absent keys other h each r = refl
under_same comms comm World keys other h each r = refl
under_same comms comm (Mod parent k) keys other h each r = ap (λ (key : ℕ → ℕ). 48 * key r + place_in key r % k) (each parent h.0)
under_same comms comm (Div parent k) keys other h each r = ap (λ (key : ℕ → ℕ). 48 * key r + place_in key r / k) (each parent h.0)

-- more splits than lead to a communicator change no key
pub within_same : (comms : List CommRule) → AreRules comms → (n m comm : ℕ) → comm < n → comm < m → comm < 16
    → key_within n comms comm ≡ key_within m comms comm
within_same comms rules zero m comm low high top = absurd (omega (arith, low))
within_same comms rules (suc n) zero comm low high top = absurd (omega (arith, high))
within_same comms rules (suc n) (suc m) comm low high top =
    λ i r. under_same comms comm (rule_of comms comm) (key_within n comms) (key_within m comms) (rules comm top)
    (λ parent below. within_same comms rules n m parent (omega (arith, below, low)) (omega (arith, below, high)) (omega (arith, below, top))) r i

-- the key in a communicator, by its rule and the keys of its parent
pub key_of_is : (comms : List CommRule) → AreRules comms → (comm : ℕ) → comm < 16 → (r : ℕ)
    → key_of comms comm r ≡ key_under (rule_of comms comm) (key_of comms) r
unfolding key_of
key_of_is comms rules comm top r =
    under_same comms comm (rule_of comms comm) (key_within 15 comms) (key_within 16 comms) (rules comm top)
    (λ parent below. within_same comms rules 15 16 parent (omega (arith, below, top)) (omega (arith, below, top)) (omega (arith, below, top))) r
