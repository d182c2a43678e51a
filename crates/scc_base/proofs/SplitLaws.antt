-- What keys say of the groups of a split.
use Rattle.std.proofs.Common.{◌≡◌, refl, sym, ◌∙◌, ℕ, ◌+◌, ◌*◌, ◌/◌, ◌%◌, ◌<◌, List, arith}
use Rattle.std.specs.Prelude.{◌↔◌}
use Rattle.scc_base.specs.Groups.{place_in, root_in}
use Rattle.scc_base.specs.Communicators.{rule_of, key_under, key_of, IsRule, AreRules, IsGrouped}
use Rattle.scc_base.specs.declared.communicators.CommRule.{CommRule}
use Rattle.scc_base.specs.declared.communicators.CommRule.TheVariants.{Absent, World, Mod, Div}
use Rattle.scc_base.proofs.KeyLemmas.{key_of_is}
use Rattle.scc_base.proofs.TableLemmas.{place_within, remainder_small, quotient_small}
use Rattle.scc_base.proofs.GroupFacts.{root_once, same_root}

-- two numbers in one are equal exactly where both are
pub pair_same : (a b x y : ℕ) → x < 48 → y < 48 → (48 * a + x ≡ 48 * b + y) ↔ ((a ≡ b) × (x ≡ y))
pair_same a b x y hx hy = (λ h. (omega (arith, h, hx, hy), omega (arith, h, hx, hy)), λ h. omega (arith, h.0, h.1))

under_grouped : (comms : List CommRule) (comm : ℕ) (rule : CommRule) → IsRule comms comm rule → (keys : ℕ → ℕ → ℕ) (r q : ℕ) → r < 48 → q < 48
    → (key_under rule keys r ≡ key_under rule keys q) ↔ IsGrouped rule keys r q
under_grouped comms comm Absent h keys r q hr hq = (λ _. tt, λ _. refl)
under_grouped comms comm World h keys r q hr hq = (λ _. tt, λ _. refl)
under_grouped comms comm (Mod parent k) h keys r q hr hq =
    pair_same (keys parent r) (keys parent q) (place_in (keys parent) r % k) (place_in (keys parent) q % k)
    (remainder_small k (place_in (keys parent) r) h.2 h.3) (remainder_small k (place_in (keys parent) q) h.2 h.3)
under_grouped comms comm (Div parent k) h keys r q hr hq =
    let low = place_within (keys parent) r in
    let other = place_within (keys parent) q in
    pair_same (keys parent r) (keys parent q) (place_in (keys parent) r / k) (place_in (keys parent) q / k)
    (quotient_small k (place_in (keys parent) r) h.2 (omega (arith, low, hr))) (quotient_small k (place_in (keys parent) q) h.2 (omega (arith, other, hq)))

pub grouped : (comms : List CommRule) → AreRules comms → (comm : ℕ) → comm < 16 → (r q : ℕ) → r < 48 → q < 48
    → (key_of comms comm r ≡ key_of comms comm q) ↔ IsGrouped (rule_of comms comm) (key_of comms) r q
grouped comms rules comm top r q hr hq =
    let under = under_grouped comms comm (rule_of comms comm) (rules comm top) (key_of comms) r q hr hq in
    let left = key_of_is comms rules comm top r in
    let right = key_of_is comms rules comm top q in
    (λ h. under.0 (sym left ∙ h ∙ right), λ h. left ∙ under.1 h ∙ sym right)

pub one_root : (key : ℕ → ℕ) (r q : ℕ) → (root_in key r ≡ root_in key q) ↔ (key r ≡ key q)
one_root key r q = (same_root key r q, root_once key r q)
