-- The rules of a run that has the world alone.
use Rattle.std.proofs.Common.{◌≡◌, ℕ, zero, suc, List, ◌∷◌, replicate, slice_index_or, refl, sym, subst, arith}
use Rattle.scc_base.specs.Communicators.{AreRules, IsRule, rule_of}
use Rattle.scc_base.specs.declared.communicators.CommRule.{CommRule}
use Rattle.scc_base.specs.declared.communicators.CommRule.TheVariants.{Absent, World}

absent_all : (n k : ℕ) → slice_index_or (replicate n Absent) k Absent ≡ Absent
absent_all zero k = refl
absent_all (suc n) zero = refl
absent_all (suc n) (suc k) = absent_all n k

-- no other communicator is there
pub absent_after : (c : ℕ) → rule_of (World ∷ replicate 15 Absent) (suc c) ≡ Absent
absent_after c = absent_all 15 c

world_rules : AreRules (World ∷ replicate 15 Absent)
world_rules zero below = refl
world_rules (suc c) below = subst (λ (r : CommRule). IsRule (World ∷ replicate 15 Absent) (suc c) r) (sym (absent_after c)) (λ e. absurd (omega (arith, e)))

pub world_alone : (rules : List CommRule) → rules ≡ World ∷ replicate 15 Absent → AreRules rules
world_alone rules is = subst (λ (x : List CommRule). AreRules x) (sym is) world_rules
