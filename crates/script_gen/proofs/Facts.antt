-- What the statements of a generated script need: other ranks for their messages, and few operations.
use Rattle.std.proofs.Common.{◌≡◌, ℕ, zero, suc, ◌+◌, ◌-◌, ◌*◌, ◌%◌, ◌<◌, ◌≤◌, true, false, List, [], ◌∷◌, ◌++◌, length, sym, ◌∙◌, ap, subst, arith, ◌⊎◌, inl, inr}
use Rattle.std.specs.Prelude.{◌==◌}
use Rattle.std.proofs.Math.Nat.{add-mod_right, mod-eq_of_lt, mod_self}
use Rattle.std.proofs.lemmas.Bool.{cases_lt, ne_eqb}
use Rattle.std.proofs.lemmas.Bool.Decides.{nat_tests}
use Rattle.std.proofs.lemmas.Nat.{mul-le}
use Rattle.groups.specs.declared.collectives.Coll.TheVariants as coll
use Rattle.groups.specs.declared.operations.Op.TheVariants as op
use Rattle.groups.specs.declared.operations.Ty.TheVariants as ty
use Rattle.groups.specs.Collectives.{steps_of}
use Rattle.script_rules.specs.declared.script.Item.{Item}
use Rattle.script_rules.specs.declared.script.Stmt.TheVariants as stmt
use Rattle.script_rules.specs.Checks.{cost_of, is_known, is_to_self, open_of, operations, run_of, turns_in}
use Rattle.script_rules.specs.Effects.{effect_of}
use Rattle.script_rules.specs.Limits.{most_operations}
use Rattle.script_gen.specs.Scripts.{recv_last, send_next}
use Rattle.script_gen.proofs.Checks.{AreLight, allreduce_short, part, worked}

-- the next rank of the ring is another one
next_other : (nue rank : ℕ) → 2 ≤ nue → rank < nue → (rank + 1) % nue ≡ rank → ⊥
next_other nue rank some below same =
    by (cases_lt (rank + 1) nue)
  where
    by : (rank + 1 < nue) ⊎ (nue ≤ rank + 1) → ⊥
    by (inl less) = let is : (rank + 1) % nue ≡ rank + 1 = mod-eq_of_lt less in absurd (omega (arith, is, same))
    by (inr past) =
        let round : rank + 1 ≡ nue = omega (arith, past, below) in
        let is : (rank + 1) % nue ≡ 0 = ap (λ (k : ℕ). k % nue) round ∙ mod_self nue in
        absurd (omega (arith, is, same, round, some))

pub send_other : (nue rank : ℕ) → 2 ≤ nue → rank < nue → is_to_self nue (effect_of send_next) rank ≡ false
send_other nue rank some below = ne_eqb _ _ (next_other nue rank some below)

-- and so is the rank before
last_other : (nue rank : ℕ) → 2 ≤ nue → rank < nue → (rank + (nue - 1)) % nue ≡ rank → ⊥
last_other nue zero some below same =
    let is : (0 + (nue - 1)) % nue ≡ 0 + (nue - 1) = mod-eq_of_lt (omega (arith, some)) in
    absurd (omega (arith, is, same, some))
last_other nue (suc r) some below same =
    let round : suc r + (nue - 1) ≡ r + nue = omega (arith, some) in
    let is : (suc r + (nue - 1)) % nue ≡ r = ap (λ (k : ℕ). k % nue) round ∙ add-mod_right r nue ∙ mod-eq_of_lt (omega (arith, below)) in
    absurd (omega (arith, is, same))

pub recv_other : (nue s rank : ℕ) → 2 ≤ nue → rank < nue → is_to_self nue (effect_of (recv_last s)) rank ≡ false
recv_other nue s rank some below =
    let one : 1 % nue ≡ 1 = mod-eq_of_lt (omega (arith, some)) in
    ap (λ (k : ℕ). ((rank + (nue - k)) % nue == rank)) one ∙ ne_eqb _ _ (last_other nue rank some below)

-- an odd rank is not even
pub odd_other : (rank : ℕ) → (rank % 2 == 1) ≡ true → (rank % 2 == 0) ≡ false
odd_other rank odd = grind (arith, nat_tests)

-- a lone rank is not odd
pub none_odd : (rank : ℕ) → rank < 1 → (rank % 2 == 1) ≡ true → ⊥
none_odd zero below odd = cc
none_odd (suc r) below odd = absurd (omega (arith, below))

-- a reduction to all in a repeat of few turns
pub light_sum : (nue rank : ℕ) (past : List Item) → turns_in (open_of past) ≤ 10 → nue ≤ 48 → turns_in (open_of past) * cost_of (run_of nue past) (effect_of (stmt.Allreduce 0 op.Sum ty.Long 1 1)).cost rank ≤ 1500
light_sum nue rank past few most =
    mul-le (turns_in (open_of past)) (cost_of (run_of nue past) (effect_of (stmt.Allreduce 0 op.Sum ty.Long 1 1)).cost rank) 10 150 few
    (part (is_known (run_of nue past) 0) (length (steps_of (run_of nue past) rank (coll.Allreduce 0 0))) 150 (allreduce_short (run_of nue past) rank most))

light_back : (nue rank : ℕ) (more past : List Item) → AreLight nue rank (more ++ past) → AreLight nue rank past
light_back nue rank [] past light = light
light_back nue rank (item ∷ more) past light = light_back nue rank more past light.0

-- the operations up to a statement among others
pub work : (nue rank : ℕ) (all more past : List Item) (item : Item) → AreLight nue rank all → more ++ item ∷ past ≡ all → length past ≤ 60
    → operations nue past rank + turns_in (open_of past) * cost_of (run_of nue past) (effect_of item.stmt).cost rank ≤ most_operations
work nue rank all more past item light is few =
    worked nue rank past item (light_back nue rank more (item ∷ past) (subst (AreLight nue rank) (sym is) light)) few
