-- A run of the world alone, each rank on the core of its number, has a setup.
use Rattle.std.proofs.Common.{◌≡◌, ℕ, ◌<◌, ◌≤◌, List, length, slice_index, sym, subst, ◌∙◌, arith}
use Rattle.std.proofs.lemmas.List.FromFn.{get_or-range_with_len, fill_by_all}
use Rattle.scc_base.specs.Setups.{AreApart, IsSetup, host_of}
use Rattle.scc_base.proofs.WorldRules.{world_alone}
use Rattle.scc_base.specs.Worlds as worlds

pub cores_filled : (cores : List ℕ) → length cores ≡ 48 → ((k : ℕ) → k < 48 → slice_index cores k ≡ k) → cores ≡ worlds.own_cores
cores_filled cores all each = fill_by_all (λ k. k) cores 48 0 all each

core_own : (r : ℕ) → r < 48 → host_of worlds.own_cores r ≡ r
core_own r h = get_or-range_with_len 0 48 r 0 h ∙ omega arith

cores_apart : (nue : ℕ) → nue ≤ 48 → AreApart nue worlds.own_cores
cores_apart nue most r q before below same =
    let alike = sym (core_own r (omega (arith, before, below, most))) ∙ same ∙ core_own q (omega (arith, below, most)) in
    omega (arith, alike, before)

-- ranks on cores that were filled so have cores of their own
pub filled_apart : (cores : List ℕ) → length cores ≡ 48 → ((k : ℕ) → k < 48 → slice_index cores k ≡ k) → (nue : ℕ) → nue ≤ 48 → AreApart nue cores
filled_apart cores all each nue most = subst (λ (xs : List ℕ). AreApart nue xs) (sym (cores_filled cores all each)) (cores_apart nue most)

-- 1 to 48 ranks have a setup
pub is_world : (nue : ℕ) → 1 ≤ nue → nue ≤ 48 → IsSetup (worlds.world_setup nue)
is_world nue some most = record { some_ranks = some; ranks_within = most; apart = cores_apart nue most; rules = world_alone worlds.world_alone (λ i. worlds.world_alone) }
