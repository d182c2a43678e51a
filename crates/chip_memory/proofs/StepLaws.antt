-- The test for a step answers what a step is.
use Rattle.std.proofs.Common.{◌≡◌, ℕ, ◌⊎◌, inl, inr, true, ◌&&◌, ◌||◌, ◌==◌, refl, arith}
use Rattle.std.proofs.lemmas.Bool.Decides.{nat_tests}
use Rattle.scc_base.specs.Places.{WordAt}
use Rattle.scc_base.specs.declared.events.Access.{Access}
use Rattle.scc_base.specs.declared.events.Access.TheVariants.{Load, Store, Take, Free}
use Rattle.scc_proto.specs.Words.{IsStepBy, Memory}
use Rattle.chip_memory.specs.Steps.{is_step_by, stands_by}

pub step_told : (a : Access) (place : WordAt) (value : ℕ) (memory : Memory) → is_step_by a value (stands_by a place memory) ≡ true → IsStepBy a place value memory
step_told Load place value memory test = grind (arith, nat_tests)
step_told Store place value memory test = tt
step_told Take place value memory test = took value (memory.register place.core) test
  where
    took : (v found : ℕ) → ((v == 1 && found == 0) || (v == 0 && found == 1)) ≡ true → ((v ≡ 1) × (found ≡ 0)) ⊎ ((v ≡ 0) × (found ≡ 1))
    took v found t = grind (arith, nat_tests)
step_told Free place value memory test = tt

pub step_tested : (a : Access) (place : WordAt) (value : ℕ) (memory : Memory) → IsStepBy a place value memory → is_step_by a value (stands_by a place memory) ≡ true
step_tested Load place value memory step = grind (arith, nat_tests)
step_tested Store place value memory step = refl
step_tested Take place value memory (inl found) = let one = found.0 in let free = found.1 in grind (arith, nat_tests)
step_tested Take place value memory (inr found) = let none = found.0 in let held = found.1 in grind (arith, nat_tests)
step_tested Free place value memory step = refl
