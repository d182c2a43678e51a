-- Runs of steps that have owners: of the calls that ranks make together, and of the statements of a script.
use Rattle.std.specs.Prelude.{◌≡◌, ℕ, zero, suc, ◌<◌}

-- n steps, by owners in any order, lead from this state to an end
abbrev pub Runs : {S : Type 0} → (ℕ → S → S → Type 0) → (S → Type 0) → ℕ → S → Type 0
Runs Step IsEnd zero s = IsEnd s
Runs {S} Step IsEnd (suc n) s = (owner : ℕ) × (t : S) × Step owner s t × Runs Step IsEnd n t

-- no owner below this one has a step
abbrev pub NoneBelow : {S : Type 0} → (ℕ → S → S → Type 0) → ℕ → S → Type 0
NoneBelow {S} Step owner s = (b : ℕ) → b < owner → (t : S) → Step b s t → ⊥

-- n steps lead from this state to an end, each by the lowest owner that has a step
abbrev pub RunsLowest : {S : Type 0} → (ℕ → S → S → Type 0) → (S → Type 0) → ℕ → S → Type 0
RunsLowest Step IsEnd zero s = IsEnd s
RunsLowest {S} Step IsEnd (suc n) s = (owner : ℕ) × (t : S) × NoneBelow Step owner s × Step owner s t × RunsLowest Step IsEnd n t

-- nobody has a step
abbrev pub IsStill : {S : Type 0} → (ℕ → S → S → Type 0) → S → Type 0
IsStill {S} Step s = (a : ℕ) (t : S) → Step a s t → ⊥

-- a run ends at this state: it is `e`, and nobody has a step there
abbrev pub EndsAt : {S : Type 0} → (ℕ → S → S → Type 0) → S → S → Type 0
EndsAt Step e s = (s ≡ e) × IsStill Step s
