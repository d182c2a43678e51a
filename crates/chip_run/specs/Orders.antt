-- In which order a run on one thread takes turns (this project's profile).
use Rattle.std.specs.Prelude.{◌≡◌, ℕ, zero, suc, ◌*◌, ◌%◌, List, [], ◌∷◌, ◌++◌}
use Rattle.std.specs.List.{range_with_len}
use Rattle.scc_mesh.specs.Scenes.{ChipView}
use Rattle.chip_run.specs.declared.rests.Rest.{Rest}
use Rattle.chip_run.specs.Crews.{OneTurn}
use Rattle.chip_run.specs.Behaves.{Behaviour}

-- a generator after n words; a step gives its next word and what it is then
unfoldable pub generator_after : {G : Type 0} → (G → ℕ × G) → ℕ → G → G
generator_after step zero g = g
generator_after step (suc n) g = generator_after step n (step g).1

-- the ranks that the next n words of a generator name, the first word first
unfoldable pub named_ranks : {G : Type 0} → (G → ℕ × G) → ℕ → ℕ → G → List ℕ
named_ranks step nue zero g = []
named_ranks step nue (suc n) g = (step g).0 % nue ∷ named_ranks step nue n (step g).1

-- turns were taken by these ranks, one after the other
abbrev pub TurnsOf : {A : Type 0} → Behaviour A → List ℕ → ChipView → List A → ChipView → List A → Type 0
TurnsOf c [] chip crew now later = (now ≡ chip) × (later ≡ crew)
TurnsOf {A} c (at ∷ rest) chip crew now later =
    (mid : ChipView) × (some : List A) × (came : Rest) × OneTurn c chip crew at mid some came × TurnsOf c rest mid some now later

-- a generator after n rounds of a thousand turns a rank
unfoldable pub drawn_in : {G : Type 0} → (G → ℕ × G) → ℕ → ℕ → G → G
drawn_in step nue zero g = g
drawn_in step nue (suc n) g = generator_after step (1000 * nue) (drawn_in step nue n g)

-- the ranks that take turns in n rounds: in each round those that the generator names, and after it ranks 0 to nue - 1
unfoldable pub ranks_by : {G : Type 0} → (G → ℕ × G) → ℕ → ℕ → G → List ℕ
ranks_by step nue zero g = []
ranks_by step nue (suc n) g = ranks_by step nue n g ++ (named_ranks step nue (1000 * nue) (drawn_in step nue n g) ++ range_with_len 0 nue)

-- the ranks that take turns in n sweeps: ranks 0 to nue - 1, n times
abbrev pub sweeps_of : ℕ → ℕ → List ℕ
sweeps_of zero nue = []
sweeps_of (suc n) nue = sweeps_of n nue ++ range_with_len 0 nue
