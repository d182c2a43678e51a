-- Lists of cores.
use Rattle.std.specs.Prelude.{◌≡◌, ◌<◌, ℕ, Bool, true, eqb, List}
use Rattle.std.specs.List.{IsDistinct, list_any}

-- the core is one of them
abbrev pub has_core : ℕ → List ℕ → Bool
has_core core cores = list_any (eqb core) cores

-- cores of the chip, none of them twice
pub record AreCores (cores : List ℕ) : Type 0 where
  pub distinct : IsDistinct eqb cores
  pub below : (core : ℕ) → has_core core cores ≡ true → core < 48
