-- Changes of some cells of a family, one cell a rank: what one step of several ranks does.
use Rattle.std.specs.Prelude.{◌≡◌, ℕ, Bool, true, false, ◌==◌, ◌||◌}

-- each cell of the set changed as R says, and no other cell changed
pub record Change {U : Type 0} (set : ℕ → Bool) (R : ℕ → U → U → Type 0) (old new : ℕ → U) : Type 0 where
  pub changed : (k : ℕ) → set k ≡ true → R k (old k) (new k)
  pub others : (k : ℕ) → set k ≡ false → old k ≡ new k

-- the set of one rank alone
abbrev pub only : ℕ → ℕ → Bool
only i k = k == i

-- the set of two ranks
abbrev pub both : ℕ → ℕ → ℕ → Bool
both i j k = (k == i) || (k == j)
