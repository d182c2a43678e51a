-- Counts, which stop at the largest value of u64, and when one of faults rose. This project's profile.
use Rattle.std.specs.Prelude.{ℕ, ◌+◌, ◌-◌, ◌^◌, ◌<◌, ◌≤◌, min, max}

-- one more, up to the largest value of u64
abbrev pub next_count : ℕ → ℕ
next_count count = max count (min (count + 1) (2 ^ 64 - 1))

-- the count is greater after the call than before, or stands at the largest value
abbrev pub Rose : ℕ → ℕ → Type 0
Rose before now = next_count before ≤ now

-- the count did not rise
pub record IsSteady (before now : ℕ) : Type 0 where
  pub same : now ≤ before
  pub below_most : now < 2 ^ 64 - 1
