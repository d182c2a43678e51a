-- Groups of ranks by keys: ranks with equal keys are one group, and its members are in rank order.
use Rattle.std.specs.Prelude.{ℕ, zero, suc, ◌+◌, ◌==◌, Bool, List, [], ◌∷◌, ◌++◌, if◌then◌else◌}

-- how many numbers below n pass the test
abbrev pub count_below : (ℕ → Bool) → ℕ → ℕ
count_below test zero = 0
count_below test (suc n) = count_below test n + (if test n then 1 else 0)

-- the numbers below n that pass the test, in order
abbrev pub list_below : (ℕ → Bool) → ℕ → List ℕ
list_below test zero = []
list_below test (suc n) = if test n then list_below test n ++ n ∷ [] else list_below test n

-- the lowest number up to n that passes the test, and n where none below it does
abbrev pub lowest_upto : (ℕ → Bool) → ℕ → ℕ
lowest_upto test zero = 0
lowest_upto test (suc n) = if test (lowest_upto test n) then lowest_upto test n else suc n

-- whether a rank is in the group of rank r
abbrev pub is_with : (ℕ → ℕ) → ℕ → ℕ → Bool
is_with key r x = key x == key r

-- the place of a rank in its group, counted from 0
abbrev pub place_in : (ℕ → ℕ) → ℕ → ℕ
place_in key r = count_below (is_with key r) r

-- the number of members of the group of rank r, among nue ranks
abbrev pub size_in : ℕ → (ℕ → ℕ) → ℕ → ℕ
size_in nue key r = count_below (is_with key r) nue

-- the members of the group of rank r, among nue ranks, in rank order
abbrev pub members_in : ℕ → (ℕ → ℕ) → ℕ → List ℕ
members_in nue key r = list_below (is_with key r) nue

-- the root of the group of rank r: its member 0
abbrev pub root_in : (ℕ → ℕ) → ℕ → ℕ
root_in key r = lowest_upto (is_with key r) r
