-- A list of core numbers, one for each rank (this project's profile of `rccemesh`).
use Rattle.std.specs.Prelude.{ℕ, ◌+◌, ◌-◌, ◌*◌, ◌==◌, ◌&&◌, not, nat_lt, Bool, true, if◌then◌else◌, is_some, List, [], ◌∷◌, length, map, Option, Some, None}
use Rattle.std.specs.Char.{is_ascii_digit}
use Rattle.std.specs.List.{list_all, list_any, range_with_len, slice_split}
use Rattle.std.specs.Option.{unwrap_or}
use Rattle.mesh_load.specs.Mesh.{mesh_core_of}

-- a number that the chip has a core for
abbrev pub chip_core : ℕ → Option ℕ
chip_core number = if nat_lt number 48 then Some number else None

-- the number of a core: one digit, or two of which the first is no zero
abbrev pub core_number : List ℕ → Option ℕ
core_number (digit ∷ []) = if is_ascii_digit digit then chip_core (digit - 48) else None
core_number (first ∷ second ∷ []) =
    if is_ascii_digit first && is_ascii_digit second && not (first == 48) then chip_core ((first - 48) * 10 + (second - 48)) else None
core_number _ = None

-- a comma
abbrev pub is_comma : ℕ → Bool
is_comma byte = byte == 44

-- what stands between the commas
abbrev pub between_commas : List ℕ → List (List ℕ)
between_commas word = slice_split is_comma word

-- the parts from a comma on, if there is one
abbrev pub parts_after : Option (List ℕ) → List (List ℕ)
parts_after None = []
parts_after (Some rest) = between_commas rest

-- the core of a part
abbrev pub core_value : List ℕ → ℕ
core_value text = unwrap_or (core_number text) 0

-- the cores of all parts
abbrev pub cores_in : List ℕ → List ℕ
cores_in word = map core_value (between_commas word)

-- all are different
abbrev pub are_different : List ℕ → Bool
are_different [] = true
are_different (core ∷ cores) = not (list_any (λ other. other == core) cores) && are_different cores

-- a part is a core
abbrev pub is_core : List ℕ → Bool
is_core text = is_some (core_number text)

-- a word that lists as many different cores
abbrev pub lists_cores : ℕ → List ℕ → Bool
lists_cores nue word = (length (between_commas word) == nue) && list_all is_core (between_commas word) && are_different (cores_in word)

-- the numbers of ranks that there can be
unfoldable pub rank_numbers : List ℕ
rank_numbers = range_with_len 0 48

-- the cores by rank. (Core 0 stands for those of ranks that are not there.)
abbrev pub cores_by_rank : List ℕ → List ℕ
cores_by_rank cores = map (mesh_core_of cores) rank_numbers

-- the cores by rank of a word that lists as many as there are ranks
abbrev pub listed_cores : ℕ → List ℕ → Option (List ℕ)
listed_cores nue word = if lists_cores nue word then Some (cores_by_rank (cores_in word)) else None
