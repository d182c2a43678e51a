-- Words that are numbers in decimal digits (this project's profile).
use Rattle.std.specs.Prelude.{ℕ, ◌+◌, ◌-◌, ◌*◌, ◌==◌, ◌&&◌, nat_le, Bool, false, if◌then◌else◌, List, [], ◌∷◌, length, Option, Some, None, option_and_then}
use Rattle.std.specs.Char.{is_ascii_digit}

-- the value of the decimal digits that follow those of the value `front`, as long as it is at most `limit`
abbrev pub digits_value : ℕ → ℕ → List ℕ → Option ℕ
digits_value limit front [] = Some front
digits_value limit front (b ∷ rest) =
    if is_ascii_digit b && nat_le (front * 10 + (b - 48)) limit then digits_value limit (front * 10 + (b - 48)) rest else None

-- a number of 1 to `most` decimal digits with a value of at most `limit`, leading zeros accepted
abbrev pub decimal_of : ℕ → ℕ → List ℕ → Option ℕ
decimal_of most limit word = if nat_le 1 (length word) && nat_le (length word) most then digits_value limit 0 word else None

-- a number: 1 to 10 digits with a value of at most 4,294,967,295
unfoldable pub number_of : List ℕ → Option ℕ
number_of word = decimal_of 10 4294967295 word

-- there is a number, and it is this one
abbrev pub is_number : Option ℕ → ℕ → Bool
is_number None wanted = false
is_number (Some number) wanted = number == wanted

-- the number n, if it is at least `least`
abbrev pub not_below : ℕ → ℕ → Option ℕ
not_below least n = if nat_le least n then Some n else None

-- a number of 1 to 10 digits from a range
unfoldable pub number_in : ℕ → ℕ → List ℕ → Option ℕ
number_in least most word = option_and_then (not_below least) (decimal_of 10 most word)
