-- The words of a lab's lines: values, and words that a mark cuts in two (this project's profile).
use Rattle.std.specs.Prelude.{ℕ, ◌+◌, ◌-◌, ◌*◌, ◌==◌, ◌&&◌, nat_le, if◌then◌else◌, List, [], ◌∷◌, length, drop, take, Option, Some, None, option_and_then, option_map}
use Rattle.std.specs.List.{position}

-- chains two steps: the second runs if the first returned a value
infixl 10 ◌>>=◌
abbrev pub ◌>>=◌ : {A B : Type 0} → Option A → (A → Option B) → Option B
o >>= next = option_and_then next o

-- a word that was cut at a mark: the parts before and after it
pub record Cut : Type 0 where
  pub front : List ℕ
  pub back : List ℕ

-- a word, cut at the first byte that equals the mark
abbrev pub cut_at : ℕ → List ℕ → Option Cut
cut_at mark word =
    option_map (λ at. record { front = take at word; back = drop (at + 1) word }) (position (λ b. b == mark) word)

-- the value of a hex digit: 0 to 9, a to f, A to F
abbrev pub hex_digit : ℕ → Option ℕ
hex_digit b =
    if nat_le 48 b && nat_le b 57 then Some (b - 48)
    else if nat_le 97 b && nat_le b 102 then Some (b - 97 + 10)
    else if nat_le 65 b && nat_le b 70 then Some (b - 65 + 10)
    else None

-- the value of the hex digits after those of the value `front`, if it has at most 64 bits
abbrev pub digits_said : ℕ → List ℕ → Option ℕ
digits_said front [] = Some front
digits_said front (b ∷ rest) =
    hex_digit b >>= λ digit. if nat_le (front * 16 + digit) 18446744073709551615 then digits_said (front * 16 + digit) rest else None

-- the value of one or more hex digits
abbrev pub value_said : List ℕ → Option ℕ
value_said word = if length word == 0 then None else digits_said 0 word
