-- The words of a trace's lines (this project's profile).
use Rattle.std.specs.Prelude.{ℕ, ◌==◌, Bool, true, if◌then◌else◌, List, [], ◌∷◌, codes, slice_index, Option, Some, None, option_map}
use Rattle.std.specs.Int.{w64, from_be_bytes}
use Rattle.std.specs.Result.{result_ok}
use Rattle.std.specs.Str.{bytes_eq}
use Rattle.hex.specs.Hex.{decode_sized}
use Rattle.rcce_audit.specs.Words.{◌>>=◌, only_if, is_lower, exact_range_said}
use Rattle.texts.specs.Cuts.{cut_by}
use Rattle.scc_base.specs.Places.{WordAt}
use Rattle.scc_base.specs.declared.layouts.Layout.{Layout}
use Rattle.scc_base.specs.declared.layouts.Layout.TheVariants.{LineFlags, BitFlags}

-- the parts of a word between its dots
abbrev pub dot_parts : List ℕ → List (List ℕ)
dot_parts word = cut_by 46 word

-- the parts of a word between its commas
abbrev pub comma_parts : List ℕ → List (List ℕ)
comma_parts word = cut_by 44 word

-- a value: 16 hex digits in lower case, the highest first
abbrev pub hex_word_said : List ℕ → Option ℕ
hex_word_said word = if is_lower word then option_map (from_be_bytes w64) (result_ok (decode_sized word 8)) else None

-- the place of a word: its core, its line and its number in the line
abbrev pub place_said : List (List ℕ) → Option WordAt
place_said (core ∷ line ∷ word ∷ []) =
    exact_range_said 0 47 core >>= λ c. exact_range_said 0 255 line >>= λ l. exact_range_said 0 3 word
    >>= λ w. Some (record { core = c; line = l; word = w })
place_said parts = None

-- the core of a register
abbrev pub register_place_said : List (List ℕ) → Option ℕ
register_place_said (core ∷ name ∷ []) = exact_range_said 0 47 core >>= λ c. only_if (bytes_eq name (codes "register")) c
register_place_said parts = None

-- what stands behind the value: nothing, or a comment, whose first byte is `#`
abbrev pub is_comment : List (List ℕ) → Bool
is_comment [] = true
is_comment (first ∷ words) = slice_index first 0 == 35

-- how the flags are laid out
abbrev pub layout_said : List ℕ → Option Layout
layout_said word =
    if bytes_eq word (codes "words") then Some LineFlags
    else if bytes_eq word (codes "bits") then Some BitFlags
    else None
