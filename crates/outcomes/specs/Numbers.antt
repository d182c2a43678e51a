-- Words that are numbers of units of execution, options, or the name of a file (this project's profile of its programs' words).
use Rattle.std.specs.Prelude.{ℕ, ◌==◌, Bool, false, if◌then◌else◌, List, [], ◌∷◌, Option, Some, None}
use Rattle.texts.specs.Numbers.{number_in}

-- a number of units of execution, from 1 to 48: the chip has 48 cores
abbrev pub ue_count_of : List ℕ → Option ℕ
ue_count_of word = number_in 1 48 word

-- the word begins with `-`, as an option does
abbrev pub is_option : List ℕ → Bool
is_option [] = false
is_option (c ∷ cs) = c == 45

-- the words are one file's name
abbrev pub file_named : List (List ℕ) → Option (List ℕ)
file_named (file ∷ []) = if is_option file then None else Some file
file_named _ = None
