-- What the launcher says of refused words (this project's profile of `rccerun`).
use Rattle.std.specs.Prelude.{ℕ, ◌+◌, List, [], ◌++◌, codes, slice_index_or}
use Rattle.rcce_words.specs.declared.command.WordFault.{WordFault}
use Rattle.rcce_words.specs.declared.command.WordFault.TheVariants as fault

-- a word by its number, and nothing past the last one
abbrev pub word_numbered : List (List ℕ) → ℕ → List ℕ
word_numbered words at = slice_index_or words at []

-- the text that says why the words are refused
abbrev pub fault_text : List (List ℕ) → WordFault → List ℕ
fault_text words fault.NoNue = codes "-nue is missing"
fault_text words fault.NoScript = codes "script missing"
fault_text words (fault.Unknown at) = codes "unknown word: " ++ word_numbered words at
fault_text words (fault.Twice at) = codes "given twice: " ++ word_numbered words at
fault_text words (fault.NoValue at) = codes "value missing after " ++ word_numbered words at
fault_text words (fault.BadNumber at) =
    codes "bad number after " ++ (word_numbered words at ++ (codes ": " ++ word_numbered words (at + 1)))
fault_text words (fault.Extra at) = codes "word out of place: " ++ word_numbered words at
