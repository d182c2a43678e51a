-- The fifth layer of the grammar: the lines of a file, one after another (this project's profile).
use Rattle.std.specs.Prelude.{ℕ, ◌+◌, ◌==◌, ◌&&◌, Bool, false, nat_lt, if◌then◌else◌, List, [], ◌∷◌, codes, length, Result, Ok, Err}
use Rattle.std.specs.Str.{bytes_eq}
use Rattle.script_rules.specs.declared.fault.FaultKind.{FaultKind}
use Rattle.script_rules.specs.declared.fault.FaultKind.TheVariants as kind
use Rattle.script_reader.specs.declared.fault.ReadFault.{ReadFault}
use Rattle.script_rules.specs.declared.version.Version.{Version}
use Rattle.script_rules.specs.declared.version.Version.TheVariants as version
use Rattle.script_rules.specs.Checks.{open_of}
use Rattle.script_rules.specs.Ends.{with_ends}
use Rattle.script_reader.specs.Faults.{◌>>=◌}
use Rattle.script_reader.specs.Progress.{ReadingSoFar, after_script_line, past, start}
use Rattle.script_reader.specs.Said.{said_of}
use Rattle.script_rules.specs.Script.{Script}
use Rattle.texts.specs.Cuts.{is_text, line_count, lines_of, words_of}
use Rattle.texts.specs.Numbers.{is_number, number_of}

-- these words are `rcce 2`, by which a file asks for version 2
abbrev pub says_two : List (List ℕ) → Bool
says_two (first ∷ number ∷ []) = bytes_eq first (codes "rcce") && is_number (number_of number) 2
says_two _ = false

-- the version of a file: 2 if its first line with words is `rcce 2`, and 1 otherwise
abbrev pub version_of : List (List ℕ) → Version
version_of [] = version.One
version_of (line ∷ lines) =
    if length (words_of line) == 0 then version_of lines
    else if says_two (words_of line) then version.Two
    else version.One

-- what has been read, once some line had words
abbrev pub past_opening : ReadingSoFar → ReadingSoFar
past_opening p = record p { opening = false }

-- what has been read after a line with these words
abbrev pub read_words : ℕ → ReadingSoFar → List (List ℕ) → Result ReadingSoFar FaultKind
read_words number p [] = Ok p
read_words number p (first ∷ words) = said_of p.version p.opening first words >>= after_script_line number (past_opening p)

-- what has been read after a line, whose bytes must be text
abbrev pub read_line : ℕ → ReadingSoFar → List ℕ → Result ReadingSoFar FaultKind
read_line number p line = if is_text line then read_words number p (words_of line) else Err kind.NotText

-- a fault with the number of its line
abbrev pub at_line : {A : Type 0} → ℕ → Result A FaultKind → Result A ReadFault
at_line number (Ok x) = Ok x
at_line number (Err kind) = Err (record { line = number; kind = kind })

-- what has been read after these lines, if `before` lines precede the first
abbrev pub read_lines : ℕ → ReadingSoFar → List (List ℕ) → Result ReadingSoFar ReadFault
read_lines before p [] = Ok p
read_lines before p (line ∷ lines) = at_line (before + 1) (read_line (before + 1) p line) >>= λ q. read_lines (before + 1) q lines

-- the script of what has been read, where each repeat gets the place of its end
abbrev pub script_of : ReadingSoFar → Script
script_of p = record { nue = p.nue; items = with_ends (length p.items) p.items; names = p.names }

-- the script at the end of a file of `lines` lines, where no repeat may be open
abbrev pub at_end : ℕ → ReadingSoFar → Result Script ReadFault
at_end lines p = if length (open_of (past p)) == 0 then Ok (script_of p) else Err (record { line = lines + 1; kind = kind.UnclosedRepeat })

-- the script that these lines are in a version of the language, or their first fault
abbrev pub read_all_lines : Version → List (List ℕ) → ℕ → Result Script ReadFault
read_all_lines version lines nue = read_lines 0 (start version nue) lines >>= at_end (line_count lines)

-- the most bytes of a script's file: 4 MiB
abbrev pub most_script_bytes : ℕ
most_script_bytes = 4194304

-- the script that a file is by the grammar of a version, or its first fault
abbrev pub read_as : Version → List ℕ → ℕ → Result Script ReadFault
read_as version bytes nue =
    if nat_lt most_script_bytes (length bytes) then Err (record { line = 0; kind = kind.TooLong })
    else read_all_lines version (lines_of bytes) nue

-- the script that a file is by the grammar of its version, or its first fault
abbrev pub read_file : List ℕ → ℕ → Result Script ReadFault
read_file bytes nue = read_as (version_of (lines_of bytes)) bytes nue

-- the grammar: the script that a file is for a number of ranks, or its first fault
abbrev pub parse_script : List ℕ → ℕ → Result Script ReadFault
parse_script bytes nue = read_file bytes nue
