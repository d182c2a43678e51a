-- The grammar of the host file (this project's profile of `rccerun`).
use Rattle.std.specs.Prelude.{ℕ, ◌+◌, ◌-◌, ◌==◌, nat_lt, if◌then◌else◌, List, [], ◌∷◌, ◌++◌, codes, drop, length, map, slice_index, take, Option, Some, None, Result, Ok, Err}
use Rattle.std.specs.Char.{is_ascii_whitespace}
use Rattle.std.specs.List.{prefix_len, suffix_len, range_with_len}
use Rattle.std.specs.Str.{bytes_eq}
use Rattle.scc_base.specs.Worlds.{own_cores}
use Rattle.script_reader.specs.Faults.{◌>>=◌}
use Rattle.texts.specs.Cuts.{is_text, lines_of, without_comment}
use Rattle.texts.specs.Numbers.{number_of}
use Rattle.rcce_words.specs.Cores.{has_core}
use Rattle.rcce_words.specs.declared.host_file.HostFault.{HostFault}
use Rattle.rcce_words.specs.declared.host_file.HostKind.{HostKind}
use Rattle.rcce_words.specs.declared.host_file.HostKind.TheVariants as kind

-- the name of a kind of fault, in texts
abbrev pub host_kind_name : HostKind → List ℕ
host_kind_name kind.TooLong = codes "TooLong"
host_kind_name kind.NotText = codes "NotText"
host_kind_name kind.BadCore = codes "BadCore"
host_kind_name kind.TwiceCore = codes "TwiceCore"
host_kind_name kind.TooFew = codes "TooFew"

-- the lines of a file, of the parts between its line feeds: the last one may lack its line feed, and after a last line feed
-- there is no line more
abbrev pub without_last : List (List ℕ) → List (List ℕ)
without_last [] = []
without_last (part ∷ []) = if length part == 0 then [] else part ∷ []
without_last (part ∷ next ∷ parts) = part ∷ without_last (next ∷ parts)

-- the lines of a host file: behind its last line break stands no line
abbrev pub file_lines : List ℕ → List (List ℕ)
file_lines bytes = without_last (lines_of bytes)

-- without the blanks at its end, and at both ends. In a line that is text the white space of ASCII is the blanks: a tab, a
-- carriage return and a space.
abbrev pub without_end : List ℕ → List ℕ
without_end text = take (length text - suffix_len is_ascii_whitespace text) text

-- a text without the blanks at its two ends
abbrev pub without_blank_ends : List ℕ → List ℕ
without_blank_ends text = without_end (drop (prefix_len is_ascii_whitespace text) text)

-- what stands in a line: neither its comment, from the first `#` on, nor the blanks round it
abbrev pub entry_of : List ℕ → List ℕ
entry_of line = without_blank_ends (without_comment line)

-- the digits of a core's number, which may have `rck` before them
abbrev pub digits_of : List ℕ → List ℕ
digits_of word = if bytes_eq (take 3 word) (codes "rck") then drop 3 word else word

-- one of the chip's 48 cores
abbrev pub core_of_number : Option ℕ → Result ℕ HostKind
core_of_number None = Err kind.BadCore
core_of_number (Some n) = if nat_lt n 48 then Ok n else Err kind.BadCore

-- the core that a word stands for: 1 to 10 digits
abbrev pub core_of_word : List ℕ → Result ℕ HostKind
core_of_word word = core_of_number (number_of (digits_of word))

-- the cores with one more, which no line before has
abbrev pub with_core : List ℕ → ℕ → Result (List ℕ) HostKind
with_core cores core = if has_core core cores then Err kind.TwiceCore else Ok (cores ++ core ∷ [])

-- the cores of the lines up to one: an empty line has none, and any other has one
abbrev pub read_host_line : List ℕ → List ℕ → Result (List ℕ) HostKind
read_host_line cores line =
    if is_text line
    then (if length (entry_of line) == 0 then Ok cores else core_of_word (entry_of line) >>= with_core cores)
    else Err kind.NotText

-- a fault with the number of its line
abbrev pub at_host_line : {A : Type 0} → ℕ → Result A HostKind → Result A HostFault
at_host_line line (Ok x) = Ok x
at_host_line line (Err kind) = Err (record { line = line; kind = kind })

-- the cores of the lines, of which the first has the number behind `before`
abbrev pub read_host_lines : ℕ → List ℕ → List (List ℕ) → Result (List ℕ) HostFault
read_host_lines before cores [] = Ok cores
read_host_lines before cores (line ∷ lines) =
    at_host_line (before + 1) (read_host_line cores line) >>= λ next. read_host_lines (before + 1) next lines

-- the core of a rank: the entry of its number, and from the number of units of execution on entry 0 again
abbrev pub host_at : ℕ → List ℕ → ℕ → ℕ
host_at nue cores rank = if nat_lt rank nue then slice_index cores rank else slice_index cores 0

-- the core of each of 48 ranks, of which the run has the first `nue`
abbrev pub host_list : ℕ → List ℕ → List ℕ
host_list nue cores = map (host_at nue cores) (range_with_len 0 48)

-- the cores of a file of `lines` lines, if there is one for each of the `nue` ranks
abbrev pub enough : ℕ → ℕ → List ℕ → Result (List ℕ) HostFault
enough nue lines cores =
    if nat_lt (length cores) nue then Err (record { line = lines + 1; kind = kind.TooFew }) else Ok (host_list nue cores)

-- the most bytes of a host file
abbrev pub most_host_bytes : ℕ
most_host_bytes = 65536

-- the core of each rank that a host file says, or its first fault
abbrev pub parse_hosts : List ℕ → ℕ → Result (List ℕ) HostFault
parse_hosts bytes nue =
    if nat_lt most_host_bytes (length bytes) then Err (record { line = 0; kind = kind.TooLong })
    else read_host_lines 0 [] (file_lines bytes) >>= enough nue (length (file_lines bytes))

-- each rank on the core of its number
abbrev pub default_hosts : List ℕ
default_hosts = own_cores
