-- A text cut into its parts: lines, and the words of a line (this project's profile).
use Rattle.std.specs.Prelude.{ℕ, ◌-◌, ◌==◌, ◌&&◌, ◌||◌, nat_le, not, Bool, if◌then◌else◌, List, length, slice_get, filter, Option, Some, None}
use Rattle.std.specs.List.{before_first, list_all, slice_split}

-- what stands between the marks of a text
abbrev pub cut_by : ℕ → List ℕ → List (List ℕ)
cut_by mark text = slice_split (λ b. b == mark) text

-- a tab, a carriage return or a space
abbrev pub is_blank : ℕ → Bool
is_blank b = b == 9 || b == 13 || b == 32

-- a byte that may stand outside a comment: a blank, the end of a line or a printable character of ASCII
abbrev pub is_text_byte : ℕ → Bool
is_text_byte b = b == 9 || b == 10 || b == 13 || nat_le 32 b && nat_le b 126

-- the parts of a file between its line feeds
abbrev pub lines_of : List ℕ → List (List ℕ)
lines_of bytes = cut_by 10 bytes

-- the number of lines: the last one may lack its line feed, and after a last line feed there is no line more
abbrev pub lines_before : List (List ℕ) → ℕ → Option (List ℕ) → ℕ
lines_before lines others None = 0
lines_before lines others (Some last) = if length last == 0 then others else length lines

-- how many lines a file has
abbrev pub line_count : List (List ℕ) → ℕ
line_count lines = lines_before lines (length lines - 1) (slice_get lines (length lines - 1))

-- a line up to its first `#`
abbrev pub without_comment : List ℕ → List ℕ
without_comment line = before_first (λ b. b == 35) line

-- whether each byte outside the comment may stand there
abbrev pub is_text : List ℕ → Bool
is_text line = list_all is_text_byte (without_comment line)

-- the words of a line: what stands between the blanks
abbrev pub words_of : List ℕ → List (List ℕ)
words_of line = filter (λ word. not (length word == 0)) (slice_split is_blank (without_comment line))
