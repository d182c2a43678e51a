-- The private lines of a core: the lines of message passing buffers that it holds, with their words, in the
-- order in which they were brought in (SCC External Architecture Specification; the whole cache as one list
-- of at most 512 lines is this project's profile).
use Rattle.std.specs.Prelude.{◌≡◌, ℕ, ◌<◌, ◌≤◌, false, ◌==◌, if◌then◌else◌, List, [], ◌∷◌, ◌++◌, Option, None, Some, IfSome, length, slice_get, take, drop, map, slice_index, slice_index_or, slice_set}
use Rattle.scc_base.specs.Places.{LineAt, WordAt, line_of_word, word_of_line, same_line}
use Rattle.line_cache.specs.declared.cache.Entry.{Entry}
use Rattle.line_cache.specs.declared.cache.Mark.{Mark}

-- how many lines a cache holds at most
abbrev pub most_lines : ℕ
most_lines = 512

-- the words that are held of a line
abbrev pub cached_words : List Entry → LineAt → Option (List ℕ)
cached_words [] line = None
cached_words (e ∷ es) line = if same_line e.line line then Some e.words else cached_words es line

-- the lines after one was brought in: behind all, in a full cache in place of the first
abbrev pub with_filled_line : List Entry → LineAt → List ℕ → List Entry
with_filled_line es line words =
    (if length es == most_lines then drop 1 es else es) ++ (record { line = line; words = words }) ∷ []

-- an entry after a word was written at a place
abbrev pub entry_with_word : Entry → WordAt → ℕ → Entry
entry_with_word e p v =
    if same_line e.line (line_of_word p) then record { line = e.line; words = slice_set e.words p.word v } else e

-- the lines after a word was written at a place: it changes where its line is held, and nothing is brought in
abbrev pub lines_with_word : List Entry → WordAt → ℕ → List Entry
lines_with_word es p v = map (λ e. entry_with_word e p v) es

-- the lines after the four words of a line were written
abbrev pub line_noted : List Entry → LineAt → List ℕ → List Entry
line_noted es line words =
    lines_with_word
    (lines_with_word
    (lines_with_word (lines_with_word es (word_of_line line 0) (slice_index words 0)) (word_of_line line 1) (slice_index words 1))
    (word_of_line line 2) (slice_index words 2))
    (word_of_line line 3) (slice_index words 3)

-- no line is held twice
abbrev pub AreDistinct : List Entry → Type 0
AreDistinct [] = Unit {0}
AreDistinct (e ∷ es) = (cached_words es e.line ≡ None) × AreDistinct es

-- at most 512 lines, none twice
pub record IsCache (es : List Entry) : Type 0 where
  pub distinct : AreDistinct es
  pub few : length es ≤ most_lines

-- a line stands at this place, or it is not held
abbrev pub IsPlaceOf : List Entry → LineAt → Option ℕ → Type 0
IsPlaceOf es line None = cached_words es line ≡ None
IsPlaceOf es line (Some at) = IfSome (slice_get es at) (λ e. e.line ≡ line) × (at < length es)

-- such lines stand first among the entries, and there are marks by the number of a line: one whose mark is of another
-- pass is not held
pub record IsMarked (entries : List Entry) (len : ℕ) (marks : List Mark) (pass : ℕ) : Type 0 where
  pub cache : IsCache (take len entries)
  pub few : len ≤ length entries
  pub unmarked : (line : LineAt) (mark : Mark) → mark ≡ slice_index_or marks line.line mark → (mark.pass == pass) ≡ false
      → cached_words (take len entries) line ≡ None
