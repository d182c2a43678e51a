-- What a whole reading gives. This project's profile.
use Rattle.std.specs.Prelude.{◌≡◌, ℕ, ◌+◌, ◌<◌, ◌≤◌, Bool, true, false, List, [], ◌++◌, length, take, Option, Some, None, IfSome, option_map, Result, Ok, Err}
use Rattle.rcce_io.specs.declared.reading.ReadEnd.{ReadEnd}
use Rattle.rcce_io.specs.declared.reading.ReadEnd.TheVariants as ends
use Rattle.rcce_io.specs.Files.{FilesView, contents_of, with_fault, with_rest}

-- the same files, with what is told of them and their count of faults; another one may be open
abbrev pub SameFiles : FilesView → FilesView → Type 0
SameFiles before after = after ≡ record { told = before.told; rest = after.rest; is_open = after.is_open; faults = before.faults }

-- the same files with one fault more
abbrev pub OneFault : FilesView → FilesView → Type 0
OneFault before after = SameFiles (with_fault before) after

-- The contents of the name, or their first limit + 1 bytes where there are more, where contents are told; absent where the
-- name is not told; failed with exactly one fault, behind which nothing was read.
abbrev pub ReadsAll : List ℕ → ℕ → FilesView → FilesView → Result (List ℕ) ReadEnd → Type 0
ReadsAll name limit before after (Ok bytes) = SameFiles before after × (length bytes ≤ limit + 1)
    × IfSome before.told (λ files. (whole : List ℕ) × (contents_of name files ≡ Some whole) × (bytes ≡ take (limit + 1) whole))
ReadsAll name limit before after (Err ends.Absent) = SameFiles before after × IfSome before.told (λ files. contents_of name files ≡ None)
ReadsAll name limit before after (Err ends.Failed) = OneFault before after
ReadsAll name limit before after (Err ends.Memory) = SameFiles before after

-- the bytes read so far and those that are left, where they are told
abbrev pub whole_of : List ℕ → Option (List ℕ) → Option (List ℕ)
whole_of bytes rest = option_map (λ more. bytes ++ more) rest

-- what reading on in the open file gives
abbrev pub ReadsRest : ℕ → FilesView → FilesView → Result (List ℕ) ReadEnd → Type 0
ReadsRest limit before after (Ok bytes) =
    SameFiles before after × (length bytes ≤ limit + 1) × IfSome before.rest (λ more. bytes ≡ take (limit + 1) more)
ReadsRest limit before after (Err ends.Absent) = ⊥
ReadsRest limit before after (Err ends.Failed) = OneFault before after
ReadsRest limit before after (Err ends.Memory) = SameFiles before after

-- what one read gives, behind the bytes read so far: some went over from the rest, or nothing is left
abbrev pub ReadsBlock : List ℕ → List ℕ → ℕ → FilesView → FilesView → Result Bool ReadEnd → Type 0
ReadsBlock bytes more room before after (Ok true) =
    (after ≡ with_rest after.rest before) × (length bytes < length more) × (length more ≤ length bytes + room)
    × (whole_of more after.rest ≡ whole_of bytes before.rest)
ReadsBlock bytes more room before after (Ok false) = (after ≡ before) × (more ≡ bytes) × IfSome before.rest (λ none. none ≡ [])
ReadsBlock bytes more room before after (Err ends.Absent) = ⊥
ReadsBlock bytes more room before after (Err ends.Failed) = after ≡ with_fault before
ReadsBlock bytes more room before after (Err ends.Memory) = after ≡ with_rest after.rest before
