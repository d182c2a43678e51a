-- What the calls on files do to what is told of them. This project's profile.
use Rattle.std.specs.Prelude.{◌≡◌, ℕ, ◌<◌, ◌≤◌, Bool, true, false, if◌then◌else◌, List, [], ◌∷◌, ◌++◌, length, take, Option, Some, None, IfSome, IsSome, option_map, option_and_then}
use Rattle.std.specs.Str.{bytes_eq}
use Rattle.rcce_io.specs.declared.files.Opened.{Opened}
use Rattle.rcce_io.specs.declared.files.Opened.TheVariants as opened
use Rattle.rcce_io.specs.declared.files.Got.{Got}
use Rattle.rcce_io.specs.declared.files.Got.TheVariants as got
use Rattle.rcce_io.specs.Faults.{next_count}

-- a file's name and its bytes
pub record NamedFile : Type 0 where
  pub name : List ℕ
  pub contents : List ℕ

-- the contents of the file of this name
abbrev pub contents_of : List ℕ → List NamedFile → Option (List ℕ)
contents_of _ [] = None
contents_of name (file ∷ files) = if bytes_eq file.name name then Some file.contents else contents_of name files

-- files: their names and bytes, where they are told, the rest of the open one, where it is told, whether one is open, and
-- their count of faults
pub record FilesView : Type 0 where
  pub told : Option (List NamedFile)
  pub rest : Option (List ℕ)
  pub is_open : Bool
  pub faults : ℕ

-- the files with the one of this name open at its front
abbrev pub with_open : List ℕ → FilesView → FilesView
with_open name files =
    record { told = files.told; rest = option_and_then (contents_of name) files.told; is_open = true; faults = files.faults }

-- the files with none open
abbrev pub with_none_open : FilesView → FilesView
with_none_open files = record { told = files.told; rest = None; is_open = false; faults = files.faults }

-- the files with another rest of the open one
abbrev pub with_rest : Option (List ℕ) → FilesView → FilesView
with_rest rest files = record { told = files.told; rest = rest; is_open = files.is_open; faults = files.faults }

-- the files with one fault more
abbrev pub with_fault : FilesView → FilesView
with_fault files = record { told = files.told; rest = files.rest; is_open = files.is_open; faults = next_count files.faults }

-- what an open does: it closes what was open, and opens the file, finds none of the name, or counts one fault
abbrev pub Opens : List ℕ → FilesView → FilesView → Opened → Type 0
Opens name before after opened.Open = (after ≡ with_open name before) × IfSome before.told (λ files. IsSome (contents_of name files))
Opens name before after opened.Absent = (after ≡ with_none_open before) × IfSome before.told (λ files. contents_of name files ≡ None)
Opens name before after opened.Failed = after ≡ with_fault (with_none_open before)

-- what a read does: some bytes go over from the rest to the front of the buffer, nothing is left, or one fault is counted
abbrev pub Reads : FilesView → FilesView → List ℕ → Got → Type 0
Reads before after buf (got.Bytes n) = (after ≡ with_rest after.rest before) × (0 < n) × (n ≤ length buf)
    × (before.rest ≡ option_map (λ more. take n buf ++ more) after.rest)
Reads before after buf got.End = (after ≡ before) × IfSome before.rest (λ more. more ≡ [])
Reads before after buf got.Failed = after ≡ with_fault before
