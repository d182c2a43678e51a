-- How the files in memory are kept.
use Rattle.std.specs.Prelude.{ℕ, ◌<◌, ◌≤◌, List, [], length, drop, map, slice_index_or, option_map, string_bytes}
use Rattle.rcce_io.specs.declared.memory_files.MemFile.{MemFile}
use Rattle.rcce_io.specs.declared.memory_files.Place.{Place}
use Rattle.rcce_io.specs.declared.memory_files.MemFiles.TheInside.{Inside}
use Rattle.rcce_io.specs.Files.{NamedFile}
use Rattle.rcce_io.specs.Memory.{FilesState}

-- a file in memory, by its name and its bytes
abbrev pub named_file : MemFile → NamedFile
named_file file = record { name = string_bytes file.name; contents = file.contents.items }

-- the bytes of the k-th file
abbrev pub contents_at : List MemFile → ℕ → List ℕ
contents_at files k = slice_index_or (map (λ file. file.contents.items) files) k []

-- files in memory as their callers see them: the rest of the open one is what stands behind its place
abbrev pub files_state_of : Inside → FilesState
files_state_of inside = record {
  files = map named_file inside.files.items;
  rest = option_map (λ place. drop place.at (contents_at inside.files.items place.file)) inside.place;
  most = inside.most;
  calls = inside.calls;
}

-- the open file is one of the files, and the place in it is not past its end
pub record IsPlaceWithin (files : List MemFile) (place : Place) : Type 0 where
  pub file : place.file < length files
  pub at : place.at ≤ length (contents_at files place.file)
