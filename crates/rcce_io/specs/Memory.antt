-- The whole state of the files and of the sink in memory, and what each call answers and leaves. This project's profile.
use Rattle.std.specs.Prelude.{ℕ, ◌-◌, ◌^◌, ◌==◌, ◌||◌, min, Bool, false, if◌then◌else◌, List, [], ◌∷◌, ◌++◌, length, take, drop, Option, Some, None, is_some, unwrap_or, option_map}
use Rattle.rcce_io.specs.declared.files.Opened.{Opened}
use Rattle.rcce_io.specs.declared.files.Opened.TheVariants as opened
use Rattle.rcce_io.specs.declared.files.Got.{Got}
use Rattle.rcce_io.specs.declared.files.Got.TheVariants as got
use Rattle.rcce_io.specs.declared.sink.Put.{Put}
use Rattle.rcce_io.specs.declared.sink.Put.TheVariants as put
use Rattle.rcce_io.specs.Faults.{next_count}
use Rattle.rcce_io.specs.Files.{FilesView, NamedFile, contents_of}
use Rattle.rcce_io.specs.Sending.{SinkView}

-- how many calls were made, the number of the one that fails, counted from 1, and how many failed
pub record Calls : Type 0 where
  pub made : ℕ
  pub failing : Option ℕ
  pub faults : ℕ

-- no call was made, and none is to fail
abbrev pub no_file_calls : Calls
no_file_calls = record { made = 0; failing = None; faults = 0 }

-- whether this is the number of the failing call
abbrev pub is_failing : Option ℕ → ℕ → Bool
is_failing None _ = false
is_failing (Some call) number = call == number

-- whether the next call fails
abbrev pub fails_next : Calls → Bool
fails_next calls = is_failing calls.failing (next_count calls.made)

-- the calls after one more, which failed or did not
abbrev pub after_call : Bool → Calls → Calls
after_call failed calls = record calls {
  made = next_count calls.made;
  faults = if failed then next_count calls.faults else calls.faults;
}

-- files in memory: in the order of their adding, with the rest of the open one, and how many bytes one read gives at most
pub record FilesState : Type 0 where
  pub files : List NamedFile
  pub rest : Option (List ℕ)
  pub most : ℕ
  pub calls : Calls

-- no file, none open, and reads that are bounded by their buffer alone
abbrev pub no_files_state : FilesState
no_files_state = record { files = []; rest = None; most = 2 ^ 64 - 1; calls = no_file_calls }

-- as a caller of any files sees them: all is told
abbrev pub files_seen : FilesState → FilesView
files_seen state = record { told = Some state.files; rest = state.rest; is_open = is_some state.rest; faults = state.calls.faults }

-- the same with one more file
abbrev pub with_file : List ℕ → List ℕ → FilesState → FilesState
with_file name contents state = record state { files = state.files ++ record { name = name; contents = contents } ∷ [] }

-- what an open of this name answers
abbrev pub open_answer : FilesState → List ℕ → Opened
open_answer state name =
    if fails_next state.calls then opened.Failed else
    if is_some (contents_of name state.files) then opened.Open else opened.Absent

-- an open closes what was open, also where it fails
abbrev pub after_open : FilesState → List ℕ → FilesState
after_open state name = record state {
  rest = if fails_next state.calls then None else contents_of name state.files;
  calls = after_call (fails_next state.calls) state.calls;
}

-- how many bytes a read into a buffer of this length gives at most
abbrev pub read_room : FilesState → ℕ → ℕ
read_room state len = min len state.most

-- what a read into a buffer of this length answers
abbrev pub read_answer : FilesState → ℕ → Got
read_answer state len =
    let left = length (unwrap_or state.rest []) in
    if fails_next state.calls then got.Failed else
    if left == 0 then got.End else got.Bytes (min (read_room state len) left)

-- the files after a read into a buffer of this length
abbrev pub after_read : FilesState → ℕ → FilesState
after_read state len = record state {
  rest = if fails_next state.calls then state.rest else option_map (drop (read_room state len)) state.rest;
  calls = after_call (fails_next state.calls) state.calls;
}

-- a sink in memory: the bytes taken, how many more it takes, how many at one write
pub record SinkState : Type 0 where
  pub taken : List ℕ
  pub room : ℕ
  pub most : ℕ
  pub calls : Calls

-- as a caller of any sink sees it: its bytes are told
abbrev pub sink_seen : SinkState → SinkView
sink_seen state = record { taken = Some state.taken; faults = state.calls.faults }

-- a sink that has taken nothing, with room for `room` bytes in all and `most` at one write
abbrev pub new_sink : ℕ → ℕ → SinkState
new_sink room most = record { taken = []; room = room; most = most; calls = no_file_calls }

-- a write fails where its number is the failing one or no room is left
abbrev pub write_fails : SinkState → Bool
write_fails state = fails_next state.calls || state.room == 0

-- how many of `len` bytes a write takes that does not fail
abbrev pub write_count : SinkState → ℕ → ℕ
write_count state len = min (min len state.most) state.room

-- what a write of `len` bytes answers
abbrev pub write_answer : SinkState → ℕ → Put
write_answer state len = if write_fails state then put.Failed else put.Took (write_count state len)

-- the sink after a write of these bytes
abbrev pub after_write : SinkState → List ℕ → SinkState
after_write state bytes =
    let count = if write_fails state then 0 else write_count state (length bytes) in
    record state {
      taken = state.taken ++ take count bytes;
      room = state.room - count;
      calls = after_call (write_fails state) state.calls;
    }
