-- Whether taps have room for the calls of a script, which are known before it runs but for their bytes.
use Rattle.std.specs.Prelude.{ℕ, Bool, Option, Some, None}
use Rattle.std.specs.List.{list_all, range_with_len}
use Rattle.call_tap.specs.Planned.{has_room_for}
use Rattle.script_rules.specs.Script.{Script}
use Rattle.script_machine.specs.CallLists.{calls_of}

-- there is room for all calls of each rank
abbrev pub has_room_for_all : Script → Bool
has_room_for_all script = list_all (λ rank. has_room_for (calls_of script rank)) (range_with_len 0 script.nue)

-- a primitive's calls: 0, or 1 that moves `bytes` bytes
abbrev pub calls_by : Option ℕ → ℕ
calls_by None = 0
calls_by (Some bytes) = 1

-- the bytes that a primitive's calls move: 0, or the `bytes` bytes of its one call
abbrev pub bytes_moved_by : Option ℕ → ℕ
bytes_moved_by None = 0
bytes_moved_by (Some bytes) = bytes
