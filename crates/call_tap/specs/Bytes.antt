-- The bytes of calls.
use Rattle.std.specs.Prelude.{ℕ, ◌<◌, List, slice_index}
use Rattle.scc_base.specs.Calls.{DataCall}
use Rattle.rank_monitor.specs.Following.{moved_by}

-- each of them is below 256
abbrev pub AreBelow256 : List ℕ → Type 0
AreBelow256 bytes = (i : ℕ) → slice_index bytes i < 256

-- each of the bytes that a call moves is below 256
abbrev pub HasBytes : DataCall → Type 0
HasBytes call = AreBelow256 (moved_by call)
