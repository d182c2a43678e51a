-- How many bytes the calls of a rank move.
use Rattle.std.specs.Prelude.{ℕ, ◌+◌, ◌≤◌, List, [], ◌∷◌, length}
use Rattle.scc_base.specs.Calls.{DataCall, call_of}
use Rattle.rcce_audit.specs.Held.{bytes_in}

-- the bytes of all of them together
abbrev pub bytes_moved : List DataCall → ℕ
bytes_moved [] = 0
bytes_moved (call ∷ calls) = bytes_in (call_of call) + bytes_moved calls

-- as many calls, with as many bytes, as a run that is logged keeps of a rank
pub record AreFew (calls : List DataCall) : Type 0 where
  pub calls_within : length calls ≤ 10000
  pub bytes_within : bytes_moved calls ≤ 262144
