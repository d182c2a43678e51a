-- Calls as a tap keeps them.
use Rattle.std.specs.Prelude.{◌≡◌, ◌≤◌, List, length, map, flat_map}
use Rattle.scc_base.specs.Calls.{DataCall, call_of}
use Rattle.call_tap.specs.declared.kept.Kept.{Kept}
use Rattle.rank_monitor.specs.Following.{moved_by}

-- there is room for these calls and for their bytes: a tap has room for as many as a log may have of a rank
pub record HasTapRoom (calls : List DataCall) : Type 0 where
  pub calls_within : length calls ≤ 10000
  pub bytes_within : length (flat_map moved_by calls) ≤ 262144

-- these calls, without their bytes, and the bytes one after the other
pub record AreKept (k : Kept) (calls : List DataCall) : Type 0 where
  pub calls_are : k.calls.items ≡ map call_of calls
  pub bytes_are : k.bytes.items ≡ flat_map moved_by calls

-- these calls are kept, where there is room for them
abbrev pub AreKeptWithRoom : Kept → List DataCall → Type 0
AreKeptWithRoom k calls = HasTapRoom calls → AreKept k calls
