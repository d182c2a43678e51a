-- Calls that are known before they are made, without the bytes that go with them.
use Rattle.std.specs.Prelude.{ℕ, ◌+◌, nat_le, Bool, ◌&&◌, List, [], ◌∷◌, length}
use Rattle.scc_base.specs.Calls.{bytes_asked}
use Rattle.scc_base.specs.declared.calls.Call.{Call}

-- how many bytes calls move together
abbrev pub bytes_planned : List Call → ℕ
bytes_planned [] = 0
bytes_planned (call ∷ calls) = bytes_asked call + bytes_planned calls

-- whether there is room for all of these calls: 10,000 calls with 262,144 bytes (this project's profile)
abbrev pub has_room_for : List Call → Bool
has_room_for planned = nat_le (length planned) 10000 && nat_le (bytes_planned planned) 262144
