-- Room for all calls that are planned is room for those that are made.
use Rattle.std.proofs.Common.{◌≡◌, ◌+◌, true, List, [], ◌∷◌, ◌++◌, length, map, length-append, refl, ◌∙◌, ap, arith}
use Rattle.std.specs.Prelude.{All, flat_map, nat_le}
use Rattle.std.proofs.lemmas.Bool.{leb-true}
use Rattle.std.proofs.lemmas.List.Elements.{All-head, All-tail}
use Rattle.scc_base.specs.Calls.{DataCall, Send, Recv, Post, Bar, HasItsBytes, bytes_asked, call_of}
use Rattle.scc_base.specs.declared.calls.Call.{Call}
use Rattle.scc_proto.proofs.Tests.{both_first, both_second}
use Rattle.call_tap.specs.Kept.{HasTapRoom}
use Rattle.call_tap.specs.Planned.{has_room_for, bytes_planned}
use Rattle.rank_monitor.specs.Following.{moved_by}

-- a call's own bytes are as many as it moves
pub one_long : (call : DataCall) → HasItsBytes call → length (moved_by call) ≡ bytes_asked (call_of call)
one_long (Send to head bytes) long = long
one_long (Recv from head bytes) long = long
one_long (Post to head bytes) long = long
one_long (Bar comm) long = refl

all_long : (calls : List DataCall) → All HasItsBytes calls → length (flat_map moved_by calls) ≡ bytes_planned (map call_of calls)
all_long [] long = refl
all_long (call ∷ calls) long =
    let a = one_long call (All-head HasItsBytes call calls long) in
    let b = all_long calls (All-tail HasItsBytes call calls long) in
    length-append (moved_by call) (flat_map moved_by calls) ∙ omega (arith, a, b)

pub planned_append : (one other : List Call) → bytes_planned (one ++ other) ≡ bytes_planned one + bytes_planned other
planned_append [] other = omega arith
planned_append (call ∷ one) other = let a = planned_append one other in omega (arith, a)

length_calls : (calls : List DataCall) → length (map call_of calls) ≡ length calls
length_calls [] = refl
length_calls (call ∷ calls) = let a = length_calls calls in omega (arith, a)

pub planned_room : (planned rest : List Call) (calls : List DataCall) → has_room_for planned ≡ true → planned ≡ map call_of calls ++ rest → All HasItsBytes calls → HasTapRoom calls
planned_room planned rest calls room is long =
    let a = ap length is ∙ length-append (map call_of calls) rest in
    let b = length_calls calls in
    let c = ap bytes_planned is ∙ planned_append (map call_of calls) rest in
    let d = all_long calls long in
    let e = leb-true (length planned) 10000 (both_first (nat_le (length planned) 10000) (nat_le (bytes_planned planned) 262144) room) in
    let f = leb-true (bytes_planned planned) 262144 (both_second (nat_le (length planned) 10000) (nat_le (bytes_planned planned) 262144) room) in
    record { calls_within = omega (arith, a, b, e); bytes_within = omega (arith, c, d, f) }
