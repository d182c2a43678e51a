-- How many calls a rank's program makes, and how many bytes they move, counted along it.
use Rattle.std.proofs.Common.{◌≡◌, ◌⊎◌, inl, inr, ℕ, suc, ◌+◌, ◌<◌, ◌≤◌, Bool, true, false, ◌&&◌, List, [], ◌∷◌, ◌++◌, drop, length, length-append, map, slice_get, slice_index_or, Option, Some, None, refl, sym, ap, ◌∙◌, arith}
use Rattle.std.specs.Prelude.{nat_le}
use Rattle.std.specs.Option.{option_map, option_to_list}
use Rattle.std.specs.List.{list_all, range_with_len}
use Rattle.std.proofs.Math.Nat.{eq-or-lt_of_le}
use Rattle.std.proofs.lemmas.Bool.{le-leb, leb-true}
use Rattle.std.proofs.lemmas.List.Folds.{list_all_at}
use Rattle.std.proofs.lemmas.List.FromFn.{get_or-range_with_len, length-range_with_len}
use Rattle.scc_base.specs.Calls.{bytes_asked}
use Rattle.scc_base.specs.declared.calls.Call.{Call}
use Rattle.scc_proto.proofs.Tests.{both_first, both_second}
use Rattle.call_tap.specs.Planned.{bytes_planned, has_room_for}
use Rattle.call_tap.proofs.PlannedLaws.{planned_append}
use Rattle.script_rules.specs.Script.{Script}
use Rattle.script_machine.specs.CallLists.{calls_made, calls_from, calls_of}
use Rattle.script_machine.specs.Lengths.{Lengths, lengths_after}
use Rattle.script_machine.specs.Program.{Prim, program_of}
use Rattle.script_machine.specs.Rooms.{nothing_held}
use Rattle.script_machine.proofs.ProgramLengths.RoomLaws.{start_held}
use Rattle.log_run.specs.Sizes.{bytes_moved_by, calls_by, has_room_for_all}

-- ---- one primitive more

calls_front : (l : Lengths) (prims : List Prim) (prim : Prim) → slice_get prims 0 ≡ Some prim → calls_from l prims ≡ calls_made l prim.act ++ calls_from (lengths_after l prim.act) (drop 1 prims)
calls_front l [] prim here = absurd (cc (here))
calls_front l (x ∷ prims) prim here =
    let same : x ≡ prim = cc (here) in
    ap (λ (p : Prim). calls_made l p.act ++ calls_from (lengths_after l p.act) prims) same

pub nothing_left : (l : Lengths) (prims : List Prim) → slice_get prims 0 ≡ None → calls_from l prims ≡ []
nothing_left l [] none = refl
nothing_left l (x ∷ prims) none = absurd (cc (none))

-- the calls of a primitive are none, or one that moves the bytes it tells
asked_of : (calls : List Call) (moved : Option ℕ) → option_to_list moved ≡ map bytes_asked calls → (length calls ≡ calls_by moved) × (bytes_planned calls ≡ bytes_moved_by moved)
asked_of [] None is = (refl, refl)
asked_of [] (Some n) is = absurd (cc (is))
asked_of (call ∷ []) None is = absurd (cc (is))
asked_of (call ∷ []) (Some n) is = let same : n ≡ bytes_asked call = cc (is) in (refl, omega (arith, same))
asked_of (call ∷ more ∷ calls) None is = absurd (cc (is))
asked_of (call ∷ more ∷ calls) (Some n) is = absurd (cc (is))

-- calls and bytes counted so far, with those that are left, are those of the program
pub record AreCounted (planned : List Call) (calls bytes : ℕ) (left : List Call) : Type 0 where
  pub count : length planned ≡ calls + length left
  pub sum : bytes_planned planned ≡ bytes + bytes_planned left

pub counted_on : (planned : List Call) (calls bytes : ℕ) (l m : Lengths) (left : List Prim) (prim : Prim) (moved : Option ℕ) (more_calls more_bytes : ℕ) (rest : List Prim)
    → AreCounted planned calls bytes (calls_from l left) → slice_get left 0 ≡ Some prim → option_to_list moved ≡ map bytes_asked (calls_made l prim.act) → m ≡ lengths_after l prim.act
    → more_calls ≡ calls + calls_by moved → more_bytes ≡ bytes + bytes_moved_by moved → rest ≡ drop 1 left → AreCounted planned more_calls more_bytes (calls_from m rest)
counted_on planned calls bytes l m left prim moved more_calls more_bytes rest counted here asks same is_calls is_bytes afterwards =
    let parts : calls_from l left ≡ calls_made l prim.act ++ calls_from m rest =
    calls_front l left prim here ∙ ap (λ (c : List Call). calls_made l prim.act ++ c) (λ i. calls_from (sym same i) (sym afterwards i)) in
    let lengths = ap length parts ∙ length-append (calls_made l prim.act) (calls_from m rest) in
    let sums = ap bytes_planned parts ∙ planned_append (calls_made l prim.act) (calls_from m rest) in
    let c = counted.count in
    let s = counted.sum in
    let own = asked_of (calls_made l prim.act) moved asks in
    record { count = omega (arith, lengths, c, own.0, is_calls); sum = omega (arith, sums, s, own.1, is_bytes) }

-- ---- whether there is room

pub no_room : (planned : List Call) (calls bytes : ℕ) (left : List Call) → AreCounted planned calls bytes left → (nat_le calls 10000 && nat_le bytes 262144) ≡ false → false ≡ has_room_for planned
no_room planned calls bytes left counted none = by (has_room_for planned) refl
  where
    by : (room : Bool) → has_room_for planned ≡ room → false ≡ room
    by false is = refl
    by true is =
        let few = leb-true (length planned) 10000 (both_first (nat_le (length planned) 10000) (nat_le (bytes_planned planned) 262144) is) in
        let small = leb-true (bytes_planned planned) 262144 (both_second (nat_le (length planned) 10000) (nat_le (bytes_planned planned) 262144) is) in
        let count = counted.count in
        let sum = counted.sum in
        let a : nat_le calls 10000 ≡ true = le-leb calls 10000 (omega (arith, few, count)) in
        let b : nat_le bytes 262144 ≡ true = le-leb bytes 262144 (omega (arith, small, sum)) in
        sym none ∙ ap (λ (x : Bool). x && nat_le bytes 262144) a ∙ b

pub some_room : (planned : List Call) (calls bytes : ℕ) → AreCounted planned calls bytes [] → calls ≤ 10000 → bytes ≤ 262144 → true ≡ has_room_for planned
some_room planned calls bytes counted few small =
    let count = counted.count in
    let sum = counted.sum in
    let a : nat_le (length planned) 10000 ≡ true = le-leb (length planned) 10000 (omega (arith, few, count)) in
    let b : nat_le (bytes_planned planned) 262144 ≡ true = le-leb (bytes_planned planned) 262144 (omega (arith, small, sum)) in
    sym (ap (λ (x : Bool). x && nat_le (bytes_planned planned) 262144) a ∙ b)

-- ---- and for all ranks

abbrev room_at : Script → ℕ → Bool
room_at script rank = has_room_for (calls_of script rank)

all_by : {X : Type 0} (p : X → Bool) (xs : List X) → ((i : ℕ) (d : X) → i < length xs → p (slice_index_or xs i d) ≡ true) → list_all p xs ≡ true
all_by p [] each = refl
all_by p (x ∷ xs) each = ap (λ (b : Bool). b && list_all p xs) (each 0 x (omega arith)) ∙ all_by p xs (λ i d low. each (suc i) d (omega (arith, low)))

pub all_room : (script : Script) (n : ℕ) → n ≡ script.nue → ((rank : ℕ) → rank < n → room_at script rank ≡ true) → true ≡ has_room_for_all script
all_room script n all each =
    sym (all_by (room_at script) (range_with_len 0 script.nue)
    (λ i d low.
    let within : i < script.nue = let long = length-range_with_len 0 script.nue in omega (arith, low, long) in
    ap (room_at script) (get_or-range_with_len 0 script.nue i d within) ∙ each (0 + i) (omega (arith, within, all))))

pub one_full : (script : Script) (rank : ℕ) → rank < script.nue → room_at script rank ≡ false → false ≡ has_room_for_all script
one_full script rank low full =
    sym (list_all_at (room_at script) (range_with_len 0 script.nue) rank 0 (let long = length-range_with_len 0 script.nue in omega (arith, low, long))
    (ap (room_at script) (let at = get_or-range_with_len 0 script.nue rank 0 low in let same : slice_index_or (range_with_len 0 script.nue) rank 0 ≡ rank = omega (arith, at) in same) ∙ full))

pub each_room : (script : Script) → has_room_for_all script ≡ true → (rank : ℕ) → rank < script.nue → has_room_for (calls_of script rank) ≡ true
each_room script room rank low = by (room_at script rank) refl
  where
    by : (b : Bool) → room_at script rank ≡ b → b ≡ true
    by true is = refl
    by false is = absurd (let none = one_full script rank low is in cc (none, room))

-- one rank more
pub room_step : (script : Script) (n : ℕ) → ((rank : ℕ) → rank < n → room_at script rank ≡ true) → room_at script n ≡ true → (rank : ℕ) → rank < n + 1 → room_at script rank ≡ true
room_step script n each last rank below = by (eq-or-lt_of_le (omega arith))
  where
    by : (rank ≡ n) ⊎ (rank < n) → room_at script rank ≡ true
    by (inl same) = ap (room_at script) same ∙ last
    by (inr earlier) = each rank earlier

-- at the start all calls are left
pub start_same : (script : Script) (rank : ℕ) (l : Lengths) (left : List Prim) → l ≡ nothing_held (length script.names) → left ≡ program_of script rank → calls_from l left ≡ calls_of script rank
start_same script rank l left sizes all = sym (λ i. calls_from ((start_held script rank ∙ sym sizes) i) (sym all i))

-- nothing is left where nothing is found
pub nothing_found : {X Y : Type 0} (meant : X → Y) (found : Option X) (left : Option Y) → option_map meant found ≡ left → ((p : X) → found ≡ Some p → ⊥) → left ≡ None
nothing_found meant None left is none = sym is
nothing_found meant (Some p) left is none = absurd (none p refl)
