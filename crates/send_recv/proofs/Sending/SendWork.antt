-- How many lines the turns of a send and of a slot load: one at most, and none where they make no try.
use Rattle.std.proofs.Common.{◌≡◌, ℕ, ◌+◌, ◌*◌, ◌≤◌, Bool, true, false, if◌then◌else◌, Option, Some, refl, ap, arith}
use Rattle.scc_base.specs.declared.events.Spot.{Spot}
use Rattle.scc_base.specs.declared.layouts.Layout.{Layout}
use Rattle.scc_base.specs.declared.layouts.Layout.TheVariants.{LineFlags, BitFlags}
use Rattle.send_recv.specs.Receiving.{flag_lines}
use Rattle.send_recv.specs.Turns.{lines_for_try}

-- nothing was loaded, and no line dropped
pub none_work : (events a b x : ℕ) → events ≡ 0 → b ≡ a → events + 4 * a ≤ 4 * b + 4 * x
none_work events a b x none same = omega (arith, none, same)

-- a look loads its line
pub look_work : (events a b : ℕ) (o : Option Spot) (spot : Spot) → o ≡ Some spot → events ≡ 4 → a ≤ b → events + 4 * a ≤ 4 * b + 4 * lines_for_try o
look_work events a b o spot is four le =
    let one : lines_for_try o ≡ 1 = ap lines_for_try is in
    omega (arith, one, four, le)

-- a change of a bit loads its line, and that of a line flag none
pub change_work : (layout : Layout) (done : Bool) (events a b : ℕ) (o : Option Spot) (spot : Spot) → (layout ≡ BitFlags → o ≡ Some spot) → events + 4 * a ≤ 4 * b + 4 * (if done then flag_lines layout else 0)
    → events + 4 * a ≤ 4 * b + 4 * lines_for_try o
change_work LineFlags true events a b o spot is le = omega (arith, le)
change_work LineFlags false events a b o spot is le = omega (arith, le)
change_work BitFlags true events a b o spot is le =
    let one : lines_for_try o ≡ 1 = ap lines_for_try (is refl) in
    omega (arith, one, le)
change_work BitFlags false events a b o spot is le = omega (arith, le)
