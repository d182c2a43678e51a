-- Facts of groups by keys: a member's place is its own, every place below the size is taken, and the root
-- is the member at place 0.
use Rattle.std.proofs.Common.{◌≡◌, sym, subst, ◌∙◌, ap, ℕ, ◌<◌, ◌≤◌, Bool, true, length, arith}
use Rattle.std.specs.Prelude.{◌==◌, slice_get, Some, ◌⊎◌}
use Rattle.std.proofs.lemmas.Bool.{cases_order}
use Rattle.std.proofs.lemmas.Bool.Decides.{nat_tests}
use Rattle.std.proofs.Math.Logic.{⊎_elim}
use Rattle.scc_base.specs.Groups.{count_below, is_with, place_in, size_in, members_in, root_in}
use Rattle.scc_base.proofs.Counts.{count_less, count_none, count_found, list_length, list_has, lowest_within, lowest_passes, lowest_least}

-- a rank is with itself, and ranks with equal keys are with the same ranks
pub with_self : (key : ℕ → ℕ) (r : ℕ) → is_with key r r ≡ true
with_self key r = grind (arith, nat_tests)

pub with_true : (key : ℕ → ℕ) (r x : ℕ) → key x ≡ key r → is_with key r x ≡ true
with_true key r x h = grind (arith, nat_tests)

pub true_with : (key : ℕ → ℕ) (r x : ℕ) → is_with key r x ≡ true → key x ≡ key r
true_with key r x h = grind (arith, nat_tests)

pub with_same : (key : ℕ → ℕ) (r q : ℕ) → key r ≡ key q → is_with key r ≡ is_with key q
with_same key r q h = ap {B = ℕ → Bool} (λ (k : ℕ). λ (x : ℕ). key x == k) h

-- a place is below the size of its group
pub place_below : (nue : ℕ) (key : ℕ → ℕ) (r : ℕ) → r < nue → place_in key r < size_in nue key r
place_below nue key r h = count_less (is_with key r) r nue (with_self key r) h

-- the size is that of each member
pub size_same : (nue : ℕ) (key : ℕ → ℕ) (r q : ℕ) → key r ≡ key q → size_in nue key r ≡ size_in nue key q
size_same nue key r q h = ap (λ (test : ℕ → Bool). count_below test nue) (with_same key r q h)

-- members are in rank order
pub place_above : (key : ℕ → ℕ) (r q : ℕ) → key r ≡ key q → r < q → place_in key r < place_in key q
place_above key r q h low =
    let less = count_less (is_with key q) r q (with_true key q r h) low in
    subst (λ (test : ℕ → Bool). count_below test r < place_in key q) (sym (with_same key r q h)) less

-- two members of a group have two places
pub place_once : (key : ℕ → ℕ) (r q : ℕ) → key r ≡ key q → place_in key r ≡ place_in key q → r ≡ q
place_once key r q h same = ⊎_elim
    (λ (is : r ≡ q). is)
    (λ (apart : (r < q) ⊎ (q < r)). ⊎_elim
    (λ (low : r < q). let less = place_above key r q h low in absurd (omega (arith, less, same)))
    (λ (low : q < r). let less = place_above key q r (sym h) low in absurd (omega (arith, less, same)))
    apart)
    (cases_order r q)

-- each place below the size is a member's
pub place_found : (nue : ℕ) (key : ℕ → ℕ) (r i : ℕ) → i < size_in nue key r → (x : ℕ) × (x < nue) × (key x ≡ key r) × (place_in key x ≡ i)
place_found nue key r i h =
    let found = count_found (is_with key r) nue i h in
    let same : key found.0 ≡ key r = true_with key r found.0 found.2 in
    (found.0, found.1, same, subst (λ (test : ℕ → Bool). count_below test found.0 ≡ i) (sym (with_same key found.0 r same)) found.3)

-- the list of members has each member at its place, and no more entries
pub members_length : (nue : ℕ) (key : ℕ → ℕ) (r : ℕ) → length (members_in nue key r) ≡ size_in nue key r
members_length nue key r = list_length (is_with key r) nue

pub member_at_place : (nue : ℕ) (key : ℕ → ℕ) (r x : ℕ) → key x ≡ key r → x < nue → slice_get (members_in nue key r) (place_in key x) ≡ Some x
member_at_place nue key r x h low =
    let has = list_has (is_with key r) nue x (with_true key r x h) low in
    subst (λ (test : ℕ → Bool). slice_get (members_in nue key r) (count_below test x) ≡ Some x) (sym (with_same key x r h)) has

-- the root is in the group, at place 0, and no rank of the group is below it
pub root_with : (key : ℕ → ℕ) (r : ℕ) → key (root_in key r) ≡ key r
root_with key r = true_with key r (root_in key r) (lowest_passes (is_with key r) r (with_self key r))

pub root_within : (key : ℕ → ℕ) (r : ℕ) → root_in key r ≤ r
root_within key r = lowest_within (is_with key r) r

pub root_place : (key : ℕ → ℕ) (r : ℕ) → place_in key (root_in key r) ≡ 0
root_place key r =
    let none = count_none (is_with key r) (root_in key r) (λ x h. lowest_least (is_with key r) r x h) in
    subst (λ (test : ℕ → Bool). count_below test (root_in key r) ≡ 0) (sym (with_same key (root_in key r) r (root_with key r))) none

-- the member at place 0 is the root
pub root_is : (key : ℕ → ℕ) (r q : ℕ) → key q ≡ key r → place_in key q ≡ 0 → q ≡ root_in key r
root_is key r q h zeroth = place_once key q (root_in key r) (h ∙ sym (root_with key r)) (zeroth ∙ sym (root_place key r))

-- a group has one root, and ranks with one root are one group
pub root_once : (key : ℕ → ℕ) (r q : ℕ) → key r ≡ key q → root_in key r ≡ root_in key q
root_once key r q h = root_is key q (root_in key r) (root_with key r ∙ h) (root_place key r)

pub same_root : (key : ℕ → ℕ) (r q : ℕ) → root_in key r ≡ root_in key q → key r ≡ key q
same_root key r q h = sym (root_with key r) ∙ ap key h ∙ root_with key q
