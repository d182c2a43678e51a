-- How the tables of groups grow, and that they are those of the keys.
use Rattle.std.proofs.Common.{◌≡◌, refl, sym, subst, ◌∙◌, ap, ℕ, ◌+◌, ◌*◌, ◌/◌, ◌%◌, ◌<◌, ◌≤◌, List, length, arith, slice_index, slice_index_or, slice_set, Bool, true, false}
use Rattle.std.specs.Prelude.{◌==◌, ◌&&◌, ◌≢◌, ◌⊎◌}
use Rattle.std.proofs.lemmas.List.{get_or-set_same, get_or-set_other}
use Rattle.std.proofs.lemmas.Bool.Decides.{nat_tests, eqb_tells}
use Rattle.std.proofs.Math.Logic.{⊎_elim}
use Rattle.scc_base.specs.Groups.{place_in, root_in, is_with}
use Rattle.scc_base.specs.Tables.{ShowsGroup, ShowAll, HasKeys, no_table}
use Rattle.scc_base.specs.Communicators.{rule_of, key_under, key_of, IsRule, AreRules}
use Rattle.scc_base.specs.declared.communicators.CommRule.{CommRule}
use Rattle.scc_base.specs.declared.communicators.CommRule.TheVariants.{Absent, World, Mod, Div}
use Rattle.scc_base.specs.declared.communicators.Grouping.{Grouping}
use Rattle.scc_base.proofs.Counts.{count_same, lowest_same, count_within}
use Rattle.scc_base.proofs.GroupFacts.{root_once, same_root}
use Rattle.scc_base.proofs.KeyLemmas.{key_of_is}

-- a table that is right below n is right below n + 1 once entry n is set
pub set_next : (xs : List ℕ) (n v : ℕ) (f : ℕ → ℕ) → n < length xs → ((x : ℕ) → x < n → slice_index xs x ≡ f x) → v ≡ f n
    → (x : ℕ) → x < n + 1 → slice_index (slice_set xs n v) x ≡ f x
set_next xs n v f long before here x h = grind (arith, get_or-set_same, get_or-set_other, before x)

-- ranks have one root exactly where they have one key
pub root_test : (key : ℕ → ℕ) (r q : ℕ) → (root_in key r == root_in key q) ≡ (key r == key q)
root_test key r q = ⊎_elim
    (λ (x : ((key r == key q) ≡ true) × (key r ≡ key q)). let one = root_once key r q x.1 in grind (arith, nat_tests, one, x.0))
    (λ (x : ((key r == key q) ≡ false) × (key r ≢ key q)).
    let other : root_in key r ≢ root_in key q = λ h. x.1 (same_root key r q h) in grind (arith, nat_tests, other, x.0))
    (eqb_tells (key r) (key q))

-- a place is no greater than the rank
pub place_within : (key : ℕ → ℕ) (r : ℕ) → place_in key r ≤ r
place_within key r = count_within (is_with key r) r

-- the tables of the labels are those of the keys that the labels tell
pub shows_keys : (key : ℕ → ℕ) (labels : List ℕ) (table : Grouping) → HasKeys key labels → ShowsGroup (λ x. slice_index labels x) table → ShowsGroup key table
shows_keys key labels table tells shown = record {
  roots = λ r h. shown.roots r h ∙ lowest_same (is_with (λ x. slice_index labels x) r) (is_with key r) r (λ x low. tells x r (omega (arith, h, low)) h);
  places = λ r h. shown.places r h ∙ count_same (is_with (λ x. slice_index labels x) r) (is_with key r) r (λ x low. tells x r (omega (arith, h, low)) h);
}

-- two numbers in one: the first and a second below 48
pub pair_test : (a b x y : ℕ) → x < 48 → y < 48 → (48 * a + x == 48 * b + y) ≡ ((a == b) && (x == y))
pair_test a b x y hx hy = grind (arith, nat_tests)

-- labels of roots and colours tell the keys of a split
pub labels_tell : (key parent : ℕ → ℕ) (colour : ℕ → ℕ) (labels : List ℕ)
    → ((r : ℕ) → r < 48 → key r ≡ 48 * parent r + colour r)
    → ((r : ℕ) → r < 48 → slice_index labels r ≡ 48 * root_in parent r + colour r)
    → ((r : ℕ) → r < 48 → colour r < 48) → HasKeys key labels
labels_tell key parent colour labels keyed labelled below r q hr hq =
    let l : (slice_index labels r == slice_index labels q) ≡ (48 * root_in parent r + colour r == 48 * root_in parent q + colour q) =
    rw (labelled r hr, labelled q hq) refl in
    let k : (key r == key q) ≡ (48 * parent r + colour r == 48 * parent q + colour q) = rw (keyed r hr, keyed q hq) refl in
    let test = root_test parent r q in
    l ∙ pair_test (root_in parent r) (root_in parent q) (colour r) (colour q) (below r hr) (below q hq)
    ∙ ap (λ (b : Bool). b && (colour r == colour q)) test
    ∙ sym (pair_test (parent r) (parent q) (colour r) (colour q) (below r hr) (below q hq)) ∙ sym k

-- where a communicator is the world, or stands not, all labels equal tell its keys
pub world_shows : (comms : List CommRule) → AreRules comms → (comm : ℕ) → comm < 16 → (rule_of comms comm ≡ Absent) ⊎ (rule_of comms comm ≡ World)
    → (labels : List ℕ) (table : Grouping) → ((r : ℕ) → r < 48 → slice_index labels r ≡ 0)
    → ShowsGroup (λ x. slice_index labels x) table → ShowsGroup (key_of comms comm) table
world_shows comms rules comm top either labels table flat shown =
    let one : (r : ℕ) → key_of comms comm r ≡ 0 = λ r. key_of_is comms rules comm top r ∙ ⊎_elim
    (λ (is : rule_of comms comm ≡ Absent). ap (λ (rule : CommRule). key_under rule (key_of comms) r) is)
    (λ (is : rule_of comms comm ≡ World). ap (λ (rule : CommRule). key_under rule (key_of comms) r) is)
    either in
    shows_keys (key_of comms comm) labels table (λ r q hr hq. rw (flat r hr, flat q hq, one r, one q) refl) shown

-- under a split, labels of the parent's roots and the colours tell the keys
split_shows : (comms : List CommRule) (comm parent : ℕ) (groups : List Grouping) → parent < comm → ShowAll comms comm groups
    → (colour : ℕ → ℕ) → ((place : ℕ) → place < 48 → colour place < 48)
    → ((r : ℕ) → r < 48 → key_of comms comm r ≡ 48 * key_of comms parent r + colour (place_in (key_of comms parent) r))
    → (labels : List ℕ) (table : Grouping)
    → ((r : ℕ) → r < 48 → slice_index labels r ≡ 48 * slice_index (slice_index_or groups parent no_table).roots r + colour (slice_index (slice_index_or groups parent no_table).places r))
    → ShowsGroup (λ x. slice_index labels x) table → ShowsGroup (key_of comms comm) table
split_shows comms comm parent groups below all colour small keyed labels table labelled shown =
    let up = all parent below in
    shows_keys (key_of comms comm) labels table
    (labels_tell (key_of comms comm) (key_of comms parent) (λ r. colour (place_in (key_of comms parent) r)) labels keyed
    (λ r h. labelled r h ∙ rw (up.roots r h, up.places r h) refl)
    (λ r h. let low = place_within (key_of comms parent) r in small (place_in (key_of comms parent) r) (omega (arith, low, h))))
    shown

pub remainder_small : (k place : ℕ) → 1 ≤ k → k ≤ 48 → place % k < 48
remainder_small k place some most = let low : place % k < k = omega arith in omega (arith, low, most)

pub quotient_small : (k place : ℕ) → 1 ≤ k → place < 48 → place / k < 48
quotient_small k place some most = grind arith

pub mod_shows : (comms : List CommRule) → AreRules comms → (comm : ℕ) → comm < 16 → (parent k : ℕ) → rule_of comms comm ≡ Mod parent k
    → (groups : List Grouping) → ShowAll comms comm groups → (labels : List ℕ) (table : Grouping)
    → ((r : ℕ) → r < 48 → slice_index labels r ≡ 48 * slice_index (slice_index_or groups parent no_table).roots r + slice_index (slice_index_or groups parent no_table).places r % k)
    → ShowsGroup (λ x. slice_index labels x) table → ShowsGroup (key_of comms comm) table
mod_shows comms rules comm top parent k is groups all labels table labelled shown =
    let rule : IsRule comms comm (Mod parent k) = subst (λ (rule : CommRule). IsRule comms comm rule) is (rules comm top) in
    split_shows comms comm parent groups rule.0 all (λ place. place % k) (λ place h. remainder_small k place rule.2 rule.3)
    (λ r h. key_of_is comms rules comm top r ∙ ap (λ (rule : CommRule). key_under rule (key_of comms) r) is) labels table labelled shown

pub div_shows : (comms : List CommRule) → AreRules comms → (comm : ℕ) → comm < 16 → (parent k : ℕ) → rule_of comms comm ≡ Div parent k
    → (groups : List Grouping) → ShowAll comms comm groups → (labels : List ℕ) (table : Grouping)
    → ((r : ℕ) → r < 48 → slice_index labels r ≡ 48 * slice_index (slice_index_or groups parent no_table).roots r + slice_index (slice_index_or groups parent no_table).places r / k)
    → ShowsGroup (λ x. slice_index labels x) table → ShowsGroup (key_of comms comm) table
div_shows comms rules comm top parent k is groups all labels table labelled shown =
    let rule : IsRule comms comm (Div parent k) = subst (λ (rule : CommRule). IsRule comms comm rule) is (rules comm top) in
    split_shows comms comm parent groups rule.0 all (λ place. place / k) (λ place h. quotient_small k place rule.2 h)
    (λ r h. key_of_is comms rules comm top r ∙ ap (λ (rule : CommRule). key_under rule (key_of comms) r) is) labels table labelled shown
