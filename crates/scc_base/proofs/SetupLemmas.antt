-- What a setup's readers answer, from the tables that it keeps.
use Rattle.std.proofs.Common.{◌≡◌, refl, subst, ◌∙◌, ap, ℕ, ◌<◌, ◌≤◌, List, arith, slice_index, slice_get, Some, None, Bool, Option}
use Rattle.std.specs.Prelude.{◌==◌, ◌↔◌, IfSome, IsSome, is_some, slice_index_or}
use Rattle.std.proofs.lemmas.Bool.{cases_lt}
use Rattle.std.proofs.Math.Logic.{⊎_elim}
use Rattle.scc_base.specs.Groups.{is_with, size_in, members_in}
use Rattle.scc_base.specs.Setups.{SetupView, IsSetup, IsMemberAt, setup_key, size_of, members_of, root_of, place_of}
use Rattle.scc_base.specs.Tables.{ShowsGroup, ShowAll, no_table}
use Rattle.scc_base.specs.declared.communicators.Grouping.{Grouping}
use Rattle.scc_base.proofs.Counts.{count_same, list_same, list_past}
use Rattle.scc_base.proofs.GroupFacts.{place_below, member_at_place, place_found, root_with, root_within, root_place}
use Rattle.scc_base.proofs.TableLemmas.{root_test}

-- the table's roots tell the groups
pub roots_test : (key : ℕ → ℕ) (table : Grouping) → ShowsGroup key table → (r q : ℕ) → r < 48 → q < 48
    → (slice_index table.roots r == slice_index table.roots q) ≡ (key r == key q)
roots_test key table shown r q hr hq = rw (shown.roots r hr, shown.roots q hq) (root_test key r q)

pub size_shown : (nue : ℕ) (key : ℕ → ℕ) (table : Grouping) → ShowsGroup key table → nue ≤ 48 → (r : ℕ) → r < 48
    → size_in nue (λ x. slice_index table.roots x) r ≡ size_in nue key r
size_shown nue key table shown ranks r h =
    count_same (is_with (λ x. slice_index table.roots x) r) (is_with key r) nue (λ x low. roots_test key table shown x r (omega (arith, low, ranks)) h)

pub members_shown : (nue : ℕ) (key : ℕ → ℕ) (table : Grouping) → ShowsGroup key table → nue ≤ 48 → (r : ℕ) → r < 48
    → members_in nue (λ x. slice_index table.roots x) r ≡ members_in nue key r
members_shown nue key table shown ranks r h =
    list_same (is_with (λ x. slice_index table.roots x) r) (is_with key r) nue (λ x low. roots_test key table shown x r (omega (arith, low, ranks)) h)

-- the entry of the list of members at a place below the size is the member there
pub member_there : (s : SetupView) (comm r i : ℕ) → i < size_of s comm r → (m : ℕ) × (slice_get (members_of s comm r) i ≡ Some m) × IsMemberAt s comm r i m
member_there s comm r i h =
    let found = place_found s.nue (setup_key s comm) r i h in (
      found.0,
      subst (λ (k : ℕ). slice_get (members_of s comm r) k ≡ Some found.0) found.3 (member_at_place s.nue (setup_key s comm) r found.0 found.2 found.1),
      record { below = found.1; grouped = found.2; placed = found.3 },
    )

pub none_there : (s : SetupView) (comm r i : ℕ) → size_of s comm r ≤ i → slice_get (members_of s comm r) i ≡ None
none_there s comm r i h = list_past (is_with (setup_key s comm) r) s.nue i h

-- an answer is the entry of the list: there is one exactly below the size, and it is the member there
pub entry_found : (s : SetupView) (comm r i : ℕ) → IsSome (slice_get (members_of s comm r) i) ↔ (i < size_of s comm r)
entry_found s comm r i = ⊎_elim
    (λ (low : i < size_of s comm r). let m = member_there s comm r i low in
    (λ _. low, λ _. rw m.1 refl))
    (λ (high : size_of s comm r ≤ i).
    let none = none_there s comm r i high in
    (λ some. absurd (cc (some, ap {B = Bool} is_some none)), λ low. absurd (omega (arith, low, high))))
    (cases_lt i (size_of s comm r))

pub entry_placed : (s : SetupView) (comm r i : ℕ) → IfSome (slice_get (members_of s comm r) i) (λ m. IsMemberAt s comm r i m)
entry_placed s comm r i = ⊎_elim
    (λ (low : i < size_of s comm r). let m = member_there s comm r i low in rw m.1 m.2)
    (λ (high : size_of s comm r ≤ i). rw (none_there s comm r i high) tt)
    (cases_lt i (size_of s comm r))

-- the root is the member at place 0
pub root_placed : (s : SetupView) (comm r : ℕ) → r < s.nue → IsMemberAt s comm r 0 (root_of s comm r)
root_placed s comm r h =
    let low = root_within (setup_key s comm) r in
    record { below = omega (arith, low, h); grouped = root_with (setup_key s comm) r; placed = root_place (setup_key s comm) r }

-- from here on t is the setup as its fields show it, with the tables that it keeps, and s the same setup
pub size_answer : (t s : SetupView) → t ≡ s → (groups : List Grouping) → IsSetup t → ShowAll t.comms 16 groups → (comm r q n : ℕ) → comm < 16
    → q ≡ r → r < 48 → n ≡ size_in t.nue (λ x. slice_index (slice_index_or groups comm no_table).roots x) q → n ≡ size_of s comm r
size_answer t s same groups valid shown comm r q n top is low given =
    subst (λ (u : SetupView). n ≡ size_of u comm r) same
    (subst (λ (k : ℕ). n ≡ size_in t.nue (λ x. slice_index (slice_index_or groups comm no_table).roots x) k) is given
    ∙ size_shown t.nue (setup_key t comm) (slice_index_or groups comm no_table) (shown comm top) valid.ranks_within r low)

pub members_answer : (t s : SetupView) → t ≡ s → (groups : List Grouping) → IsSetup t → ShowAll t.comms 16 groups → (comm r q i : ℕ) (o : Option ℕ) → comm < 16
    → q ≡ r → r < 48 → o ≡ slice_get (members_in t.nue (λ x. slice_index (slice_index_or groups comm no_table).roots x) q) i → o ≡ slice_get (members_of s comm r) i
members_answer t s same groups valid shown comm r q i o top is low given =
    subst (λ (u : SetupView). o ≡ slice_get (members_of u comm r) i) same
    (subst (λ (k : ℕ). o ≡ slice_get (members_in t.nue (λ x. slice_index (slice_index_or groups comm no_table).roots x) k) i) is given
    ∙ ap (λ (xs : List ℕ). slice_get xs i) (members_shown t.nue (setup_key t comm) (slice_index_or groups comm no_table) (shown comm top) valid.ranks_within r low))

pub place_answer : (t s : SetupView) → t ≡ s → (groups : List Grouping) → ShowAll t.comms 16 groups → (comm r q : ℕ) → comm < 16
    → q ≡ r → r < 48 → slice_index (slice_index_or groups comm no_table).places q ≡ place_of s comm r
place_answer t s same groups shown comm r q top is low =
    subst (λ (u : SetupView). slice_index (slice_index_or groups comm no_table).places q ≡ place_of u comm r) same
    (rw is ((shown comm top).places r low))

pub root_answer : (t s : SetupView) → t ≡ s → (groups : List Grouping) → ShowAll t.comms 16 groups → (comm r q : ℕ) → comm < 16
    → q ≡ r → r < 48 → slice_index (slice_index_or groups comm no_table).roots q ≡ root_of s comm r
root_answer t s same groups shown comm r q top is low =
    subst (λ (u : SetupView). slice_index (slice_index_or groups comm no_table).roots q ≡ root_of u comm r) same
    (rw is ((shown comm top).roots r low))

pub root_low : (s : SetupView) (comm r : ℕ) → r < 48 → root_of s comm r < 48
root_low s comm r h = let low = root_within (setup_key s comm) r in omega (arith, low, h)

pub place_low : (s : SetupView) (comm r : ℕ) → r < s.nue → place_of s comm r < size_of s comm r
place_low s comm r h = place_below s.nue (setup_key s comm) r h
