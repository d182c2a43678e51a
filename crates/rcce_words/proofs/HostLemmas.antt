-- Lemmas on the lines of a host file, and on lists of cores.
use Rattle.std.proofs.Common.{◌≡◌, ◌≢◌, ◌+◌, ◌-◌, ◌<◌, ◌≤◌, ◌==◌, ◌∙◌, sym, subst, refl, arith, ℕ, Bool, true, false, ◌||◌, List, [], ◌∷◌, ◌++◌, drop, take, length, eqb, Ok, ◌⊎◌, inl, inr, slice_index}
use Rattle.std.specs.List.{IsDistinct, after_first, before_first, list_any, position_or_len, slice_split}
use Rattle.std.proofs.lemmas.Bool.{eq-eqb, eqb-false, eqb-true, le-ltb, lt-ltb}
use Rattle.std.proofs.lemmas.Bool.Decides.{nat_tests}
use Rattle.std.proofs.lemmas.Cmp.{nat_eq_equiv}
use Rattle.std.proofs.lemmas.List.{drop_all, get_or_default, length-append, length-drop, take_all}
use Rattle.std.proofs.lemmas.List.FromFn.{get_or-map-range_with_len, fill_by_all}
use Rattle.std.proofs.lemmas.List.Folds.{list_any-append, list_any-from_Any}
use Rattle.std.proofs.lemmas.List.Splits.{length-slice_split, slice_split_first, slice_split_none}
use Rattle.std.proofs.lemmas.List.Sums.{fails_before_first}
use Rattle.std.proofs.lemmas.Map.Keys.{IsDistinct-push, apart_from_distinct}
use Rattle.std.proofs.lemmas.Map.Steps.{length-le_from_distinct_below}
use Rattle.scc_base.specs.Setups.{AreApart, host_of}
use Rattle.rcce_words.specs.Cores.{AreCores, has_core}
use Rattle.rcce_words.specs.HostFile.{enough, file_lines, host_at, host_list, most_host_bytes, parse_hosts, read_host_lines, without_last}

abbrev pub is_feed : ℕ → Bool
is_feed b = b == 10

-- a part with others behind it is a line
line-before : (part : List ℕ) (parts : List (List ℕ)) → 0 < length parts → without_last (part ∷ parts) ≡ part ∷ without_last parts
line-before part [] h = absurd (omega (arith, h))
line-before part (next ∷ parts) h = refl

-- the first line ends at the first line feed
pub line_cut : (bytes : List ℕ) (end : ℕ) → end ≡ position_or_len is_feed bytes → end < length bytes → file_lines bytes ≡ take end bytes ∷ file_lines (drop (end + 1) bytes)
line_cut bytes end is h =
    rw (is, slice_split_first is_feed bytes 0 (omega (arith, is, h)))
    (line-before (before_first is_feed bytes) (slice_split is_feed (after_first is_feed bytes)) (omega (arith, length-slice_split is_feed (after_first is_feed bytes))))

line-alone : (part : List ℕ) → 0 < length part → without_last (part ∷ []) ≡ part ∷ []
line-alone part h = grind (arith, nat_tests)

-- bytes with no line feed are one line
pub line_last : (bytes : List ℕ) (end : ℕ) → end ≡ position_or_len is_feed bytes → length bytes ≤ end → 0 < length bytes → file_lines bytes ≡ bytes ∷ file_lines (drop end bytes)
line_last bytes end is past some =
    rw (slice_split_none is_feed bytes (λ k d h. fails_before_first is_feed bytes k d (omega (arith, is, past, h))), drop_all end bytes past)
    (line-alone bytes some)

-- a list from a place on, as a slice reads it
pub rest_all : (n : ℕ) (xs : List ℕ) → take (length xs - n) (drop n xs) ≡ drop n xs
rest_all n xs = take_all (length xs - n) (drop n xs) (omega (arith, length-drop n xs))

-- a list that is not empty
pub some_left : (n : ℕ) (b : Bool) → b ≡ eqb n 0 → b ≡ false → 0 < n
some_left n b is h = let other : n ≢ 0 = eqb-false n 0 (sym is ∙ h) in omega (arith, other)

has-cases : (a b : Bool) → (a || (b || false)) ≡ true → (a ≡ true) ⊎ (b ≡ true)
has-cases true b h = inl refl
has-cases false true h = inr refl
has-cases false false h = cc

below-push : (core : ℕ) (cores : List ℕ) → AreCores cores → core < 48 → (c : ℕ) → has_core c (cores ++ core ∷ []) ≡ true → c < 48
below-push core cores h low c has =
    elim (has-cases (has_core c cores) (eqb c core) (sym (list_any-append (eqb c) cores (core ∷ [])) ∙ has))
    [ inl old ↦ h.below c old | inr same ↦ omega (arith, eqb-true c core same, low) ]

-- one more core, which is none of them
pub push_core : (core : ℕ) (cores : List ℕ) → AreCores cores → has_core core cores ≡ false → core < 48 → AreCores (cores ++ core ∷ [])
push_core core cores h new low = record { distinct = IsDistinct-push nat_eq_equiv cores core h.distinct new; below = below-push core cores h low }

-- the chip has room for one more
pub has_room : (core : ℕ) (cores : List ℕ) → AreCores cores → has_core core cores ≡ false → core < 48 → length cores < 48
has_room core cores h new low =
    let more = push_core core cores h new low in
    omega (arith, length-append cores (core ∷ []), length-le_from_distinct_below (cores ++ core ∷ []) 48 more.distinct more.below)

-- no core yet
pub no_cores : AreCores []
unfolding IsDistinct
no_cores = record { distinct = tt; below = λ core has. cc }

-- each of them is a core of the chip
pub core_below : (cores : List ℕ) → AreCores cores → (i : ℕ) → i < length cores → slice_index cores i < 48
core_below cores h i low = h.below (slice_index cores i) (list_any-from_Any (eqb (slice_index cores i)) cores (i, slice_index cores i, low, get_or_default cores i (slice_index cores i) 0 low, eq-eqb _ _ refl))

flips : (core : ℕ) (cores : List ℕ) → list_any (λ c. eqb c core) cores ≡ list_any (eqb core) cores
flips core [] = refl
flips core (c ∷ cores) = rw (nat_eq_equiv.symm c core, flips core cores) refl

-- the cores of the first ranks differ
host_first : (nue : ℕ) (cores : List ℕ) → nue ≤ 48 → (r : ℕ) → r < nue → host_of (host_list nue cores) r ≡ slice_index cores r
host_first nue cores most r h =
    get_or-map-range_with_len (host_at nue cores) 0 48 r r 0 (omega (arith, most, h)) (omega arith)
    ∙ rw (lt-ltb r nue h) refl

pub hosts_apart : (nue : ℕ) (cores : List ℕ) → nue ≤ 48 → nue ≤ length cores → AreCores cores → AreApart nue (host_list nue cores)
hosts_apart nue cores most enough h r q before below same =
    let alike = sym (host_first nue cores most r (omega (arith, before, below))) ∙ same ∙ host_first nue cores most q below in
    let apart = apart_from_distinct eqb cores r q 0 h.distinct before (omega (arith, below, enough)) in
    cc (apart, eq-eqb _ _ alike)

-- the hosts, by rank
pub hosts_filled : (nue : ℕ) (cores hosts : List ℕ) → length hosts ≡ 48 → ((k : ℕ) → k < 48 → slice_index hosts k ≡ host_at nue cores k) → hosts ≡ host_list nue cores
hosts_filled nue cores hosts all each = fill_by_all (host_at nue cores) hosts 48 0 all each

pub filled_apart : (nue : ℕ) (cores hosts : List ℕ) → length hosts ≡ 48 → ((k : ℕ) → k < 48 → slice_index hosts k ≡ host_at nue cores k)
    → nue ≤ 48 → nue ≤ length cores → AreCores cores → AreApart nue hosts
filled_apart nue cores hosts all each most enough h = subst (λ (xs : List ℕ). AreApart nue xs) (sym (hosts_filled nue cores hosts all each)) (hosts_apart nue cores most enough h)

-- the hosts of a file with enough cores
pub hosts_said : (nue : ℕ) (bytes cores hosts : List ℕ) → length bytes ≤ most_host_bytes → read_host_lines 0 [] (file_lines bytes) ≡ Ok cores →
    nue ≤ length cores → hosts ≡ host_list nue cores → Ok hosts ≡ parse_hosts bytes nue
hosts_said nue bytes cores hosts few read many is =
    rw (le-ltb most_host_bytes (length bytes) few, read, le-ltb (length cores) nue many, is) refl
