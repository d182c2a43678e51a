-- What the links of the mesh carry, each and all together.
use Rattle.std.proofs.Common.{◌≡◌, ◌≢◌, ℕ, zero, suc, ◌+◌, ◌-◌, ◌*◌, ◌==◌, ◌<◌, Bool, true, false, ◌&&◌, cond, List, [], ◌∷◌, length, All, Some, get_or, set, slice_get, take, refl, sym, ap, ◌∙◌, subst, arith, sum_by, ⊎_elim}
use Rattle.std.proofs.lemmas.Bool.{cases_eq, eqb-true}
use Rattle.std.proofs.lemmas.List.Sums.{sum_by-cons, sum_by_more}
use Rattle.std.proofs.lemmas.Option.{get_or_from_slice_get, slice_get_within}
use Rattle.mesh_load.specs.Mesh.{Link, Tile, all_links, lines_over_link, mesh_core_of, distance, distance_of, holds, lines_moved, route, route_of, tile_of}
use Rattle.mesh_load.specs.Tables.{IsPlaced, Loads, load_on, sum_where, column_cell, in_column, in_row, pair_place, passes_column, passes_row, row_cell}
use Rattle.mesh_load.proofs.RouteLaws.{column_place, row_place, shared}
use Rattle.mesh_load.proofs.TableLaws.{chosen-set}
use Rattle.script_plain.specs.declared.matches.Match.{Match}

-- sums of equal terms, and of terms of two parts
sum_by-same : {X : Type 0} (f g : X → ℕ) → ((x : X) → f x ≡ g x) → (xs : List X) → sum_by f xs ≡ sum_by g xs
sum_by-same f g same [] = refl
sum_by-same f g same (x ∷ xs) =
    sum_by-cons f x xs ∙ ap (λ (n : ℕ). n + sum_by f xs) (same x) ∙ ap (λ (n : ℕ). g x + n) (sum_by-same f g same xs) ∙ sym (sum_by-cons g x xs)

parts-sum : {X : Type 0} (P : X → Type 0) (f g h : X → ℕ) → ((x : X) → P x → h x ≡ f x + g x) → (xs : List X) → All P xs → sum_by h xs ≡ sum_by f xs + sum_by g xs
parts-sum P f g h part [] all = refl
parts-sum P f g h part (x ∷ xs) all =
    omega (
      arith,
      sum_by-cons f x xs,
      sum_by-cons g x xs,
      sum_by-cons h x xs,
      part x (all 0 x (omega arith)),
      parts-sum P f g h part xs (λ k d within. all (suc k) d (omega (arith, within))),
    )

two_sums : {X : Type 0} (f g h : X → ℕ) → ((x : X) → h x ≡ f x + g x) → (xs : List X) → sum_by h xs ≡ sum_by f xs + sum_by g xs
two_sums f g h part [] = refl
two_sums f g h part (x ∷ xs) =
    omega (arith, sum_by-cons f x xs, sum_by-cons g x xs, sum_by-cons h x xs, part x, two_sums f g h part xs)

times_by : (b : Bool) (n : ℕ) → cond b n 0 ≡ n * cond b 1 0
times_by true n = omega arith
times_by false n = omega arith

-- n for each that passes
times : {X : Type 0} (p : X → Bool) (n : ℕ) (xs : List X) → sum_by (λ x. cond (p x) n 0) xs ≡ n * sum_by (λ x. cond (p x) 1 0) xs
times p n [] = omega arith
times p n (x ∷ xs) =
    sum_by-cons (λ y. cond (p y) n 0) x xs
    ∙ ap (λ (k : ℕ). k + sum_by (λ y. cond (p y) n 0) xs) (times_by (p x) n)
    ∙ ap (λ (k : ℕ). n * cond (p x) 1 0 + k) (times p n xs)
    ∙ joined n (cond (p x) 1 0) (sum_by (λ y. cond (p y) 1 0) xs)
    ∙ ap (λ (k : ℕ). n * k) (sym (sum_by-cons (λ y. cond (p y) 1 0) x xs))
  where
    joined : (n a b : ℕ) → n * a + n * b ≡ n * (a + b)
    joined n a b = grind arith

-- a test of each number below n
abbrev all_below : (ℕ → Bool) → ℕ → Bool
all_below p zero = true
all_below p (suc n) = p n && all_below p n

first_of : (a b : Bool) → (a && b) ≡ true → a ≡ true
first_of true b is = refl
first_of false b is = absurd (cc)

second_of : (a b : Bool) → (a && b) ≡ true → b ≡ true
second_of true b is = is
second_of false b is = absurd (cc)

at_below : (p : ℕ → Bool) (n k : ℕ) → all_below p n ≡ true → k < n → p k ≡ true
at_below p zero k all below = absurd (omega (arith, below))
at_below p (suc n) k all below =
    ⊎_elim
    (λ (same : k ≡ n). subst (λ (m : ℕ). p m ≡ true) (sym same) (first_of (p n) (all_below p n) all))
    (λ (other : k ≢ n). at_below p n k (second_of (p n) (all_below p n) all) (omega (arith, below, other)))
    (cases_eq k n)

-- how many links of the mesh a way along a row takes, and one along a column

abbrev row_links : ℕ → ℕ → ℕ → ℕ
row_links y a b = sum_by (λ link. cond (passes_row link y a b link.dir) 1 0) all_links

abbrev column_links : ℕ → ℕ → ℕ → ℕ
column_links x a b = sum_by (λ link. cond (passes_column link x a b link.dir) 1 0) all_links

rows_checked : all_below (λ y. all_below (λ a. all_below (λ b. row_links y a b == (b - a) + (a - b)) 6) 6) 4 ≡ true
rows_checked = refl

columns_checked : all_below (λ x. all_below (λ a. all_below (λ b. column_links x a b == (b - a) + (a - b)) 4) 4) 6 ≡ true
columns_checked = refl

row_counted : (y a b : ℕ) → y < 4 → a < 6 → b < 6 → row_links y a b ≡ (b - a) + (a - b)
row_counted y a b low first second =
    eqb-true (row_links y a b) ((b - a) + (a - b))
    (at_below (λ k. row_links y a k == (k - a) + (a - k)) 6 b
    (at_below (λ m. all_below (λ k. row_links y m k == (k - m) + (m - k)) 6) 6 a
    (at_below (λ z. all_below (λ m. all_below (λ k. row_links z m k == (k - m) + (m - k)) 6) 6) 4 y rows_checked low) first) second)

column_counted : (x a b : ℕ) → x < 6 → a < 4 → b < 4 → column_links x a b ≡ (b - a) + (a - b)
column_counted x a b low first second =
    eqb-true (column_links x a b) ((b - a) + (a - b))
    (at_below (λ k. column_links x a k == (k - a) + (a - k)) 4 b
    (at_below (λ m. all_below (λ k. column_links x m k == (k - m) + (m - k)) 4) 4 a
    (at_below (λ z. all_below (λ m. all_below (λ k. column_links z m k == (k - m) + (m - k)) 4) 4) 6 x columns_checked low) first) second)

-- a route takes as many links of the mesh as its tiles are apart
counted : (from to : ℕ) → from < 48 → to < 48 → sum_by (λ link. cond (holds link (route (tile_of from) (tile_of to))) 1 0) all_links ≡ distance (tile_of from) (tile_of to)
counted from to below other =
    let a : Tile = tile_of from in
    let b : Tile = tile_of to in
    two_sums (λ link. cond (passes_row link a.y a.x b.x link.dir) 1 0) (λ link. cond (passes_column link b.x a.y b.y link.dir) 1 0)
    (λ link. cond (holds link (route a b)) 1 0) (λ link. shared link a b 1) all_links
    ∙ ap (λ (n : ℕ). n + column_links b.x a.y b.y) (row_counted a.y a.x b.x (omega arith) (omega arith) (omega arith))
    ∙ ap (λ (n : ℕ). (b.x - a.x) + (a.x - b.x) + n) (column_counted b.x a.y b.y (omega arith) (omega arith) (omega arith))

-- all links carry the lines of a message as often as its route is long
alone : (at : List ℕ) (one : Match) → IsPlaced at one → sum_by (λ link. cond (holds link (route_of at one)) (lines_moved one.head.len) 0) all_links ≡ lines_moved one.head.len * distance_of at one
alone at one placed =
    times (λ link. holds link (route_of at one)) (lines_moved one.head.len) all_links
    ∙ ap (λ (n : ℕ). lines_moved one.head.len * n) (counted (mesh_core_of at one.from) (mesh_core_of at one.to) placed.from placed.to)

none : (at : List ℕ) (links : List Link) → sum_by (lines_over_link at []) links ≡ 0
none at [] = refl
none at (link ∷ links) = omega (arith, sum_by-cons (lines_over_link at []) link links, none at links)

pub together : (at : List ℕ) (matches : List Match) → All (IsPlaced at) matches → sum_by (lines_over_link at matches) all_links ≡ sum_by (λ one. lines_moved one.head.len * distance_of at one) matches
together at [] all = none at all_links
together at (one ∷ matches) all =
    two_sums (λ link. cond (holds link (route_of at one)) (lines_moved one.head.len) 0) (lines_over_link at matches) (lines_over_link at (one ∷ matches))
    (λ link. sum_by-cons (λ other. cond (holds link (route_of at other)) (lines_moved other.head.len) 0) one matches) all_links
    ∙ ap (λ (n : ℕ). n + sum_by (lines_over_link at matches) all_links) (alone at one (all 0 one (omega arith)))
    ∙ ap (λ (n : ℕ). lines_moved one.head.len * distance_of at one + n) (together at matches (λ k d within. all (suc k) d (omega (arith, within))))
    ∙ sym (sum_by-cons (λ other. lines_moved other.head.len * distance_of at other) one matches)

-- the tables say what each link carries
pub each : (at : List ℕ) (matches : List Match) (pairs rows columns : List ℕ) → All (IsPlaced at) matches
    → ((test : ℕ → Bool) → sum_where test pairs ≡ sum_by (λ one. cond (test (pair_place at one)) (lines_moved one.head.len) 0) matches)
    → ((test : ℕ → Bool) → sum_where test rows ≡ sum_where (λ pair. test (row_cell pair)) pairs)
    → ((test : ℕ → Bool) → sum_where test columns ≡ sum_where (λ pair. test (column_cell pair)) pairs)
    → (link : Link) → sum_where (in_row link) rows + sum_where (in_column link) columns ≡ lines_over_link at matches link
each at matches pairs rows columns placed of_pairs of_rows of_columns link =
    let along : Match → ℕ = λ one. cond (in_row link (row_cell (pair_place at one))) (lines_moved one.head.len) 0 in
    let across : Match → ℕ = λ one. cond (in_column link (column_cell (pair_place at one))) (lines_moved one.head.len) 0 in
    ap (λ (n : ℕ). n + sum_where (in_column link) columns) (of_rows (in_row link) ∙ of_pairs (λ pair. in_row link (row_cell pair)))
    ∙ ap (λ (n : ℕ). sum_by along matches + n) (of_columns (in_column link) ∙ of_pairs (λ pair. in_column link (column_cell pair)))
    ∙ sym (parts-sum (IsPlaced at) along across (λ one. cond (holds link (route_of at one)) (lines_moved one.head.len) 0) both matches placed)
  where
    both : (one : Match) → IsPlaced at one → cond (holds link (route_of at one)) (lines_moved one.head.len) 0
        ≡ cond (in_row link (row_cell (pair_place at one))) (lines_moved one.head.len) 0 + cond (in_column link (column_cell (pair_place at one))) (lines_moved one.head.len) 0
    both one is =
        let n : ℕ = lines_moved one.head.len in
        let from : ℕ = mesh_core_of at one.from in
        let to : ℕ = mesh_core_of at one.to in
        shared link (tile_of from) (tile_of to) n
        ∙ ap (λ (p : Bool). cond p n 0 + cond (passes_column link (tile_of to).x (tile_of from).y (tile_of to).y link.dir) n 0) (sym (row_place link from to is.from is.to))
        ∙ ap (λ (p : Bool). cond (in_row link (row_cell (pair_place at one))) n 0 + cond p n 0) (sym (column_place link from to is.from is.to))

-- and all together
pub whole : (at : List ℕ) (matches : List Match) (loads : Loads) → All (IsPlaced at) matches → ((link : Link) → load_on loads link ≡ lines_over_link at matches link)
    → sum_by (load_on loads) all_links ≡ sum_by (λ one. lines_moved one.head.len * distance_of at one) matches
whole at matches loads placed is = sum_by-same (load_on loads) (lines_over_link at matches) is all_links ∙ together at matches placed

-- one message more in the table of pairs
module _ (at : List ℕ) (matches : List Match) (pairs : List ℕ) (i k v : ℕ) (one : Match) (here : slice_get matches i ≡ Some one) (there : k < length pairs) (is : k ≡ pair_place at one) (moves : v ≡ lines_moved one.head.len) where
  pub added_pair : ((test : ℕ → Bool) → sum_where test pairs ≡ sum_by (λ other. cond (test (pair_place at other)) (lines_moved other.head.len) 0) (take i matches))
      → (test : ℕ → Bool) → sum_where test (set pairs k (get_or pairs k 0 + v)) ≡ sum_by (λ other. cond (test (pair_place at other)) (lines_moved other.head.len) 0) (take (i + 1) matches)
  added_pair so_far test =
      let f : Match → ℕ = λ other. cond (test (pair_place at other)) (lines_moved other.head.len) 0 in
      chosen-set test pairs k v there
      ∙ ap (λ (n : ℕ). n + cond (test k) v 0) (so_far test)
      ∙ ap (λ (place : ℕ). sum_by f (take i matches) + cond (test place) v 0) is
      ∙ ap (λ (n : ℕ). sum_by f (take i matches) + cond (test (pair_place at one)) n 0) moves
      ∙ ap (λ (other : Match). sum_by f (take i matches) + f other) (sym (get_or_from_slice_get matches i one one here))
      ∙ sym (sum_by_more f matches i one (slice_get_within matches i one here))

  pub placed_more : IsPlaced at one → ((j : ℕ) (d : Match) → j < i → IsPlaced at (get_or matches j d)) → (j : ℕ) (d : Match) → j < i + 1 → IsPlaced at (get_or matches j d)
  placed_more now before j d below =
      ⊎_elim
      (λ (same : j ≡ i). subst (IsPlaced at) (sym (ap (λ (m : ℕ). get_or matches m d) same ∙ get_or_from_slice_get matches i one d here)) now)
      (λ (other : j ≢ i). before j d (omega (arith, below, other)))
      (cases_eq j i)
