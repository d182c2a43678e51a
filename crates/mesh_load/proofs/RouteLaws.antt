-- Which links a route holds.
use Rattle.std.proofs.Common.{◌≡◌, ℕ, zero, suc, ◌+◌, ◌-◌, ◌*◌, ◌/◌, ◌%◌, ◌==◌, ◌<◌, Bool, true, false, ◌&&◌, ◌||◌, cond, List, ◌++◌, refl, ap, ◌∙◌, arith, nat_le, nat_lt}
use Rattle.std.specs.List.{list_any}
use Rattle.std.proofs.lemmas.Bool.Decides.{nat_tests}
use Rattle.std.proofs.lemmas.List.Folds.{list_any-append}
use Rattle.std.proofs.lemmas.Nat.{div-mul-add, mod-mul-add}
use Rattle.mesh_load.specs.declared.links.Dir.{Dir}
use Rattle.mesh_load.specs.declared.links.Dir.TheVariants.{East, West, North, South}
use Rattle.mesh_load.specs.Mesh.{Link, Tile, holds, links_from, neighbour, route, same_dir, same_link, tile_of}
use Rattle.mesh_load.specs.Tables.{column_cell, in_column, in_row, passes_column, passes_row, row_cell}

-- a link in another direction is not among these
other_any : (a b : Bool) → (a && b && false) ≡ false
other_any true true = refl
other_any true false = refl
other_any false b = refl

apart : (link : Link) (n : ℕ) (tile : Tile) (dir : Dir) → same_dir link.dir dir ≡ false → holds link (links_from n tile dir) ≡ false
apart link zero tile dir is = refl
apart link (suc n) tile dir is =
    ap (λ (b : Bool). ((link.tile.x == tile.x) && (link.tile.y == tile.y) && b) || holds link (links_from n (neighbour tile dir) dir)) is
    ∙ ap (λ (b : Bool). b || holds link (links_from n (neighbour tile dir) dir)) (other_any (link.tile.x == tile.x) (link.tile.y == tile.y))
    ∙ apart link n (neighbour tile dir) dir is

-- whether a link stands among n links in its own direction, from a tile on
abbrev is_along : Dir → Link → Tile → ℕ → Bool
is_along East link tile n = (link.tile.y == tile.y) && (nat_le tile.x link.tile.x && nat_lt link.tile.x (tile.x + n))
is_along West link tile n = (link.tile.y == tile.y) && (nat_lt tile.x (link.tile.x + n) && nat_le link.tile.x tile.x)
is_along North link tile n = (link.tile.x == tile.x) && (nat_le tile.y link.tile.y && nat_lt link.tile.y (tile.y + n))
is_along South link tile n = (link.tile.x == tile.x) && (nat_lt tile.y (link.tile.y + n) && nat_le link.tile.y tile.y)

-- it is none of no links
among_none : (dir : Dir) (link : Link) (tile : Tile) → false ≡ is_along dir link tile 0
among_none East link tile = grind (arith, nat_tests)
among_none West link tile = grind (arith, nat_tests)
among_none North link tile = grind (arith, nat_tests)
among_none South link tile = grind (arith, nat_tests)

-- one link, and those from its neighbour on
east : (x y a b n : ℕ) → (((x == a) && (y == b) && true) || ((y == b) && (nat_le (a + 1) x && nat_lt x (a + 1 + n)))) ≡ ((y == b) && (nat_le a x && nat_lt x (a + suc n)))
east x y a b n = grind (arith, nat_tests)

west : (x y a b n : ℕ) → (((x == a) && (y == b) && true) || ((y == b) && (nat_lt (a - 1) (x + n) && nat_le x (a - 1)))) ≡ ((y == b) && (nat_lt a (x + suc n) && nat_le x a))
west x y a b n = grind (arith, nat_tests)

north : (x y a b n : ℕ) → (((x == a) && (y == b) && true) || ((x == a) && (nat_le (b + 1) y && nat_lt y (b + 1 + n)))) ≡ ((x == a) && (nat_le b y && nat_lt y (b + suc n)))
north x y a b n = grind (arith, nat_tests)

south : (x y a b n : ℕ) → (((x == a) && (y == b) && true) || ((x == a) && (nat_lt (b - 1) (y + n) && nat_le y (b - 1)))) ≡ ((x == a) && (nat_lt b (y + suc n) && nat_le y b))
south x y a b n = grind (arith, nat_tests)

among_more : (dir : Dir) (link : Link) (tile : Tile) (n : ℕ)
    → (((link.tile.x == tile.x) && (link.tile.y == tile.y) && same_dir dir dir) || is_along dir link (neighbour tile dir) n) ≡ is_along dir link tile (suc n)
among_more East link tile n = east link.tile.x link.tile.y tile.x tile.y n
among_more West link tile n = west link.tile.x link.tile.y tile.x tile.y n
among_more North link tile n = north link.tile.x link.tile.y tile.x tile.y n
among_more South link tile n = south link.tile.x link.tile.y tile.x tile.y n

-- those in its own
own : (link : Link) (n : ℕ) (tile : Tile) (dir : Dir) → link.dir ≡ dir → holds link (links_from n tile dir) ≡ is_along dir link tile n
own link zero tile dir is = among_none dir link tile
own link (suc n) tile dir is =
    ap (λ (d : Dir). ((link.tile.x == tile.x) && (link.tile.y == tile.y) && same_dir d dir) || holds link (links_from n (neighbour tile dir) dir)) is
    ∙ ap (λ (b : Bool). ((link.tile.x == tile.x) && (link.tile.y == tile.y) && same_dir dir dir) || b) (own link n (neighbour tile dir) dir is)
    ∙ among_more dir link tile n

-- the links of a route by its four parts
parts : (link : Link) (a b : Tile) (e w n s : Bool) → let corner : Tile = record { x = b.x; y = a.y } in
    holds link (links_from (b.x - a.x) a East) ≡ e → holds link (links_from (a.x - b.x) a West) ≡ w
    → holds link (links_from (b.y - a.y) corner North) ≡ n → holds link (links_from (a.y - b.y) corner South) ≡ s
    → holds link (route a b) ≡ ((e || w) || (n || s))
parts link a b e w n s eastern western northern southern =
    let corner : Tile = record { x = b.x; y = a.y } in
    let xs : List Link = links_from (b.x - a.x) a East in
    let ys : List Link = links_from (a.x - b.x) a West in
    let zs : List Link = links_from (b.y - a.y) corner North in
    let ws : List Link = links_from (a.y - b.y) corner South in
    list_any-append (same_link link) (xs ++ ys) (zs ++ ws)
    ∙ ap (λ (p : Bool). p || list_any (same_link link) (zs ++ ws)) (list_any-append (same_link link) xs ys)
    ∙ ap (λ (p : Bool). (list_any (same_link link) xs || list_any (same_link link) ys) || p) (list_any-append (same_link link) zs ws)
    ∙ ap (λ (p : Bool). (p || holds link ys) || (holds link zs || holds link ws)) eastern
    ∙ ap (λ (p : Bool). (e || p) || (holds link zs || holds link ws)) western
    ∙ ap (λ (p : Bool). (e || w) || (p || holds link ws)) northern
    ∙ ap (λ (p : Bool). (e || w) || (n || p)) southern

-- a route holds a link exactly where one of its ways passes it
pub held : (link : Link) (a b : Tile) → holds link (route a b) ≡ (passes_row link a.y a.x b.x link.dir || passes_column link b.x a.y b.y link.dir)
held link a b = by link.dir refl
  where
    corner : Tile
    corner = record { x = b.x; y = a.y }

    first : (x y c a b : ℕ) → ((((y == c) && (nat_le a x && nat_lt x (a + (b - a)))) || false) || (false || false)) ≡ (((y == c) && (nat_le a x && nat_lt x b)) || false)
    first x y c a b = grind (arith, nat_tests)

    second : (x y c a b : ℕ) → ((false || ((y == c) && (nat_lt a (x + (a - b)) && nat_le x a))) || (false || false)) ≡ (((y == c) && (nat_lt b x && nat_le x a)) || false)
    second x y c a b = grind (arith, nat_tests)

    third : (x y c a b : ℕ) → ((false || false) || (((y == c) && (nat_le a x && nat_lt x (a + (b - a)))) || false)) ≡ (false || ((y == c) && (nat_le a x && nat_lt x b)))
    third x y c a b = grind (arith, nat_tests)

    fourth : (x y c a b : ℕ) → ((false || false) || (false || ((y == c) && (nat_lt a (x + (a - b)) && nat_le x a)))) ≡ (false || ((y == c) && (nat_lt b x && nat_le x a)))
    fourth x y c a b = grind (arith, nat_tests)

    by : (d : Dir) → link.dir ≡ d → holds link (route a b) ≡ (passes_row link a.y a.x b.x d || passes_column link b.x a.y b.y d)
    by East is =
        parts link a b ((link.tile.y == a.y) && (nat_le a.x link.tile.x && nat_lt link.tile.x (a.x + (b.x - a.x)))) false false false
        (own link (b.x - a.x) a East is) (apart link (a.x - b.x) a West (ap (λ (d : Dir). same_dir d West) is))
        (apart link (b.y - a.y) corner North (ap (λ (d : Dir). same_dir d North) is)) (apart link (a.y - b.y) corner South (ap (λ (d : Dir). same_dir d South) is))
        ∙ first link.tile.x link.tile.y a.y a.x b.x
    by West is =
        parts link a b false ((link.tile.y == a.y) && (nat_lt a.x (link.tile.x + (a.x - b.x)) && nat_le link.tile.x a.x)) false false
        (apart link (b.x - a.x) a East (ap (λ (d : Dir). same_dir d East) is)) (own link (a.x - b.x) a West is)
        (apart link (b.y - a.y) corner North (ap (λ (d : Dir). same_dir d North) is)) (apart link (a.y - b.y) corner South (ap (λ (d : Dir). same_dir d South) is))
        ∙ second link.tile.x link.tile.y a.y a.x b.x
    by North is =
        parts link a b false false ((link.tile.x == b.x) && (nat_le a.y link.tile.y && nat_lt link.tile.y (a.y + (b.y - a.y)))) false
        (apart link (b.x - a.x) a East (ap (λ (d : Dir). same_dir d East) is)) (apart link (a.x - b.x) a West (ap (λ (d : Dir). same_dir d West) is))
        (own link (b.y - a.y) corner North is) (apart link (a.y - b.y) corner South (ap (λ (d : Dir). same_dir d South) is))
        ∙ third link.tile.y link.tile.x b.x a.y b.y
    by South is =
        parts link a b false false false ((link.tile.x == b.x) && (nat_lt a.y (link.tile.y + (a.y - b.y)) && nat_le link.tile.y a.y))
        (apart link (b.x - a.x) a East (ap (λ (d : Dir). same_dir d East) is)) (apart link (a.x - b.x) a West (ap (λ (d : Dir). same_dir d West) is))
        (apart link (b.y - a.y) corner North (ap (λ (d : Dir). same_dir d North) is)) (own link (a.y - b.y) corner South is)
        ∙ fourth link.tile.y link.tile.x b.x a.y b.y

-- lines that go over a link, by the two ways of the route
pub shared : (link : Link) (a b : Tile) (n : ℕ) → cond (holds link (route a b)) n 0 ≡ cond (passes_row link a.y a.x b.x link.dir) n 0 + cond (passes_column link b.x a.y b.y link.dir) n 0
shared link a b n = ap (λ (p : Bool). cond p n 0) (held link a b) ∙ by link.dir
  where
    one : (p : Bool) → cond (p || false) n 0 ≡ cond p n 0 + 0
    one true = omega arith
    one false = refl

    two : (p : Bool) → cond p n 0 ≡ 0 + cond p n 0
    two true = omega arith
    two false = refl

    by : (d : Dir) → cond (passes_row link a.y a.x b.x d || passes_column link b.x a.y b.y d) n 0 ≡ cond (passes_row link a.y a.x b.x d) n 0 + cond (passes_column link b.x a.y b.y d) n 0
    by East = one (passes_row link a.y a.x b.x East)
    by West = one (passes_row link a.y a.x b.x West)
    by North = two (passes_column link b.x a.y b.y North)
    by South = two (passes_column link b.x a.y b.y South)

-- the places of a pair of tiles in the tables of rows and columns
pub row_place : (link : Link) (from to : ℕ) → from < 48 → to < 48 → in_row link (row_cell (from / 2 * 24 + to / 2)) ≡ passes_row link (tile_of from).y (tile_of from).x (tile_of to).x link.dir
row_place link from to below other =
    let s : ℕ = from / 2 in
    let t : ℕ = to / 2 in
    let first : (s * 24 + t) / 24 ≡ s = div-mul-add s 24 t (omega arith) in
    let second : (s * 24 + t) % 24 ≡ t = mod-mul-add s 24 t (omega arith) in
    let cell : row_cell (s * 24 + t) ≡ s * 6 + t % 6 = ap (λ (q : ℕ). q * 6 + (s * 24 + t) % 24 % 6) first ∙ ap (λ (r : ℕ). s * 6 + r % 6) second in
    let start : (s * 6 + t % 6) / 6 ≡ s = div-mul-add s 6 (t % 6) (omega arith) in
    let goal : (s * 6 + t % 6) % 6 ≡ t % 6 = mod-mul-add s 6 (t % 6) (omega arith) in
    ap (in_row link) cell
    ∙ ap (λ (q : ℕ). passes_row link (q / 6) (q % 6) ((s * 6 + t % 6) % 6) link.dir) start
    ∙ ap (λ (r : ℕ). passes_row link (s / 6) (s % 6) r link.dir) goal

pub column_place : (link : Link) (from to : ℕ) → from < 48 → to < 48 → in_column link (column_cell (from / 2 * 24 + to / 2)) ≡ passes_column link (tile_of to).x (tile_of from).y (tile_of to).y link.dir
column_place link from to below other =
    let s : ℕ = from / 2 in
    let t : ℕ = to / 2 in
    let first : (s * 24 + t) / 24 ≡ s = div-mul-add s 24 t (omega arith) in
    let second : (s * 24 + t) % 24 ≡ t = mod-mul-add s 24 t (omega arith) in
    let cell : column_cell (s * 24 + t) ≡ t * 4 + s / 6 = ap (λ (r : ℕ). r * 4 + (s * 24 + t) / 24 / 6) second ∙ ap (λ (q : ℕ). t * 4 + q / 6) first in
    let goal : (t * 4 + s / 6) / 4 ≡ t = div-mul-add t 4 (s / 6) (omega arith) in
    let start : (t * 4 + s / 6) % 4 ≡ s / 6 = mod-mul-add t 4 (s / 6) (omega arith) in
    ap (in_column link) cell
    ∙ ap (λ (q : ℕ). passes_column link (q % 6) ((t * 4 + s / 6) % 4) (q / 6) link.dir) goal
    ∙ ap (λ (r : ℕ). passes_column link (t % 6) r (t / 6) link.dir) start
