-- The mesh of the chip: 24 tiles in six columns and four rows, and a link from each tile to each of its neighbours (SCC
-- External Architecture Specification). What its links carry of the messages of a run.
use Rattle.std.specs.Prelude.{ℕ, zero, suc, ◌+◌, ◌-◌, ◌/◌, ◌%◌, ◌==◌, Bool, true, false, ◌&&◌, if◌then◌else◌, List, [], ◌∷◌, ◌++◌, slice_index_or, sum_by}
use Rattle.std.specs.List.{flat_map, list_any, range_with_len}
use Rattle.mesh_load.specs.declared.links.Dir.{Dir}
use Rattle.mesh_load.specs.declared.links.Dir.TheVariants.{East, West, North, South}
use Rattle.script_plain.specs.declared.matches.Match.{Match}

-- a tile: its column and its row
pub record Tile : Type 0 where
  pub x : ℕ
  pub y : ℕ

-- a link: the tile from which it goes, and in which direction
pub record Link : Type 0 where
  pub tile : Tile
  pub dir : Dir

-- the link that leaves a tile in a direction
abbrev pub link_at : ℕ → ℕ → Dir → Link
link_at x y dir = record { tile = record { x = x; y = y }; dir = dir }

-- the tile of a core: there are two cores on each, and tiles count along the rows
abbrev pub tile_of : ℕ → Tile
tile_of core = record { x = core / 2 % 6; y = core / 2 / 6 }

-- the tile to which a link goes
abbrev pub neighbour : Tile → Dir → Tile
neighbour tile East = record { x = tile.x + 1; y = tile.y }
neighbour tile West = record { x = tile.x - 1; y = tile.y }
neighbour tile North = record { x = tile.x; y = tile.y + 1 }
neighbour tile South = record { x = tile.x; y = tile.y - 1 }

-- n links one after another in one direction, from a tile on
abbrev pub links_from : ℕ → Tile → Dir → List Link
links_from zero tile dir = []
links_from (suc n) tile dir = record { tile = tile; dir = dir } ∷ links_from n (neighbour tile dir) dir

-- the route from tile to tile: along the row to the column of the goal, and then along this column
abbrev pub route : Tile → Tile → List Link
route from to =
    let corner : Tile = record { x = to.x; y = from.y } in
    (links_from (to.x - from.x) from East ++ links_from (from.x - to.x) from West)
    ++ (links_from (to.y - from.y) corner North ++ links_from (from.y - to.y) corner South)

-- whether two directions are the same
abbrev pub same_dir : Dir → Dir → Bool
same_dir East East = true
same_dir West West = true
same_dir North North = true
same_dir South South = true
same_dir _ _ = false

-- whether two links are the same
abbrev pub same_link : Link → Link → Bool
same_link a b = (a.tile.x == b.tile.x) && (a.tile.y == b.tile.y) && same_dir a.dir b.dir

-- whether a route holds a link
abbrev pub holds : Link → List Link → Bool
holds link links = list_any (same_link link) links

-- the lines that a message of n bytes moves: its header, and the lines of its bytes. (Flags are not counted.)
abbrev pub lines_moved : ℕ → ℕ
lines_moved bytes = 1 + (bytes + 31) / 32

-- the core of a rank
abbrev pub mesh_core_of : List ℕ → ℕ → ℕ
mesh_core_of at rank = slice_index_or at rank 0

-- the route of a message, where each rank is on its core
abbrev pub route_of : List ℕ → Match → List Link
route_of at one = route (tile_of (mesh_core_of at one.from)) (tile_of (mesh_core_of at one.to))

-- the lines that go over a link: the sum over the messages whose route holds it
abbrev pub lines_over_link : List ℕ → List Match → Link → ℕ
lines_over_link at matches link = sum_by (λ one. if holds link (route_of at one) then lines_moved one.head.len else 0) matches

-- the links from a tile, and those of the mesh: by tile number, and then east, west, north and south. (A link over the edge
-- is on no route.)
abbrev pub links_at : ℕ → List Link
links_at number =
    let tile : Tile = record { x = number % 6; y = number / 6 } in
    record { tile = tile; dir = East } ∷ record { tile = tile; dir = West } ∷ record { tile = tile; dir = North }
    ∷ record { tile = tile; dir = South } ∷ []

-- the links of all tiles, those over the edge of the mesh too
abbrev pub all_links : List Link
all_links = flat_map links_at (range_with_len 0 24)

-- how many links a message takes
abbrev pub distance : Tile → Tile → ℕ
distance a b = (b.x - a.x) + (a.x - b.x) + ((b.y - a.y) + (a.y - b.y))

-- how many links lie on the way of a message
abbrev pub distance_of : List ℕ → Match → ℕ
distance_of at one = distance (tile_of (mesh_core_of at one.from)) (tile_of (mesh_core_of at one.to))
