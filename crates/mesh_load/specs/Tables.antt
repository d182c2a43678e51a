-- Words of the contracts inside the crate: lines are added up by pairs of tiles, then by rows and by columns.
use Rattle.std.specs.Prelude.{ℕ, suc, ◌+◌, ◌*◌, ◌/◌, ◌%◌, ◌==◌, ◌<◌, Bool, true, false, ◌&&◌, if◌then◌else◌, nat_le, nat_lt, List, [], ◌∷◌}
use Rattle.mesh_load.specs.declared.links.Dir.{Dir}
use Rattle.mesh_load.specs.declared.links.Dir.TheVariants.{East, West, North, South}
use Rattle.mesh_load.specs.Mesh.{Link, mesh_core_of}
use Rattle.script_plain.specs.declared.matches.Match.{Match}

-- the sum of the values whose places pass a test
abbrev pub sum_where : (ℕ → Bool) → List ℕ → ℕ
sum_where test [] = 0
sum_where test (value ∷ values) = (if test 0 then value else 0) + sum_where (λ place. test (suc place)) values

-- the sum of all values
abbrev pub total : List ℕ → ℕ
total values = sum_where (λ place. true) values

-- the place of a message in the table of pairs: the tile of its sender, and then that of its receiver
abbrev pub pair_place : List ℕ → Match → ℕ
pair_place at one = mesh_core_of at one.from / 2 * 24 + mesh_core_of at one.to / 2

-- its place in the table of rows: the tile of its sender, and then the column to which it goes
abbrev pub row_cell : ℕ → ℕ
row_cell pair = pair / 24 * 6 + pair % 24 % 6

-- its place in the table of columns: the tile of its receiver, and then the row from which it comes
abbrev pub column_cell : ℕ → ℕ
column_cell pair = pair % 24 * 4 + pair / 24 / 6

-- whether a way along row y from column a to column b goes over a link
abbrev pub passes_row : Link → ℕ → ℕ → ℕ → Dir → Bool
passes_row link y a b East = (link.tile.y == y) && (nat_le a link.tile.x && nat_lt link.tile.x b)
passes_row link y a b West = (link.tile.y == y) && (nat_lt b link.tile.x && nat_le link.tile.x a)
passes_row link y a b North = false
passes_row link y a b South = false

-- whether a way along column x from row a to row b goes over a link
abbrev pub passes_column : Link → ℕ → ℕ → ℕ → Dir → Bool
passes_column link x a b East = false
passes_column link x a b West = false
passes_column link x a b North = (link.tile.x == x) && (nat_le a link.tile.y && nat_lt link.tile.y b)
passes_column link x a b South = (link.tile.x == x) && (nat_lt b link.tile.y && nat_le link.tile.y a)

-- whether the lines in a place of the table of rows, and in one of the table of columns, go over a link
abbrev pub in_row : Link → ℕ → Bool
in_row link cell = passes_row link (cell / 6 / 6) (cell / 6 % 6) (cell % 6) link.dir

-- whether the way between the tiles of a cell uses a link in its column
abbrev pub in_column : Link → ℕ → Bool
in_column link cell = passes_column link (cell / 4 % 6) (cell % 4) (cell / 4 / 6) link.dir

-- both ranks of a message are on cores of the chip
pub record IsPlaced (at : List ℕ) (one : Match) : Type 0 where
  pub from : mesh_core_of at one.from < 48
  pub to : mesh_core_of at one.to < 48

-- what the links carry, as it is kept: the lines from each tile to each column of its row, and those to each tile from each
-- row of its column
pub record Loads : Type 0 where
  pub rows : List ℕ
  pub columns : List ℕ

-- what a link carries
abbrev pub load_on : Loads → Link → ℕ
load_on loads link = sum_where (in_row link) loads.rows + sum_where (in_column link) loads.columns
