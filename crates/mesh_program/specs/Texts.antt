-- The lines of `rccemesh` (this project's profile).
use Rattle.std.specs.Prelude.{ℕ, ◌==◌, if◌then◌else◌, List, [], ◌∷◌, codes, decimal, map}
use Rattle.std.specs.List.{range_with_len}
use Rattle.rcce_io.specs.Sending.{joined_texts}
use Rattle.mesh_load.specs.Mesh.{Link, Tile, links_at, neighbour}

-- a link that carries lines: the tile from which it goes, the tile to which it goes, and how many
abbrev pub link_line : Link → ℕ → List ℕ
link_line link lines =
    let to : Tile = neighbour link.tile link.dir in
    joined_texts (decimal link.tile.x ∷ codes "," ∷ decimal link.tile.y ∷ codes " -> " ∷ decimal to.x ∷ codes "," ∷ decimal to.y ∷ codes " "
    ∷ decimal lines ∷ codes "\n" ∷ [])

-- its line, if it carries any
abbrev pub link_text : (Link → ℕ) → Link → List ℕ
link_text on link = if on link == 0 then [] else link_line link (on link)

-- the links from a tile, east, west, north and south
abbrev pub tile_text : (Link → ℕ) → ℕ → List ℕ
tile_text on number = joined_texts (map (link_text on) (links_at number))

-- the numbers of the tiles
unfoldable pub tile_numbers : List ℕ
tile_numbers = range_with_len 0 24

-- the lines of all links that carry any, by the number of the tile from which they go
abbrev pub mesh_text : (Link → ℕ) → List ℕ
mesh_text on = joined_texts (map (tile_text on) tile_numbers)
