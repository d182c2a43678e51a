use Rattle.std.proofs.Common.{◌≡◌, map, take}
use Rattle.rcce_io.specs.Sending.{joined_texts, with_text}
use Rattle.mesh_load.specs.Tables.{load_on}
use Rattle.mesh_program.specs.Texts.{tile_numbers, tile_text}
use Rattle.mesh_program.proofs.lines.write_mesh.Given as goal

abbrev pub invariant-loop-number : goal.invariant-loop-number
invariant-loop-number g l =
    g.S.Sink.seen l.sink ≡ with_text (joined_texts (map (tile_text (load_on l.load)) (take l.number tile_numbers))) (g.S.Sink.seen l.initial.sink)
