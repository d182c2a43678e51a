use Rattle.std.proofs.Common.{◌<◌, ◌≤◌, ◌∙◌, ℕ, List, ap, length, arith}
use Rattle.rcce_io.specs.Sending.{with_text}
use Rattle.rcce_io.proofs.SendingLemmas.{cut_within, joined-all, joined-more, joined-parts, sends_err, whole_within}
use Rattle.mesh_load.specs.Tables.{load_on}
use Rattle.mesh_program.specs.Texts.{tile_numbers, tile_text}
use Rattle.mesh_program.proofs.TextLaws.{tile_at, tile_count}
use Rattle.mesh_program.proofs.lines.write_mesh.Goals as goal

pub returns-in_err-write_tile : goal.returns-in_err-write_tile
returns-in_err-write_tile g c =
    let line : ℕ → List ℕ = tile_text (load_on c.args.load.now) in
    let within : c.loop-number.number < length tile_numbers = omega (arith, tile_count, c.loop-number-test.true) in
    sends_err _ _ _ _ c.from_residual.ensures.0 (
    cut_within (g.S.Sink.seen c.args.sink.now) (g.S.Sink.seen c.loop-number.sink) (g.S.Sink.seen c.write_tile.new.sink) _ (line c.loop-number.number) _ _
    (rw (tile_at c.loop-number.number 0 c.loop-number-test.true) at (joined-parts line tile_numbers c.loop-number.number 0 within)) c.loop-number.invariant
    c.in_err-write_tile.ensures)

pub loop-number-preserved : goal.loop-number-preserved
loop-number-preserved g c =
    let line : ℕ → List ℕ = tile_text (load_on c.args.load.now) in
    let within : c.loop-number.number < length tile_numbers = omega (arith, tile_count, c.loop-number-test.true) in
    whole_within (g.S.Sink.seen c.args.sink.now) (g.S.Sink.seen c.loop-number.sink) (g.S.Sink.seen c.write_tile.new.sink) _ (line c.loop-number.number) _
    (rw (tile_at c.loop-number.number 0 c.loop-number-test.true) at (joined-more line tile_numbers c.loop-number.number 0 within)) c.loop-number.invariant
    c.in_ok-write_tile.ensures

pub returns : goal.returns
returns g c =
    let line : ℕ → List ℕ = tile_text (load_on c.args.load.now) in
    let all : length tile_numbers ≤ c.loop-number.number = omega (arith, tile_count, c.loop-number-test.false) in
    c.loop-number.invariant ∙ ap (λ (text : List ℕ). with_text text (g.S.Sink.seen c.args.sink.now)) (joined-all line tile_numbers c.loop-number.number all)
