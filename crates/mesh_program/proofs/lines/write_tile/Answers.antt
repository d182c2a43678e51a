use Rattle.std.proofs.Common.{◌%◌, ◌/◌, ℕ, List}
use Rattle.rcce_io.proofs.SendingLemmas.{sends_err}
use Rattle.mesh_load.specs.Mesh.{link_at}
use Rattle.mesh_load.specs.Tables.{load_on}
use Rattle.mesh_load.specs.declared.links.Dir.TheVariants.{East, West, North, South}
use Rattle.mesh_program.specs.Texts.{link_text}
use Rattle.mesh_program.proofs.TextLaws.{cut_first, cut_second, cut_third, four_sent}
use Rattle.mesh_program.proofs.lines.write_tile.Goals as goal

pub returns-in_err-write_link : goal.returns-in_err-write_link
returns-in_err-write_link g c =
    let east : List ℕ = link_text (load_on c.args.load.now) (link_at (c.args.number % 6) (c.args.number / 6) East) in
    let west : List ℕ = link_text (load_on c.args.load.now) (link_at (c.args.number % 6) (c.args.number / 6) West) in
    let north : List ℕ = link_text (load_on c.args.load.now) (link_at (c.args.number % 6) (c.args.number / 6) North) in
    let south : List ℕ = link_text (load_on c.args.load.now) (link_at (c.args.number % 6) (c.args.number / 6) South) in
    sends_err _ _ _ _ c.from_residual.ensures.0 (cut_first (g.S.Sink.seen c.args.sink.now) (g.S.Sink.seen c.write_link.new.sink) (g.S.Sink.seen c.write_link.new.sink) (g.S.Sink.seen c.write_link.new.sink) (g.S.Sink.seen c.write_link.new.sink) east west north south c.in_err-write_link.ensures)

pub returns-in_err-write_link-2 : goal.returns-in_err-write_link-2
returns-in_err-write_link-2 g c =
    let east : List ℕ = link_text (load_on c.args.load.now) (link_at (c.args.number % 6) (c.args.number / 6) East) in
    let west : List ℕ = link_text (load_on c.args.load.now) (link_at (c.args.number % 6) (c.args.number / 6) West) in
    let north : List ℕ = link_text (load_on c.args.load.now) (link_at (c.args.number % 6) (c.args.number / 6) North) in
    let south : List ℕ = link_text (load_on c.args.load.now) (link_at (c.args.number % 6) (c.args.number / 6) South) in
    sends_err _ _ _ _ c.from_residual-in_err-write_link-2.ensures.0 (cut_second (g.S.Sink.seen c.args.sink.now) (g.S.Sink.seen c.write_link.new.sink) (g.S.Sink.seen c.write_link-2.new.sink) (g.S.Sink.seen c.write_link-2.new.sink) (g.S.Sink.seen c.write_link-2.new.sink) east west north south c.in_ok-write_link.ensures c.in_err-write_link-2.ensures)

pub returns-in_err-write_link-3 : goal.returns-in_err-write_link-3
returns-in_err-write_link-3 g c =
    let east : List ℕ = link_text (load_on c.args.load.now) (link_at (c.args.number % 6) (c.args.number / 6) East) in
    let west : List ℕ = link_text (load_on c.args.load.now) (link_at (c.args.number % 6) (c.args.number / 6) West) in
    let north : List ℕ = link_text (load_on c.args.load.now) (link_at (c.args.number % 6) (c.args.number / 6) North) in
    let south : List ℕ = link_text (load_on c.args.load.now) (link_at (c.args.number % 6) (c.args.number / 6) South) in
    sends_err _ _ _ _ c.from_residual-in_err-write_link-3.ensures.0 (cut_third (g.S.Sink.seen c.args.sink.now) (g.S.Sink.seen c.write_link.new.sink) (g.S.Sink.seen c.write_link-2.new.sink) (g.S.Sink.seen c.write_link-3.new.sink) (g.S.Sink.seen c.write_link-3.new.sink) east west north south c.in_ok-write_link.ensures c.in_ok-write_link-2.ensures c.in_err-write_link-3.ensures)

pub returns : goal.returns
returns g c =
    let east : List ℕ = link_text (load_on c.args.load.now) (link_at (c.args.number % 6) (c.args.number / 6) East) in
    let west : List ℕ = link_text (load_on c.args.load.now) (link_at (c.args.number % 6) (c.args.number / 6) West) in
    let north : List ℕ = link_text (load_on c.args.load.now) (link_at (c.args.number % 6) (c.args.number / 6) North) in
    let south : List ℕ = link_text (load_on c.args.load.now) (link_at (c.args.number % 6) (c.args.number / 6) South) in
    four_sent (g.S.Sink.seen c.args.sink.now) (g.S.Sink.seen c.write_link.new.sink) (g.S.Sink.seen c.write_link-2.new.sink) (g.S.Sink.seen c.write_link-3.new.sink) (g.S.Sink.seen c.write_link-4.new.sink) east west north south c.write_link-4.result c.in_ok-write_link.ensures c.in_ok-write_link-2.ensures c.in_ok-write_link-3.ensures c.write_link-4.ensures
