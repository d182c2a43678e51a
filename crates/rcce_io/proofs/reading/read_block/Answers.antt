use Rattle.std.proofs.Common.{rules}
use Rattle.rcce_io.proofs.ReadingLemmas.{below_most, block_read, fits_front, front_size, some_front, some_room}
use Rattle.rcce_io.proofs.reading.read_block.Goals as goal

-- Names the goal, so that the prover rejects a wrong body at once, without a search.
pub returns-in-Failed : goal.returns-in-Failed
returns-in-Failed c = search rules

pub slice_bounds-block-end : goal.slice_bounds-block-end
slice_bounds-block-end g c = below_most c.min-most.result c.args.room 4096 c.min-most.ensures

pub slice_bounds-read-end : goal.slice_bounds-read-end
slice_bounds-read-end g c = front_size c.min-most.result _ (below_most c.min-most.result c.args.room 4096 c.min-most.ensures)

pub read-requires-clause-room : goal.read-requires-clause-room
read-requires-clause-room g c = some_front c.min-most.result _ (some_room c.min-most.result c.args.room c.min-most.ensures c.requires.room) (below_most c.min-most.result c.args.room 4096 c.min-most.ensures)

pub slice_bounds-block-end-in-Bytes : goal.slice_bounds-block-end-in-Bytes
slice_bounds-block-end-in-Bytes g c = fits_front _ _ _ c.in-Bytes.ensures.2

pub slice_bounds-extend_from_slice-end : goal.slice_bounds-extend_from_slice-end
slice_bounds-extend_from_slice-end g c = front_size c.in-Bytes.n _ (fits_front _ _ _ c.in-Bytes.ensures.2)

pub returns-in_ok-extend_from_slice-in-Bytes : goal.returns-in_ok-extend_from_slice-in-Bytes
returns-in_ok-extend_from_slice-in-Bytes g c =
    let gone = c.in-Bytes.ensures in
    block_read (g.F.Files.seen c.args.files.now) (g.F.Files.seen c.read.new.self) c.args.bytes.now.items _ c.read.new.buf _ _ c.in-Bytes.n c.args.room c.min-most.result
    gone.0 gone.1 gone.2 gone.3 c.in_ok-extend_from_slice-in-Bytes.ensures.items c.read.auto.buf c.min-most.ensures
