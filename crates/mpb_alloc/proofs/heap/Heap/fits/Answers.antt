use Rattle.std.proofs.Common.{◌≡◌, ◌<◌, ◌==◌, false, arith}
use Rattle.std.proofs.lemmas.Bool.{ne_eqb}
use Rattle.mpb_alloc.specs.Heaps.{lines_for}
use Rattle.mpb_alloc.proofs.HeapLemmas.{fits_longest}
use Rattle.mpb_alloc.proofs.heap.Heap.fits.Goals as goal

pub returns-then-bytes-ne0 : goal.returns-then-bytes-ne0
returns-then-bytes-ne0 c =
    let lines : c.div_ceil.result ≡ lines_for c.args.bytes = omega arith in
    let some : 0 < lines_for c.args.bytes = omega arith in
    let t : (c.args.bytes == 0) ≡ false = ne_eqb c.args.bytes 0 c.if-bytes-ne0.true in
    rw (lines, c.longest.ensures, ← c.self.view_is, t) (fits_longest (lines_for c.args.bytes) c.self.inside.free.items some)
