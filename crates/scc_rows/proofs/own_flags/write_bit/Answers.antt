use Rattle.std.proofs.Common.{◌<◌, true, ap, arith}
use Rattle.scc_base.specs.Places.{FlagPlace}
use Rattle.scc_rows.proofs.QuietLemmas.{nothing_held}
use Rattle.scc_rows.proofs.QuietFlags.{heap_bit_writes}
use Rattle.scc_rows.proofs.own_flags.write_bit.Goals as goal

pub flag_write-requires-clause-permitted : goal.flag_write-requires-clause-permitted
flag_write-requires-clause-permitted g c =
    let below : c.of.result < c.args.port.now.setup.nue = omega (arith, c.of.ensures.gives, c.nue.ensures.valid.some_ranks) in
    heap_bit_writes _ c.of.result c.bit.result c.args.bit true (ap (λ (f : FlagPlace). f.bit) c.bit.ensures.gives) c.args.port.now.quiet
    (nothing_held _ c.requires.fresh _) c.nue.ensures.valid below c.bit.ensures.heap
