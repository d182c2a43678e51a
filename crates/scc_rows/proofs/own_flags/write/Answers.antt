use Rattle.std.proofs.Common.{◌<◌, arith}
use Rattle.scc_rows.proofs.QuietFlags.{heap_word_writes}
use Rattle.scc_rows.proofs.own_flags.write.Goals as goal

pub flag_write-requires-clause-permitted : goal.flag_write-requires-clause-permitted
flag_write-requires-clause-permitted g c =
    let below : c.of.result < c.args.port.now.setup.nue = omega (arith, c.of.ensures.gives, c.nue.ensures.valid.some_ranks) in
    heap_word_writes _ c.of.result c.args.f c.args.set c.requires.word c.args.port.now.quiet c.nue.ensures.valid below c.requires.heap
