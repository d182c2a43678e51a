use Rattle.std.proofs.Common.{◌<◌, true, ap, arith}
use Rattle.scc_base.specs.Places.{FlagPlace}
use base.Stored.{gnil}
use Rattle.scc_proto.specs.Ports.{Sight}
use Rattle.scc_rows.proofs.QuietLemmas.{nothing_held}
use Rattle.scc_rows.proofs.QuietFlags.{heap_bit_writes, second_bit_writes}
use Rattle.sync_flags.proofs.WriteLemmas.{written_seat}
use Rattle.scc_rows.proofs.own_flags.write_two_bits.Goals as goal

pub flag_write-one-requires-clause-permitted : goal.flag_write-one-requires-clause-permitted
flag_write-one-requires-clause-permitted g c =
    let below : c.of-me.result < c.args.port.now.setup.nue = omega (arith, c.of-me.ensures.gives, c.nue.ensures.valid.some_ranks) in
    heap_bit_writes _ c.of-me.result c.bit.result c.args.first true (ap (λ (f : FlagPlace). f.bit) c.bit.ensures.gives) c.args.port.now.quiet
    (nothing_held _ c.requires.fresh _) c.nue.ensures.valid below c.bit.ensures.heap

pub flag_write-other-requires-clause-permitted : goal.flag_write-other-requires-clause-permitted
flag_write-other-requires-clause-permitted g c =
    let below : c.of-me.result < c.args.port.now.setup.nue = omega (arith, c.of-me.ensures.gives, c.nue.ensures.valid.some_ranks) in
    let s : Sight = record { seat = record { setup = c.args.port.now.setup; rank = 0; mark = gnil; rest = gnil; hold = 0 }; events = c.args.port.now.events.items } in
    let late = c.flag_write-one.new.port in
    let t : Sight = record { seat = record { setup = late.setup; rank = 0; mark = gnil; rest = gnil; hold = 0 }; events = late.events.items } in
    second_bit_writes s t c.of-me.result c.bit.result c.bit-2.result c.args.first c.args.second true (written_seat s t _ _ _ _ _ _ _ c.flag_write-one.ensures.writes)
    (ap (λ (f : FlagPlace). f.bit) c.bit.ensures.gives) c.flag_write-one.ensures.freed (ap (λ (f : FlagPlace). f.bit) c.bit-2.ensures.gives) late.quiet
    c.nue.ensures.valid below c.bit-2.ensures.heap
