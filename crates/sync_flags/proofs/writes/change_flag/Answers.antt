use Rattle.sync_flags.proofs.ChangeLemmas.{word_may, bit_may, word_changes, bit_changes, through_empty}
use Rattle.sync_flags.proofs.writes.change_flag.Goals as goal

pub word_write_through-requires : goal.word_write_through-requires
word_write_through-requires g c =
    let may = word_may (g.P.Port.sight c.args.port.now) c.args.core.now c.args.place c.args.bit c.args.set c.flag_value.result c.requires.may c.in-None.is c.flag_value.ensures.gives in
    record { other = may.other; permitted = may.permitted }

pub try_change_bit-requires-clause-empty : goal.try_change_bit-requires-clause-empty
try_change_bit-requires-clause-empty g c = (bit_may (g.P.Port.sight c.args.port.now) c.args.core.now c.args.place c.args.bit c.args.set c.in-Some.bit c.requires.may c.in-Some.is).empty

pub try_change_bit-requires-clause-permitted : goal.try_change_bit-requires-clause-permitted
try_change_bit-requires-clause-permitted g c =
    (bit_may (g.P.Port.sight c.args.port.now) c.args.core.now c.args.place c.args.bit c.args.set c.in-Some.bit c.requires.may c.in-Some.is).permitted

pub returns-in-None-clause-changes : goal.returns-in-None-clause-changes
returns-in-None-clause-changes g c = word_changes _ _ _ _ _ c.args.bit c.args.set _ c.in-None.is c.flag_value.ensures.gives c.word_write_through.ensures.writes

pub returns-in-None-clause-empty : goal.returns-in-None-clause-empty
returns-in-None-clause-empty g c = through_empty c.word_write_through.ensures.writes

pub returns-in-Some-clause-changes : goal.returns-in-Some-clause-changes
returns-in-Some-clause-changes g c = bit_changes _ _ _ _ _ c.args.bit c.args.set _ _ c.in-Some.is c.requires.may c.try_change_bit.ensures.tries
