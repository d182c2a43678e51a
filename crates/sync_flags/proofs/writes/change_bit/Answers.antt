use Rattle.sync_flags.proofs.WriteLemmas.{may_change, bit_changed, change_holds}
use Rattle.put_get.proofs.StepLemmas.{steps_both}
use Rattle.sync_flags.proofs.writes.change_bit.Goals as goal

pub store_word-requires-clause-permitted : goal.store_word-requires-clause-permitted
store_word-requires-clause-permitted g c =
    may_change c.look_word-word.ensures.looks c.args.bit c.args.set c.changed.result c.requires.permitted c.rank.ensures.sound c.changed.ensures

pub returns-clause-changes : goal.returns-clause-changes
returns-clause-changes g c =
    bit_changed c.look_word-word.ensures.looks c.store_word.ensures.stores c.args.bit c.args.set c.changed.ensures c.rank.ensures.sound

pub returns-clause-holds : goal.returns-clause-holds
returns-clause-holds g c =
    change_holds (bit_changed c.look_word-word.ensures.looks c.store_word.ensures.stores c.args.bit c.args.set c.changed.ensures c.rank.ensures.sound)

pub returns-clause-steps : goal.returns-clause-steps
returns-clause-steps g c =
    steps_both g.P.Port.stepped (g.P.Port.sight c.args.port.now) (g.P.Port.sight c.look_word-word.new.port) (g.P.Port.sight c.store_word.new.port) _ _
    c.look_word-word.ensures.looks.looks.did c.store_word.ensures.stores.did c.look_word-word.ensures.steps c.store_word.ensures.steps
