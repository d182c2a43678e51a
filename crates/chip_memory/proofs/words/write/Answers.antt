use Rattle.chip_memory.proofs.WordLaws.{free_makes, load_makes, store_makes, take_makes}
use Rattle.chip_memory.proofs.words.write.Goals as goal

pub returns-in-Load-clause-makes : goal.returns-in-Load-clause-makes
returns-in-Load-clause-makes c = load_makes c.args.numbers.now.items c.requires.count c.args.event.now c.number_of-number.ensures.there c.number_of-number.result c.number_of-number.ensures.gives c.in-Load.is

pub returns-in-Store-clause-makes : goal.returns-in-Store-clause-makes
returns-in-Store-clause-makes c = store_makes c.args.numbers.now.items c.requires.count c.args.event.now c.number_of-number.ensures.there c.number_of-number.result c.number_of-number.ensures.gives c.in-Store.is

pub returns-then-event-eq1-clause-makes : goal.returns-then-event-eq1-clause-makes
returns-then-event-eq1-clause-makes c = take_makes c.args.numbers.now.items c.requires.count c.args.event.now c.number_of-number.ensures.there c.number_of-number.result c.number_of-number.ensures.gives c.in-Take.is c.if-event-eq1.true

pub returns-in-Free-clause-makes : goal.returns-in-Free-clause-makes
returns-in-Free-clause-makes c = free_makes c.args.numbers.now.items c.requires.count c.args.event.now c.number_of-number.ensures.there c.number_of-number.result c.number_of-number.ensures.gives c.in-Free.is
