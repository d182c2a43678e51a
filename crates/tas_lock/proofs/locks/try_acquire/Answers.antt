use Rattle.std.proofs.Common.{true, false}
use Rattle.tas_lock.proofs.HoldLemmas.{tried}
use Rattle.tas_lock.proofs.locks.try_acquire.Goals as goal

pub returns-then-take-clause-holds : goal.returns-then-take-clause-holds
returns-then-take-clause-holds g c = tried (g.P.Port.sight c.args.port.now) (g.P.Port.sight c.take.new.self) c.args.c true c.requires.not_held c.if-take.ensures.did

pub returns-else-take-clause-holds : goal.returns-else-take-clause-holds
returns-else-take-clause-holds g c = tried (g.P.Port.sight c.args.port.now) (g.P.Port.sight c.take.new.self) c.args.c false c.requires.not_held c.if-take.ensures.did
