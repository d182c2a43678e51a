use Rattle.std.proofs.Common.{arith}
use Rattle.chip_run.proofs.ServedLaws.{some_worker}
use Rattle.chip_run.proofs.threads.in_threads.Goals as goal

pub returns-clause-began : goal.returns-clause-began
returns-clause-began g c = λ i low. (c.for_each_mut.ensures i (some_worker c.args.crew.now (omega (arith, low))) low).1.call.2

pub returns-clause-passed : goal.returns-clause-passed
returns-clause-passed g c = λ i low. (c.for_each_mut.ensures i (some_worker c.args.crew.now (omega (arith, low))) low).1.call.3
