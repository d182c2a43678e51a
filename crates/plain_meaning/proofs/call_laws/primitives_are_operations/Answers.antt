use Rattle.script_machine.proofs.Walks.MarkLaws.{program_is}
use Rattle.plain_meaning.proofs.OwnWays.OperationCounts.{as_many, few_enough}
use Rattle.plain_meaning.proofs.call_laws.primitives_are_operations.Goals as goal

pub returns-clause-law : goal.returns-clause-law
returns-clause-law c = as_many

pub returns-clause-most : goal.returns-clause-most
returns-clause-most c = few_enough

pub returns-clause-among : goal.returns-clause-among
returns-clause-among c = program_is
