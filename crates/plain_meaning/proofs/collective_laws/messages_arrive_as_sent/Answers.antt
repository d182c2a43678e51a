use Rattle.plain_meaning.proofs.Messages.MessageLaws.{delivered, received_as_sent}
use Rattle.plain_meaning.proofs.collective_laws.messages_arrive_as_sent.Goals as goal

pub returns-clause-delivered : goal.returns-clause-delivered
returns-clause-delivered c = λ script end reached. delivered script reached.0 end reached.1

pub returns-clause-numbered : goal.returns-clause-numbered
returns-clause-numbered c = λ script end reached. received_as_sent end (delivered script reached.0 end reached.1)
