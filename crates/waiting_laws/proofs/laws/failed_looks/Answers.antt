use Rattle.waiting_laws.proofs.Messages.{receives_here, sends_here}
use Rattle.waiting_laws.proofs.laws.failed_looks.Goals as goal

pub returns-clause-sends : goal.returns-clause-sends
returns-clause-sends c = λ seat memory records rec aim core op slot bytes look stands is. sends_here seat memory records rec aim look core op slot bytes stands is

pub returns-clause-receives : goal.returns-clause-receives
returns-clause-receives c = λ seat memory records rec aim core op bytes look stands is. receives_here seat memory records rec aim look core op bytes stands is
