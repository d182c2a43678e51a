use Rattle.plain_meaning.proofs.Messages.HeldUpLaws.{explained}
use Rattle.plain_meaning.proofs.held_laws.ends_are_explained.Goals as goal

pub returns : goal.returns
returns c = record { law = λ script whole rank below. explained script whole rank below }
