use Rattle.rank_monitor.proofs.NextLaws.{flags_first, none_or_some, some_or_none}
use Rattle.rank_monitor.proofs.next_laws.next_event_law.Goals as goal

pub returns-clause-free : goal.returns-clause-free
returns-clause-free c = λ s me core rec taken. some_or_none (rec.held core)

pub returns-clause-take : goal.returns-clause-take
returns-clause-take c = λ s me core rec taken. none_or_some (rec.held core)

pub returns-clause-flags : goal.returns-clause-flags
returns-clause-flags c = λ s me value other rec place. flags_first s me value other rec place
