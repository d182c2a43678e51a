use Rattle.trace_judge.proofs.FollowFacts.{judged_pushed}
use Rattle.trace_judge.proofs.laws.event_law.Goals as goal

pub returns : goal.returns
returns c = record { law = λ s run e. judged_pushed s run e }
