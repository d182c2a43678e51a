use Rattle.rcce_audit.proofs.VerdictLemmas.{judge_is, verdict_found, verdict_once}
use Rattle.rcce_audit.proofs.laws.verdict_law.Goals as goal

pub returns-clause-once : goal.returns-clause-once
returns-clause-once c = verdict_once

pub returns-clause-found : goal.returns-clause-found
returns-clause-found c = verdict_found

pub returns-clause-judge : goal.returns-clause-judge
returns-clause-judge c = judge_is
