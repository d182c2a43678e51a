use Rattle.std.proofs.Common.{◌∙◌, sym, true, false, None}
use Rattle.std.proofs.Math.ListN.{get_or-replicate}
use Rattle.std.proofs.lemmas.Bool.{true≢false}
use Rattle.rcce_audit.proofs.ListLemmas.{get_or-replicate_same}
use Rattle.rcce_audit.proofs.progress.Progress.new.Goals as goal

pub returns-clause-next : goal.returns-clause-next
returns-clause-next c = λ k. get_or-replicate_same 48 k 0

pub returns-clause-posted : goal.returns-clause-posted
returns-clause-posted c = λ k. get_or-replicate_same 48 k None

pub returns-clause-awake : goal.returns-clause-awake
returns-clause-awake c = λ b below asleep. true≢false (sym (get_or-replicate 48 b true false below) ∙ asleep)
