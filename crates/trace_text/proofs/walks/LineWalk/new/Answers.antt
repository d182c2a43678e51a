use Rattle.std.proofs.Common.{refl}
use Rattle.trace_text.proofs.ProgressLemmas.{start_walked}
use Rattle.trace_text.proofs.walks.LineWalk.new.Goals as goal

pub returns : goal.returns
returns c = start_walked _ refl c.in_ok-line.ensures.items refl
