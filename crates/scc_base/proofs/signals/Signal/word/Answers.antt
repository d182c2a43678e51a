use Rattle.std.proofs.Common.{sym, ap}
use Rattle.scc_base.specs.Layouts.{signal_word}
use Rattle.scc_base.proofs.signals.Signal.word.Goals as goal

-- Names the goal, so that the prover rejects a wrong body at once, without a search.
pub returns-in-Ready-clause-gives : goal.returns-in-Ready-clause-gives
returns-in-Ready-clause-gives c = sym (ap signal_word c.in-Ready.is)
