use Rattle.std.proofs.Common.{map, string_bytes}
use Rattle.std.proofs.Math.Logic.{∥∥₁_map}
use Rattle.trace_commands.proofs.AgainLemmas.{tells_by}
use Rattle.trace_commands.proofs.launcher.rccetrace.Goals as goal

pub returns-else-words-le2-clause-again : goal.returns-else-words-le2-clause-again
returns-else-words-le2-clause-again g c = λ more opened wrote text has.
    ∥∥₁_map c.trace_script-end.ensures.traces (λ traces. tells_by (map string_bytes c.args.words.now) _ _ _ _ _ c.trace_script-end.result text traces opened c.see_setup.ensures.valid wrote has)
