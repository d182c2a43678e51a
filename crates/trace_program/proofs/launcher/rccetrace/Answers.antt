use Rattle.std.proofs.Common.{map, string_bytes}
use Rattle.outcomes.proofs.PromiseLemmas.{keeps_promises}
use Rattle.trace_program.specs.Program.{rccetrace}
use Rattle.trace_program.proofs.LegalLemmas.{finished_legal}
use Rattle.trace_program.proofs.launcher.rccetrace.Goals as goal

pub returns-clause-promises : goal.returns-clause-promises
returns-clause-promises g c = keeps_promises rccetrace _ _ _ _ _ _ (_, c.run_words-ending.ensures, c.deliver.ensures)

pub returns-clause-legal : goal.returns-clause-legal
returns-clause-legal g c = finished_legal (map string_bytes c.args.words.now) _ _ _ _ _ _ c.run_words-ending.ensures c.deliver.ensures
