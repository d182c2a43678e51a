use Rattle.command_rows.specs.LineCount.{lines}
use Rattle.outcomes.proofs.PromiseLemmas.{keeps_promises}
use Rattle.command_rows.proofs.line_count.line_count.Goals as goal

pub returns : goal.returns
returns g c = keeps_promises lines _ _ _ _ _ _ (_, c.count_words-ending.ensures, c.deliver.ensures)
