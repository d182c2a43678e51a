use Rattle.std.proofs.Common.{◌∙◌, sym}
use Rattle.trace_text.proofs.StepLemmas.{goes, stops}
use Rattle.trace_text.proofs.words.place_of.Goals as goal

pub returns-in_err-core : goal.returns-in_err-core
returns-in_err-core c = c.from_residual.ensures ∙ sym (stops _ c.range_said.result _ c.range_said.ensures.gives c.in_err-core.was)

pub returns-in_err-line : goal.returns-in_err-line
returns-in_err-line c =
    c.from_residual-in_err-line.ensures
    ∙ sym (goes _ c.range_said.result _ c.range_said.ensures.gives c.in_ok-core.core c.in_ok-core.was ∙ stops _ c.range_said-2.result _ c.range_said-2.ensures.gives c.in_err-line.was)

pub returns-in_err-word : goal.returns-in_err-word
returns-in_err-word c =
    c.from_residual-in_err-word.ensures
    ∙ sym (goes _ c.range_said.result _ c.range_said.ensures.gives c.in_ok-core.core c.in_ok-core.was ∙ goes _ c.range_said-2.result _ c.range_said-2.ensures.gives c.in_ok-line.line c.in_ok-line.was
    ∙ stops _ c.range_said-3.result _ c.range_said-3.ensures.gives c.in_err-word.was)
