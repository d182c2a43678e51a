-- What a report comes to.
use Rattle.std.specs.Prelude.{[]}
use Rattle.outcomes.specs.Outcomes.{Ran}
use Rattle.check_program.specs.declared.report.Report.{Report}
use Rattle.check_program.specs.Texts.{check_text}

-- whether each rank has finished, and the lines
abbrev pub report_ran : Report → Ran
report_ran report = record { finished = report.finished; out = check_text report.matches report.found.items; err = [] }
