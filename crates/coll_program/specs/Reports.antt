-- What a report comes to.
use Rattle.std.specs.Prelude.{true, []}
use Rattle.outcomes.specs.Outcomes.{Ran}
use Rattle.coll_program.specs.Pieces.{dst_at}
use Rattle.coll_program.specs.Texts.{lines_by}
use Rattle.coll_program.specs.declared.report.Report.{Report}

-- a report tells the lines of its ranks
abbrev pub coll_report_ran : Report → Ran
coll_report_ran report = record { finished = true; out = lines_by report.job.more report.job.nue (dst_at report.team.items); err = [] }
