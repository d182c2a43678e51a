-- What a report comes to.
use Rattle.std.specs.Prelude.{◌≡◌, ℕ, List}
use Rattle.mesh_load.specs.Mesh.{Link, lines_over_link}
use Rattle.mesh_load.specs.Tables.{load_on}
use Rattle.outcomes.specs.Outcomes.{Ran}
use Rattle.mesh_program.specs.declared.report.Report.{Report}
use Rattle.mesh_program.specs.Program.{mesh_ran_of}
use Rattle.plain_meaning.specs.Ends.{all_finished}
use Rattle.script_plain.specs.Matches.{plain_matches}
use Rattle.plain_meaning.specs.Meaning.{plain_ends}
use Rattle.script_rules.specs.Script.{Script}

-- whether each rank has finished, and the lines
abbrev pub mesh_report_ran : Report → Ran
mesh_report_ran report = mesh_ran_of report.finished (load_on report.load)

-- the report is that of a script's plain meaning
pub record IsReportOf (at : List ℕ) (script : Script) (report : Report) : Type 0 where
  pub finished : report.finished ≡ all_finished (plain_ends script)
  pub load : (link : Link) → load_on report.load link ≡ lines_over_link at (plain_matches script) link
