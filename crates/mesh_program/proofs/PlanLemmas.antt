-- What a script comes to.
use Rattle.std.proofs.Common.{ℕ, Bool, List, refl, ap, ◌∙◌, inl}
use Rattle.rcce_io.specs.Files.{FilesView}
use Rattle.script_rules.specs.Script.{Script}
use Rattle.plain_meaning.specs.Ends.{all_finished}
use Rattle.script_plain.specs.Matches.{plain_matches}
use Rattle.plain_meaning.specs.Meaning.{plain_ends}
use Rattle.mesh_load.specs.Mesh.{lines_over_link}
use Rattle.mesh_load.specs.Tables.{load_on}
use Rattle.outcomes.specs.Coming.{Comes}
use Rattle.outcomes.specs.Outcomes.{run_outcome}
use Rattle.mesh_program.specs.Program.{mesh_ran_by, mesh_ran_of, mesh_run_plan}
use Rattle.mesh_program.specs.Reports.{IsReportOf, mesh_report_ran}
use Rattle.mesh_program.specs.declared.report.Report.{Report}
use Rattle.mesh_program.proofs.TextLaws.{mesh_same}

-- a script whose report is that of its plain meaning
pub comes_run : (program at : List ℕ) (script : Script) (report : Report) (files : FilesView) → IsReportOf at script report →
    Comes program (mesh_run_plan at script) files files (run_outcome (mesh_report_ran report))
comes_run program at script report files is = (
  refl,
  inl (ap (λ (finished : Bool). run_outcome (mesh_ran_of finished (load_on report.load))) is.finished
      ∙ ap (λ (text : List ℕ). run_outcome (mesh_ran_by (all_finished (plain_ends script)) text)) (mesh_same (load_on report.load) (lines_over_link at (plain_matches script)) is.load)),
)
