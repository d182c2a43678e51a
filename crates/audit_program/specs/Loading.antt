-- What the steps of a run that is logged say to the plan that they carry out.
use Rattle.std.specs.Prelude.{◌≡◌, ℕ, true, List, codes, None, Result, Ok, Err}
use Rattle.rcce_io.specs.Files.{FilesView}
use Rattle.scc_mesh.specs.Scenes.{ChipView}
use Rattle.script_rules.specs.Script.{Script}
use Rattle.outcomes.specs.Coming.{ByTest, Comes, IsMeant}
use Rattle.outcomes.specs.Complaints.{complaint_outcome}
use Rattle.outcomes.specs.Delivery.{Delivers, Sinks}
use Rattle.outcomes.specs.Outcomes.{Outcome, Ran, run_outcome}
use Rattle.outcomes.specs.Plans.{Plan}
use Rattle.outcomes.specs.Statuses.{is_quiet}
use Rattle.outcomes.specs.declared.complaint.Complaint.{Complaint}
use Rattle.outcomes.specs.declared.status.Status.{Status}
use Rattle.log_run.specs.Sizes.{has_room_for_all}
use Rattle.audit_program.specs.History.{HasLogged}
use Rattle.audit_program.specs.declared.logged.Logged.{Logged}
use Rattle.audit_program.specs.Program.{log_ran, log_run_plan}

-- a call ended with an outcome that its plan comes to, of which this is also true. Seven parameters: what else is true, the
-- plan, the files and the sinks before and after the call, and its status.
abbrev pub EndsByPlan : (Outcome → Type 0) → Result Plan (List ℕ) → FilesView → FilesView → Sinks → Sinks → Status → Type 0
EndsByPlan also plan files files_after before after s =
    (o : Outcome) × IsMeant (codes "rcceaudit") plan files files_after o × Delivers o before after s × also o

-- what a run comes to
abbrev pub logged_ran : Logged → Ran
logged_ran logged = log_ran logged.run

-- what the run of a script comes to, or why there is none
abbrev pub LaunchesLogged : List ℕ → Script → ChipView → Result Logged Complaint → Type 0
LaunchesLogged file script chip (Ok logged) = (logged.run ≡ script) × (has_room_for_all script ≡ true) × HasLogged script chip
LaunchesLogged file script chip (Err why) =
    ((files : FilesView) → Comes (codes "rcceaudit") (log_run_plan file script) files files (complaint_outcome (codes "rcceaudit") why))
    × (chip ≡ None)

-- the run of a script was carried out and its log written, or why there is none
pub record HasRan (file : List ℕ) (script : Script) (chip : ChipView) (before after : Sinks) (s : Status) : Type 0 where
  pub outcome : Outcome
  pub comes : (files : FilesView) → Comes (codes "rcceaudit") (log_run_plan file script) files files outcome
  pub delivers : Delivers outcome before after s
  pub shows : ByTest (is_quiet outcome.status) (chip ≡ None) ((outcome ≡ run_outcome (log_ran script)) × HasLogged script chip)
