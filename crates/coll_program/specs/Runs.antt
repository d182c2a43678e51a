-- The ranks of a job before their first turns, and what a run of it comes to.
use Rattle.std.specs.Prelude.{◌≡◌, ℕ, ◌<◌, List, length, None, codes, Result, Ok, Err}
use Rattle.scc_mesh.specs.Scenes.{ChipView}
use Rattle.coll_run.specs.Teams.{AreFreshMembers, MemberView, srcs_of}
use Rattle.outcomes.specs.Coming.{IsMeant}
use Rattle.outcomes.specs.Complaints.{complaint_outcome, outcome_of}
use Rattle.outcomes.specs.Outcomes.{no_memory}
use Rattle.outcomes.specs.declared.complaint.Complaint.{Complaint}
use Rattle.coll_program.specs.History.{CollChipTells, HasRunCollective}
use Rattle.coll_program.specs.Jobs.{src_of}
use Rattle.coll_program.specs.Program.{job_ran, coll_job_of, no_files, coll_words_plan}
use Rattle.coll_program.specs.Reports.{coll_report_ran}
use Rattle.coll_program.specs.declared.command.Job.{Job}
use Rattle.coll_program.specs.declared.report.Report.{Report}

-- the first `count` ranks of a job before their first turns, with what they hand in
pub record AreRanksOf (job : Job) (count : ℕ) (team : List MemberView) : Type 0 where
  pub each : length team ≡ count
  pub fresh : AreFreshMembers job.more job.len job.nue team
  pub src : (k : ℕ) (d : MemberView) → k < length team → srcs_of team d k ≡ src_of job k

-- all of them
abbrev pub IsTeamOf : Job → List MemberView → Type 0
IsTeamOf job team = AreRanksOf job job.nue team

-- a run took place, or there was no memory for it
abbrev pub LaunchesJob : Job → ChipView → Result Report Complaint → Type 0
LaunchesJob job chip (Ok report) = (coll_report_ran report ≡ job_ran job) × HasRunCollective job chip
LaunchesJob job chip (Err why) = (complaint_outcome (codes "rccecoll") why ≡ no_memory (codes "rccecoll")) × (chip ≡ None)

-- what was done is what the words mean, and the chip tells it
abbrev pub RunsWords : List (List ℕ) → ChipView → Result Report Complaint → Type 0
RunsWords words chip answer =
    IsMeant (codes "rccecoll") (coll_words_plan (coll_job_of words)) no_files no_files
    (outcome_of (codes "rccecoll") coll_report_ran answer)
    × CollChipTells words chip (outcome_of (codes "rccecoll") coll_report_ran answer)
