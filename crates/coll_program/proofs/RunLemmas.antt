-- What a run of a job comes to, and what words come to.
use Rattle.std.proofs.Common.{◌≡◌, inl, inr, ℕ, ◌<◌, ◌≤◌, List, [], ◌∷◌, length, codes, None, Some, Option, Result, Ok, Err, refl, sym, ◌∙◌, ap, subst, arith}
use Rattle.scc_base.specs.Setups.{SetupView}
use Rattle.scc_mesh.specs.Scenes.{ChipView, IsNew, about_in}
use Rattle.coll_more.specs.Ops.{data_calls}
use Rattle.coll_more.specs.Pieces.{pieces_for}
use Rattle.coll_run.specs.Teams.{AreFreshMembers, TeamHasEnded, IsFreshTeam, MemberView, srcs_of}
use Rattle.outcomes.specs.Coming.{IsMeant}
use Rattle.outcomes.specs.Complaints.{complaint_outcome}
use Rattle.outcomes.specs.Outcomes.{Outcome, no_memory, run_outcome, words_refused}
use Rattle.outcomes.specs.declared.complaint.Complaint.{Complaint}
use Rattle.coll_program.specs.History.{CollChipTells, HasRunCollective}
use Rattle.coll_program.specs.Jobs.{got_by, coll_setup_of, src_of}
use Rattle.coll_program.specs.Program.{coll_job_of, no_files, coll_words_plan}
use Rattle.coll_program.specs.Pieces.{dst_at}
use Rattle.coll_program.specs.Reports.{coll_report_ran}
use Rattle.coll_program.specs.Runs.{IsTeamOf, LaunchesJob, RunsWords}
use Rattle.coll_program.specs.Texts.{lines_by}
use Rattle.coll_program.specs.declared.command.Job.{Job}
use Rattle.coll_program.specs.declared.report.Report.{Report}
use Rattle.coll_program.proofs.TextLemmas.{dst_is, lines_same, pieces_same}

-- the ranks of a job on a chip that was just opened
pub fresh_team : (job : Job) (chip : ChipView) (team : List MemberView) → IsNew (coll_setup_of job.nue) chip → IsTeamOf job team → IsFreshTeam job.more job.len chip team
fresh_team job chip team new is =
    let nue : (about_in chip).nue ≡ job.nue = ap (λ (s : SetupView). s.nue) new.about in
    record {
      whole = new.whole;
      empty = λ r low. new.empty r;
      each = is.each ∙ sym nue;
      fresh = subst (λ (n : ℕ). AreFreshMembers job.more job.len n team) (sym nue) is.fresh;
    }

-- the first of a team
some_member : (team : List MemberView) → 1 ≤ length team → MemberView
some_member [] some = absurd (omega (arith, some))
some_member (m ∷ ms) some = m

module _ (job : Job) (chip now : ChipView) (team later : List MemberView) (some : 1 ≤ job.nue) (new : IsNew (coll_setup_of job.nue) chip) (is : IsTeamOf job team)
    (ended : TeamHasEnded job.more job.len chip team now later) where
  nue_is : (about_in chip).nue ≡ job.nue
  nue_is = ap (λ (s : SetupView). s.nue) new.about

  d : MemberView
  d = some_member team (let each = is.each in omega (arith, each, some))

  below : (k : ℕ) → k < job.nue → k < length team
  below k low = subst (λ (n : ℕ). k < n) (sym is.each) low

  -- the pieces are the job's
  pieces_are : (k : ℕ) → pieces_for job.more (about_in chip).nue job.len (srcs_of team d) k ≡ got_by job k
  pieces_are k =
      ap (λ (n : ℕ). pieces_for job.more n job.len (srcs_of team d) k) nue_is
      ∙ pieces_same job.more job.nue job.len (srcs_of team d) (src_of job) k some (λ j low. is.src j d (below j low))

  got : (k : ℕ) → k < job.nue → dst_at later k ≡ got_by job k
  got k low =
      dst_is later k d (subst (λ (n : ℕ). k < n) (sym ended.count) (below k low))
      ∙ ended.pieces k d (below k low)
      ∙ pieces_are k

  pub report_is : lines_by job.more job.nue (dst_at later) ≡ lines_by job.more job.nue (got_by job)
  report_is = lines_same job.more job.nue (dst_at later) (got_by job) some got

  pub has_run : HasRunCollective job now
  has_run = record {
    setup = ended.about ∙ new.about;
    whole = ended.whole;
    calls = λ k low.
        ended.calls k d (below k low)
        ∙ (λ i. data_calls job.more k (nue_is i) job.len (is.src k d (below k low) i) (pieces_are k i));
    none_open = λ k low. ended.none_open k (below k low);
    idle = λ k low. ended.idle k (below k low);
  }

-- ---- what words come to

module _ (words : List (List ℕ)) (chip : ChipView) where
  quiet_tells : (o : Outcome) → o ≡ no_memory (codes "rccecoll") → chip ≡ None → CollChipTells words chip o
  quiet_tells o same blank = subst (CollChipTells words chip) (sym same) blank

  pub runs_job : (job : Job) (answer : Result Report Complaint) → coll_job_of words ≡ Some job → LaunchesJob job chip answer → RunsWords words chip answer
  runs_job job (Ok report) is launched = (
    subst (λ (o : Option Job). IsMeant (codes "rccecoll") (coll_words_plan o) no_files no_files (run_outcome (coll_report_ran report))) (sym is) (refl, inl (ap run_outcome launched.0)),
    (job, is, launched.1),
  )
  runs_job job (Err why) is launched = (
    subst (λ (o : Option Job). IsMeant (codes "rccecoll") (coll_words_plan o) no_files no_files (complaint_outcome (codes "rccecoll") why)) (sym is) (refl, inr launched.0),
    quiet_tells (complaint_outcome (codes "rccecoll") why) launched.0 launched.1,
  )

  pub refuses_words : (why : Complaint) → coll_job_of words ≡ None → complaint_outcome (codes "rccecoll") why ≡ words_refused (codes "rccecoll") (codes "words refused") → chip ≡ None
      → RunsWords words chip (Err why)
  refuses_words why none same blank = (
    subst (λ (o : Option Job). IsMeant (codes "rccecoll") (coll_words_plan o) no_files no_files (complaint_outcome (codes "rccecoll") why)) (sym none) (refl, same),
    subst (CollChipTells words chip) (sym same) blank,
  )
