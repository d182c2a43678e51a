-- What a program complains of, and how it ends then.
use Rattle.std.specs.Prelude.{◌++◌, ℕ, List, Result, Ok, Err}
use Rattle.rcce_io.specs.Files.{FilesView}
use Rattle.outcomes.specs.declared.complaint.Complaint.{Complaint}
use Rattle.outcomes.specs.declared.complaint.Complaint.TheVariants as complaint
use Rattle.outcomes.specs.Outcomes.{Outcome, Ran, run_outcome, words_refused, file_refused, no_memory, absent, read_fault}
use Rattle.outcomes.specs.Plans.{Plan}
use Rattle.outcomes.specs.Plans.Plan.{Reads}
use Rattle.outcomes.specs.Coming.{Comes}

-- the outcome that a complaint stands for
abbrev pub complaint_outcome : List ℕ → Complaint → Outcome
complaint_outcome program (complaint.Words fault word afterwards value) =
    words_refused program (fault.now ++ (word.now ++ (afterwards.now ++ value.now)))
complaint_outcome program complaint.Memory = no_memory program
complaint_outcome program (complaint.Absent file) = absent program file.now
complaint_outcome program (complaint.ReadFault file) = read_fault program file.now
complaint_outcome program (complaint.Refused file line kind) = file_refused program file.now line kind.now

-- the outcome of what has run, or of a complaint
abbrev pub outcome_of : {R : Type 0} → List ℕ → (R → Ran) → Result R Complaint → Outcome
outcome_of program ran (Ok report) = run_outcome (ran report)
outcome_of program ran (Err why) = complaint_outcome program why

-- What the reading of a file says to the plan that asks for it: with bytes it comes to what it comes to with them, and
-- with a complaint to that.
abbrev pub ReadsFile : List ℕ → ℕ → FilesView → FilesView → Result (List ℕ) Complaint → Type 0
ReadsFile file limit before between (Ok bytes) = (program : List ℕ) (next : List ℕ → Plan) (after : FilesView) (o : Outcome) →
    Comes program (next bytes) between after o → Comes program (Reads file limit next) before after o
ReadsFile file limit before after (Err why) =
    (program : List ℕ) (next : List ℕ → Plan) → Comes program (Reads file limit next) before after (complaint_outcome program why)
