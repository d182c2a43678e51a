-- How a run of `rccelab` on a lab's file ends.
use Rattle.std.proofs.Common.{◌≡◌, ◌≤◌, ℕ, Bool, true, false, List, [], length, refl, sym, subst, ap, inl, inr, Option, Some, None, Result, Ok, Err}
use Rattle.std.specs.Prelude.{nat_lt}
use Rattle.rcce_io.specs.Files.{FilesView}
use Rattle.rcce_io.specs.Reading.{ReadsAll}
use Rattle.rcce_io.specs.declared.reading.ReadEnd.{ReadEnd}
use Rattle.rcce_io.specs.declared.reading.ReadEnd.TheVariants as ends
use Rattle.outcomes.specs.Coming.{ByTest, Comes, LeadsOn}
use Rattle.outcomes.specs.Complaints.{ReadsFile, complaint_outcome}
use Rattle.outcomes.specs.Outcomes.{Outcome, Ran, file_refused, run_outcome, too_long}
use Rattle.outcomes.specs.Plans.{Plan}
use Rattle.outcomes.specs.Plans.Plan.{Runs}
use Rattle.outcomes.specs.declared.complaint.Complaint.{Complaint}
use Rattle.outcomes.specs.declared.status.Status.TheVariants as status
use Rattle.outcomes.proofs.ReadingLemmas.{holds_short}
use Rattle.outcomes.proofs.StatusLemmas.{complaint_quiet, run_loud}
use Rattle.lab_reader.specs.declared.faults.LabFault.{LabFault}
use Rattle.lab_reader.specs.declared.steps.Step.{Step}
use Rattle.lab_reader.specs.Faults.{lab_kind_name}
use Rattle.lab_reader.specs.Reading.{lab_of, most_lab_bytes}
use Rattle.lab_plain.specs.Meaning.{lab_done}
use Rattle.lab_run.specs.declared.run.LabLeft.{LabLeft}
use Rattle.lab_run.specs.declared.run.LabRun.{LabRun}
use Rattle.lab_run.specs.Stands.{HasDoneLab}
use Rattle.lab_program.specs.History.{LabTells, WasMadeBy}
use Rattle.lab_program.specs.Program.{lab_ran_of, steps_plan}

-- a lab that is rejected
pub comes_refused : (program file : List ℕ) (said : Result (List Step) LabFault) (fault : LabFault) (kind : List ℕ) (files : FilesView) → said ≡ Err fault → kind ≡ lab_kind_name fault.kind
    → Comes program (steps_plan file said) files files (file_refused program file fault.line kind)
comes_refused program file said fault kind files same named =
    subst (λ (s : Result (List Step) LabFault). Comes program (steps_plan file s) files files (file_refused program file fault.line kind)) (sym same)
    (refl, inl (ap (λ (k : List ℕ). file_refused program file fault.line k) named))

-- a lab that was run
pub comes_done : (program file : List ℕ) (read : Result (List Step) LabFault) (steps : List Step) (run : LabRun) (files : FilesView) → read ≡ Ok steps
    → HasDoneLab (lab_done steps) run → Comes program (steps_plan file read) files files (run_outcome (lab_ran_of run.said.items run.stopped))
comes_done program file read steps run files same done =
    subst (λ (s : Result (List Step) LabFault). Comes program (steps_plan file s) files files (run_outcome (lab_ran_of run.said.items run.stopped))) (sym same)
    (refl, inl (λ i. run_outcome (lab_ran_of (done.printed i) (done.why i))))

-- ---- what was read

-- the end of a program that prints these bytes
abbrev shown : List ℕ → Ran
shown bytes = record { finished = true; out = bytes; err = [] }

abbrev shown_plan : List ℕ → Plan
shown_plan bytes = Runs (shown bytes)

-- A reading that continues each plan with these bytes returned them: a plan that prints what it reads shows them.
pub read_gave : (file : List ℕ) (limit : ℕ) (before between : FilesView) (bytes : List ℕ) → ReadsFile file limit before between (Ok bytes) → ReadsAll file limit before between (Ok bytes)
read_gave file limit before between bytes reads =
    let came = reads [] shown_plan between (run_outcome (shown bytes)) (refl, inl refl) in
    by came.0 came.1 came.2 came.3
  where
    read : (mid : FilesView) (other : List ℕ) → ReadsAll file limit before mid (Ok other) → Comes [] (shown_plan other) mid between (run_outcome (shown bytes)) → ReadsAll file limit before between (Ok bytes)
    read mid other was (stays, inl is) =
        subst (λ (b : List ℕ). ReadsAll file limit before between (Ok b)) (sym (ap (λ (x : Outcome). x.out) is))
        (subst (λ (now : FilesView). ReadsAll file limit before now (Ok other)) (sym stays) was)
    read mid other was (stays, inr is) = let e : status.Finished ≡ status.Memory = ap (λ (x : Outcome). x.status) is in absurd (cc)

    short : (long : Bool) (mid : FilesView) (other : List ℕ) → ReadsAll file limit before mid (Ok other)
        → ByTest long ((between ≡ mid) × (run_outcome (shown bytes) ≡ too_long [] file)) (Comes [] (shown_plan other) mid between (run_outcome (shown bytes))) → ReadsAll file limit before between (Ok bytes)
    short true mid other was on = let e : status.Finished ≡ status.Script = ap (λ (x : Outcome). x.status) on.1 in absurd (cc)
    short false mid other was on = read mid other was on

    by : (mid : FilesView) (answer : Result (List ℕ) ReadEnd) → ReadsAll file limit before mid answer
        → LeadsOn [] file limit (λ other. Comes [] (shown_plan other) mid between (run_outcome (shown bytes))) mid between (run_outcome (shown bytes)) answer → ReadsAll file limit before between (Ok bytes)
    by mid (Ok other) was leads = short (nat_lt limit (length other)) mid other was leads
    by mid (Err ends.Absent) was leads = let e : status.Finished ≡ status.Files = ap (λ (x : Outcome). x.status) leads.1 in absurd (cc)
    by mid (Err ends.Failed) was leads = let e : status.Finished ≡ status.Files = ap (λ (x : Outcome). x.status) leads.1 in absurd (cc)
    by mid (Err ends.Memory) was leads = let e : status.Finished ≡ status.Memory = ap (λ (x : Outcome). x.status) leads.1 in absurd (cc)

-- ---- what is left

-- a lab that was run leaves its chip and its cores
pub tells_done : (before after : FilesView) (file bytes : List ℕ) (steps : List Step) (run : LabRun) (left : Option LabLeft) → lab_of bytes ≡ Ok steps → length bytes ≤ most_lab_bytes → ReadsAll file most_lab_bytes before after (Ok bytes)
    → HasDoneLab (lab_done steps) run → left ≡ Some run.left → LabTells before after (Some file) left (run_outcome (lab_ran_of run.said.items run.stopped))
tells_done before after file bytes steps run left same few read done is =
    let o : Outcome = run_outcome (lab_ran_of run.said.items run.stopped) in
    subst (λ (b : Bool). ByTest b (left ≡ None) (WasMadeBy before after file left o)) (sym (run_loud (lab_ran_of run.said.items run.stopped)))
    (record {
      steps = steps;
      stand = (bytes, read, few, holds_short before.told file most_lab_bytes bytes few read.2, same);
      comes = λ i. run_outcome (lab_ran_of (done.printed i) (done.why i));
      by = run.left;
      is = is;
      made = done.left;
    })

-- a run that ends in a complaint leaves nothing
pub tells_quiet : (before after : FilesView) (program file : List ℕ) (left : Option LabLeft) (why : Complaint) → left ≡ None → LabTells before after (Some file) left (complaint_outcome program why)
tells_quiet before after program file left why none =
    subst (λ (b : Bool). ByTest b (left ≡ None) (WasMadeBy before after file left (complaint_outcome program why))) (sym (complaint_quiet program why)) none

-- what is left belongs to the file that the words name, if they name one
pub tells_named : (before after : FilesView) (named file : Option (List ℕ)) (left : Option LabLeft) (o : Outcome) → named ≡ file → LabTells before after named left o → LabTells before after file left o
tells_named before after named file left o same tells = subst (λ (n : Option (List ℕ)). LabTells before after n left o) same tells
