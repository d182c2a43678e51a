-- What a call of `rccelab` leaves (this project's profile).
use Rattle.std.specs.Prelude.{◌≡◌, ◌≤◌, ℕ, List, length, Option, Some, None, Ok}
use Rattle.rcce_io.specs.Files.{FilesView}
use Rattle.rcce_io.specs.Reading.{ReadsAll}
use Rattle.outcomes.specs.Coming.{ByTest, FileHolds}
use Rattle.outcomes.specs.Outcomes.{Outcome, run_outcome}
use Rattle.outcomes.specs.Statuses.{is_quiet}
use Rattle.lab_reader.specs.declared.steps.Step.{Step}
use Rattle.lab_reader.specs.Reading.{lab_of, most_lab_bytes}
use Rattle.lab_plain.specs.Meaning.{lab_done}
use Rattle.lab_run.specs.declared.run.LabLeft.{LabLeft}
use Rattle.lab_run.specs.Stands.{IsLeftBy}
use Rattle.lab_program.specs.Program.{steps_ran}

-- These are the steps of a file's lab, which was read without a fault. If the files report their contents, they are parsed from these. The
-- files are given before and after the reading.
abbrev pub StepsIn : List ℕ → FilesView → FilesView → List Step → Type 0
StepsIn file before after steps = (bytes : List ℕ) × ReadsAll file most_lab_bytes before after (Ok bytes) × (length bytes ≤ most_lab_bytes)
    × FileHolds before.told file bytes × (lab_of bytes ≡ Ok steps)

-- The outcome is that of the steps of the lab that was read, and the chip and the cores that made them are left.
pub record WasMadeBy (before after : FilesView) (file : List ℕ) (left : Option LabLeft) (o : Outcome) : Type 0 where
  pub steps : List Step
  pub stand : StepsIn file before after steps
  pub comes : o ≡ run_outcome (steps_ran steps)
  pub by : LabLeft
  pub is : left ≡ Some by
  pub made : IsLeftBy (lab_done steps) by

-- If the outcome is a run of a lab, the chip and the cores that are left made it, and the lab is that of the requested file as it was read.
-- Otherwise nothing is left.
abbrev pub LabTells : FilesView → FilesView → Option (List ℕ) → Option LabLeft → Outcome → Type 0
LabTells before after None left o = left ≡ None
LabTells before after (Some file) left o = ByTest (is_quiet o.status) (left ≡ None) (WasMadeBy before after file left o)
