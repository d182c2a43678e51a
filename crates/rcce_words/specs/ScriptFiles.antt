-- What a program plans for a script's file, and what its reading says to this plan (this project's profile).
use Rattle.std.specs.Prelude.{◌≡◌, ◌≤◌, ℕ, List, length, Option, Result, Ok, Err}
use Rattle.rcce_io.specs.Files.{FilesView, NamedFile}
use Rattle.script_reader.specs.declared.fault.ReadFault.{ReadFault}
use Rattle.script_rules.specs.Kinds.{kind_name}
use Rattle.script_reader.specs.Reading.{most_script_bytes, parse_script}
use Rattle.script_rules.specs.Script.{Script}
use Rattle.outcomes.specs.Coming.{Comes, FileHolds}
use Rattle.outcomes.specs.Complaints.{complaint_outcome}
use Rattle.outcomes.specs.Outcomes.{Outcome}
use Rattle.outcomes.specs.Plans.{Plan}
use Rattle.outcomes.specs.Plans.Plan.{Refuses, Reads}
use Rattle.outcomes.specs.declared.complaint.Complaint.{Complaint}

-- a script that was read leads on, and its first fault refuses its file
abbrev pub parsed_plan : (Script → Plan) → List ℕ → Result Script ReadFault → Plan
parsed_plan next file (Err fault) = Refuses file fault.line (kind_name fault.kind)
parsed_plan next file (Ok script) = next script

-- the bytes of a script's file, for a number of units of execution
abbrev pub bytes_plan : (Script → Plan) → List ℕ → ℕ → List ℕ → Plan
bytes_plan next file nue bytes = parsed_plan next file (parse_script bytes nue)

-- a script's file, which has at most 4 MiB
abbrev pub script_plan : (Script → Plan) → List ℕ → ℕ → Plan
script_plan next file nue = Reads file most_script_bytes (bytes_plan next file nue)

-- this script stands in the file, where files are told
abbrev pub ScriptIn : List ℕ → Option (List NamedFile) → ℕ → Script → Type 0
ScriptIn file told nue script =
    (bytes : List ℕ) × (length bytes ≤ most_script_bytes) × FileHolds told file bytes × (parse_script bytes nue ≡ Ok script)

-- the script stands in the file, and the plan of the file comes to what it comes to with this script
pub record LeadsTo (file : List ℕ) (nue : ℕ) (before after : FilesView) (script : Script) : Type 0 where
  pub goes : (program : List ℕ) (next : Script → Plan) (end : FilesView) (o : Outcome) → Comes program (next script) after end o
      → Comes program (script_plan next file nue) before end o
  pub stands : ScriptIn file before.told nue script

-- What the reading of a script's file says to its plan: with a script it leads to this one, and with a complaint the plan comes
-- to that.
abbrev pub ReadsScript : List ℕ → ℕ → FilesView → FilesView → Result Script Complaint → Type 0
ReadsScript file nue before after (Ok script) = LeadsTo file nue before after script
ReadsScript file nue before after (Err why) =
    (program : List ℕ) (next : Script → Plan) → Comes program (script_plan next file nue) before after (complaint_outcome program why)

-- what the reading of its bytes says to theirs
abbrev pub ReadsBytes : List ℕ → ℕ → List ℕ → Result Script Complaint → Type 0
ReadsBytes file nue bytes (Ok script) = parse_script bytes nue ≡ Ok script
ReadsBytes file nue bytes (Err why) =
    (program : List ℕ) (next : Script → Plan) (files : FilesView)
    → Comes program (bytes_plan next file nue bytes) files files (complaint_outcome program why)
