-- What the reading of a script's file says to its plan.
use Rattle.std.proofs.Common.{◌≡◌, ℕ, ◌≤◌, List, length, refl, sym, subst, ap, inl, Option, Some, Result, Ok, Err}
use Rattle.rcce_io.specs.Files.{FilesView}
use Rattle.script_reader.specs.declared.fault.ReadFault.{ReadFault}
use Rattle.script_rules.specs.Kinds.{kind_name}
use Rattle.script_reader.specs.Reading.{most_script_bytes, parse_script}
use Rattle.script_rules.specs.Script.{Script}
use Rattle.outcomes.specs.Coming.{Comes, FileHolds, IsMeant}
use Rattle.outcomes.specs.Complaints.{ReadsFile}
use Rattle.outcomes.specs.Outcomes.{Outcome, file_refused}
use Rattle.outcomes.specs.Plans.{Plan}
use Rattle.outcomes.specs.declared.complaint.Complaint.{Complaint}
use Rattle.rcce_words.specs.ScriptWords.{plan_of}
use Rattle.rcce_words.specs.ScriptFiles.{ReadsBytes, ReadsScript, bytes_plan, parsed_plan}

-- a script that is refused
pub comes_refused : (program : List ℕ) (next : Script → Plan) (file bytes : List ℕ) (nue : ℕ) (fault : ReadFault) (kind : List ℕ) (files : FilesView) → parse_script bytes nue ≡ Err fault → kind ≡ kind_name fault.kind
    → Comes program (bytes_plan next file nue bytes) files files (file_refused program file fault.line kind)
comes_refused program next file bytes nue fault kind files said named =
    subst (λ (r : Result Script ReadFault). Comes program (parsed_plan next file r) files files (file_refused program file fault.line kind)) (sym said)
    (refl, inl (ap (λ (k : List ℕ). file_refused program file fault.line k) named))

-- what the reading of the file's bytes says is what the reading of the file says
pub reads_by : (file : List ℕ) (nue : ℕ) (bytes : List ℕ) (before between : FilesView) (answer : Result Script Complaint) → ReadsFile file most_script_bytes before between (Ok bytes) → length bytes ≤ most_script_bytes
    → FileHolds before.told file bytes → ReadsBytes file nue bytes answer → ReadsScript file nue before between answer
reads_by file nue bytes before between (Ok script) reads few holds said = record {
  goes = λ program next end o came. reads program (bytes_plan next file nue) end o
      (subst (λ (r : Result Script ReadFault). Comes program (parsed_plan next file r) between end o) (sym said) came);
  stands = (bytes, few, holds, said);
}
reads_by file nue bytes before between (Err why) reads few holds came = λ program next. reads program (bytes_plan next file nue) between _ (came program next between)

-- words that are a command come to what it comes to
pub meant_by : {C : Type 0} → (program : List ℕ) (plan : C → Plan) (asked : C) (command : Option C) (before after : FilesView) (o : Outcome) → Some asked ≡ command
    → Comes program (plan asked) before after o → IsMeant program (plan_of plan command) before after o
meant_by {C} program plan asked command before after o is came = subst (λ (c : Option C). IsMeant program (plan_of plan c) before after o) is came
