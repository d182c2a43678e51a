-- The status that is expected of `rccecheck` is that of a run of the script.
use Rattle.std.proofs.Common.{◌≡◌, ℕ, Bool, true, false, cond, List, length, Option, Some, None, IfSome, Result, Ok, Err, refl, ◌∙◌, ◌⊎◌, inl, inr}
use Rattle.std.specs.Prelude.{nat_lt}
use Rattle.rcce_io.specs.Faults.{IsSteady}
use Rattle.rcce_io.specs.Files.{FilesView, NamedFile, contents_of}
use Rattle.script_reader.specs.declared.fault.ReadFault.{ReadFault}
use Rattle.script_reader.specs.Reading.{most_script_bytes, parse_script}
use Rattle.script_rules.specs.Script.{Script}
use Rattle.rcce_words.specs.ScriptFiles.{bytes_plan, parsed_plan}
use Rattle.rcce_words.specs.ScriptWords.{Command, plan_of, script_command}
use Rattle.outcomes.specs.declared.status.Status.{Status}
use Rattle.outcomes.specs.declared.status.Status.TheVariants as status
use Rattle.outcomes.specs.Delivery.{AreSteady, ShowsOr, Sinks}
use Rattle.outcomes.specs.Outcomes.{Outcome, too_long}
use Rattle.outcomes.specs.Plans.{contents_outcome, expected_outcome, plan_outcome, words_outcome}
use Rattle.outcomes.specs.Promises.{Promises}
use Rattle.check_program.specs.Program.{command_plan, rccecheck, check_run_plan}
use Rattle.check_program.specs.Statuses.{HasRunStatus, command_status, contents_status, parsed_status, run_status}

module _ (program : List ℕ) (files : List NamedFile) where
  of_parsed : (file : List ℕ) (parsed : Result Script ReadFault) → (plan_outcome program (parsed_plan check_run_plan file parsed) files).status ≡ parsed_status parsed
  of_parsed file (Err fault) = refl
  of_parsed file (Ok script) = refl

  of_length : (long : Bool) (file : List ℕ) (o : Outcome) (s : Status) → o.status ≡ s → (cond long (too_long program file) o).status ≡ cond long status.Script s
  of_length true file o s is = refl
  of_length false file o s is = is

  of_contents : (command : Command) (contents : Option (List ℕ))
      → (contents_outcome program command.script most_script_bytes (λ bytes. plan_outcome program (bytes_plan check_run_plan command.script command.nue bytes) files) contents).status ≡ contents_status command.nue contents
  of_contents command None = refl
  of_contents command (Some bytes) =
      of_length (nat_lt most_script_bytes (length bytes)) command.script (plan_outcome program (bytes_plan check_run_plan command.script command.nue bytes) files) (parsed_status (parse_script bytes command.nue))
      (of_parsed command.script (parse_script bytes command.nue))

  of_command : (command : Option Command) → (words_outcome program (plan_of command_plan command) files).status ≡ command_status command files
  of_command None = refl
  of_command (Some command) = of_contents command (contents_of command.script files)

-- a call that shows the expected outcome has its status
pub shown : (words : List (List ℕ)) (told : List NamedFile) (before after : Sinks) (s : Status) → ShowsOr rccecheck.name (expected_outcome rccecheck words told) before after s → (s ≡ run_status words told) ⊎ (s ≡ status.Memory)
shown words told before after s (inl shows) = inl (shows.same_status ∙ of_command rccecheck.name told (script_command words))
shown words told before after s (inr memory) = inr memory.same_status

by_told : (words : List (List ℕ)) (told : Option (List NamedFile)) (faults faults_after : ℕ) (before after : Sinks) (s : Status)
    → IfSome told (λ t. IsSteady faults faults_after → AreSteady before after → ShowsOr rccecheck.name (expected_outcome rccecheck words t) before after s)
    → IfSome told (λ t. IsSteady faults faults_after → AreSteady before after → (s ≡ run_status words t) ⊎ (s ≡ status.Memory))
by_told words None faults faults_after before after s is = tt
by_told words (Some t) faults faults_after before after s is = λ steady sinks_steady. shown words t before after s (is steady sinks_steady)

-- what is promised of a call gives its status
pub has_run_status : (words : List (List ℕ)) (files files_after : FilesView) (before after : Sinks) (s : Status) → Promises rccecheck words files files_after before after s
    → HasRunStatus words files files_after before after s
has_run_status words files files_after before after s promises = record { steady = by_told words files.told files.faults files_after.faults before after s promises.output }
