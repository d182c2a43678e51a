-- The status of a run of a script, by the words, the files and the plain meaning alone (this project's profile). Nothing of the
-- lines of `rccecheck` is in it: it is what `rccerun` answers for the words `-nue N SCRIPT` and the same file.
use Rattle.std.specs.Prelude.{◌≡◌, ◌⊎◌, ℕ, nat_lt, if◌then◌else◌, List, length, Option, Some, None, IfSome, Result, Ok, Err}
use Rattle.rcce_io.specs.Faults.{IsSteady}
use Rattle.rcce_io.specs.Files.{FilesView, NamedFile, contents_of}
use Rattle.script_reader.specs.declared.fault.ReadFault.{ReadFault}
use Rattle.script_reader.specs.Reading.{most_script_bytes, parse_script}
use Rattle.script_rules.specs.Script.{Script}
use Rattle.plain_meaning.specs.Ends.{all_finished}
use Rattle.plain_meaning.specs.Meaning.{plain_ends}
use Rattle.outcomes.specs.declared.status.Status.{Status}
use Rattle.outcomes.specs.declared.status.Status.TheVariants as status
use Rattle.outcomes.specs.Delivery.{AreSteady, Sinks}
use Rattle.rcce_words.specs.ScriptWords.{Command, script_command}

-- a script that was read: 0 exactly where each rank of its plain meaning finishes, else 3; a refused one: 2
abbrev pub parsed_status : Result Script ReadFault → Status
parsed_status (Err fault) = status.Script
parsed_status (Ok script) = if all_finished (plain_ends script) then status.Finished else status.Stuck

-- the script's file: 5 where it is absent, 2 where it has more than 4 MiB
abbrev pub contents_status : ℕ → Option (List ℕ) → Status
contents_status nue None = status.Files
contents_status nue (Some bytes) = if nat_lt most_script_bytes (length bytes) then status.Script else parsed_status (parse_script bytes nue)

-- a command, and 1 for words that are none
abbrev pub command_status : Option Command → List NamedFile → Status
command_status None files = status.Words
command_status (Some command) files = contents_status command.nue (contents_of command.script files)

-- words
abbrev pub run_status : List (List ℕ) → List NamedFile → Status
run_status words files = command_status (script_command words) files

-- Where the files tell their contents and no call failed, the status is that of a run of the script. The one other answer is
-- want of memory.
pub record HasRunStatus (words : List (List ℕ)) (files files_after : FilesView) (before after : Sinks) (s : Status) : Type 0 where
  pub steady : IfSome files.told (λ told. IsSteady files.faults files_after.faults → AreSteady before after
      → (s ≡ run_status words told) ⊎ (s ≡ status.Memory))
