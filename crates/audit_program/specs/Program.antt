-- What `rcceaudit` does on its words (this project's profile).
use Rattle.std.specs.Prelude.{ℕ, true, false, if◌then◌else◌, List, [], ◌∷◌, codes, decimal, map, Option, Some, None, Result, Ok, Err}
use Rattle.std.specs.List.{range_with_len}
use Rattle.std.specs.Str.{bytes_eq}
use Rattle.outcomes.specs.Numbers.{file_named}
use Rattle.outcomes.specs.Outcomes.{Ran}
use Rattle.outcomes.specs.Plans.{Plan, Program}
use Rattle.outcomes.specs.Plans.Plan.{Runs, Refuses, Reads}
use Rattle.rcce_io.specs.Sending.{joined_texts}
use Rattle.rcce_words.specs.ScriptFiles.{script_plan}
use Rattle.rcce_words.specs.ScriptWords.{Command, plan_of, script_command}
use Rattle.rcce_audit.specs.declared.faults.LogFault.{LogFault}
use Rattle.rcce_audit.specs.declared.verdicts.Verdict.{Verdict}
use Rattle.rcce_audit.specs.declared.verdicts.Verdict.TheVariants as verdict
use Rattle.audit_program.specs.declared.report.Judged.{Judged}
use Rattle.rcce_audit.specs.Grammar.{log_of}
use Rattle.rcce_audit.specs.Kinds.{fault_name}
use Rattle.rcce_audit.specs.Logs.{LogView, most_log_bytes}
use Rattle.rcce_audit.specs.Texts.{log_text}
use Rattle.script_rules.specs.Script.{Script, rules_of}
use Rattle.plain_meaning.specs.Meaning.{plain_ends}
use Rattle.plain_meaning.specs.Ends.{all_finished}
use Rattle.log_run.specs.LogRuns.{plain_calls}
use Rattle.log_run.specs.Sizes.{has_room_for_all}

-- what a verdict comes to: one line on out
abbrev pub verdict_ran : Verdict → Ran
verdict_ran verdict.Yes = record { finished = true; out = codes "legal\n"; err = [] }
verdict_ran (verdict.No rank call) =
    record {
      finished = false;
      out = joined_texts (codes "not legal: ue " ∷ decimal rank ∷ codes " call " ∷ decimal call ∷ codes "\n" ∷ []);
      err = [];
    }

-- what a judged log comes to: the line of its verdict
abbrev pub judged_ran : Judged → Ran
judged_ran judged = verdict_ran judged.verdict

-- a log is judged, and its first fault refuses its file
abbrev pub log_plan : (LogView → Verdict) → List ℕ → Result LogView LogFault → Plan
log_plan judge file (Ok log) = Runs (verdict_ran (judge log))
log_plan judge file (Err fault) = Refuses file fault.line (fault_name fault.kind)

-- the bytes of a log's file
abbrev pub log_bytes_plan : (LogView → Verdict) → List ℕ → List ℕ → Plan
log_bytes_plan judge file bytes = log_plan judge file (log_of bytes)

-- the log's file has at most 64 MiB
abbrev pub log_file_plan : (LogView → Verdict) → List ℕ → Plan
log_file_plan judge file = Reads file most_log_bytes (log_bytes_plan judge file)

-- the words `-log -nue N SCRIPT`, and no others
abbrev pub command_of : List (List ℕ) → Option Command
command_of [] = None
command_of (log ∷ words) = if bytes_eq log (codes "-log") then script_command words else None

-- the log of a script's run: the calls that the plain meaning does for each rank, with their bytes and in order
abbrev pub script_log : Script → LogView
script_log script = record { nue = script.nue; comms = rules_of script.items; lists = map (plain_calls script) (range_with_len 0 48) }

-- what a run of a script comes to: its log
abbrev pub log_ran : Script → Ran
log_ran script = record { finished = all_finished (plain_ends script); out = log_text (script_log script); err = [] }

-- a script runs, where its calls are not more than a log may have of a rank
abbrev pub log_run_plan : List ℕ → Script → Plan
log_run_plan file script = if has_room_for_all script then Runs (log_ran script) else Refuses file 0 (codes "TooLong")

-- the script's file
abbrev pub audit_command_plan : Command → Plan
audit_command_plan command = script_plan (log_run_plan command.script) command.script command.nue

-- the words: a log is judged, or a run is logged
abbrev pub named_plan : (LogView → Verdict) → Option (List ℕ) → Option Command → Result Plan (List ℕ)
named_plan judge (Some file) command = Ok (log_file_plan judge file)
named_plan judge None command = plan_of audit_command_plan command

-- the words: a log is judged, a run is logged, or they are refused
abbrev pub audit_words_plan : (LogView → Verdict) → List (List ℕ) → Result Plan (List ℕ)
audit_words_plan judge words = named_plan judge (file_named words) (command_of words)

-- the program on words that name no log, for which nothing is judged: a run is logged, or the words are refused
abbrev pub rcceaudit_log : Program
rcceaudit_log = record { name = codes "rcceaudit"; plan = λ words. plan_of audit_command_plan (command_of words) }

-- the program, by its name and what it does on its words
abbrev pub rcceaudit : (LogView → Verdict) → Program
rcceaudit judge = record { name = codes "rcceaudit"; plan = audit_words_plan judge }
