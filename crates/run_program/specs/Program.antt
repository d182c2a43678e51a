-- What `rccerun` does on its words (this project's profile).
use Rattle.std.specs.Prelude.{ℕ, List, codes, Option, Some, None, Result, Ok, Err}
use Rattle.script_rules.specs.Script.{Script}
use Rattle.script_gen.specs.Scripts.{gen_script_of}
use Rattle.outcomes.specs.Plans.{Plan, Program}
use Rattle.outcomes.specs.Plans.Plan.{Runs, Refuses, Reads}
use Rattle.rcce_words.specs.CommandLine.{parse_command}
use Rattle.rcce_words.specs.FaultTexts.{fault_text, word_numbered}
use Rattle.rcce_words.specs.HostFile.{host_kind_name, parse_hosts, most_host_bytes}
use Rattle.rcce_words.specs.ScriptFiles.{script_plan}
use Rattle.rcce_words.specs.declared.command.Job.{Job}
use Rattle.rcce_words.specs.declared.command.Work.{Work}
use Rattle.rcce_words.specs.declared.command.Work.TheVariants as work
use Rattle.rcce_words.specs.declared.command.WordFault.{WordFault}
use Rattle.rcce_words.specs.declared.host_file.HostFault.{HostFault}
use Rattle.run_program.specs.Reports.{made_ran, run_ran}

-- a script runs to its plain end
abbrev pub run_plan : Script → Plan
run_plan script = Runs (run_ran script)

-- the plan for a script's file: it is read, and its script runs to its plain end
abbrev pub file_plan : List ℕ → ℕ → Plan
file_plan file nue = script_plan run_plan file nue

-- the plan behind a host file: its cores lead on to the next plan, and its first fault refuses the file
abbrev pub listed_plan : List ℕ → Plan → Result (List ℕ) HostFault → Plan
listed_plan file next (Err fault) = Refuses file fault.line (host_kind_name fault.kind)
listed_plan file next (Ok cores) = next

-- the plan for the bytes of a host file
abbrev pub hosts_plan : List ℕ → ℕ → Plan → List ℕ → Plan
hosts_plan file nue next bytes = listed_plan file next (parse_hosts bytes nue)

-- the host file comes first, if there is one, and has at most 64 KiB
abbrev pub plan_after : List (List ℕ) → ℕ → Plan → Option ℕ → Plan
plan_after words nue next None = next
plan_after words nue next (Some at) = Reads (word_numbered words at) most_host_bytes (hosts_plan (word_numbered words at) nue next)

-- the run of the script that is made of a number: no file is asked for
abbrev pub made_plan : ℕ → ℕ → Plan
made_plan nue seed = Runs (made_ran seed (gen_script_of nue seed))

-- the script of a file, after the host file; or one that is made of a number
abbrev pub work_plan : List (List ℕ) → Job → Work → Result Plan (List ℕ)
work_plan words job (work.Script at) = Ok (plan_after words job.nue (file_plan (word_numbered words at) job.nue) job.hosts)
work_plan words job (work.Gen seed) = Ok (made_plan job.nue seed)

-- the words: refused, or a job
abbrev pub words_plan : List (List ℕ) → Result Job WordFault → Result Plan (List ℕ)
words_plan words (Err fault) = Err (fault_text words fault)
words_plan words (Ok job) = work_plan words job job.work

-- the launcher, by its name and what it does on its words
abbrev pub rccerun : Program
rccerun = record { name = codes "rccerun"; plan = λ words. words_plan words (parse_command words) }
