-- What `rccelab` does on its words (this project's profile).
use Rattle.std.specs.Prelude.{ℕ, List, [], codes, map, Option, Some, None, is_none, Result, Ok, Err}
use Rattle.rcce_io.specs.Sending.{joined_texts}
use Rattle.outcomes.specs.Numbers.{file_named}
use Rattle.outcomes.specs.Outcomes.{Ran}
use Rattle.outcomes.specs.Plans.{Plan, Program}
use Rattle.outcomes.specs.Plans.Plan.{Runs, Refuses, Reads}
use Rattle.rcce_words.specs.ScriptWords.{plan_of}
use Rattle.lab_reader.specs.declared.faults.LabFault.{LabFault}
use Rattle.lab_reader.specs.declared.steps.Step.{Step}
use Rattle.lab_reader.specs.Faults.{lab_kind_name}
use Rattle.lab_reader.specs.Reading.{lab_of, most_lab_bytes}
use Rattle.lab_plain.specs.declared.said.Said.{Said}
use Rattle.lab_plain.specs.declared.said.Stopped.{Stopped}
use Rattle.lab_plain.specs.Meaning.{lab_done}
use Rattle.lab_plain.specs.Texts.{said_text, stopped_text}
use Rattle.lab_program.specs.declared.report.Lab.{Lab}

-- the line of a stop, if the lab stopped
abbrev pub stop_text : Option Stopped → List ℕ
stop_text None = []
stop_text (Some stopped) = stopped_text stopped

-- the end of a lab: whether it ran to its end, and what it printed
abbrev pub lab_ran_of : List Said → Option Stopped → Ran
lab_ran_of said stopped = record { finished = is_none stopped; out = joined_texts (map said_text said); err = stop_text stopped }

-- the end of a lab, from the result of its run
abbrev pub lab_ran : Lab → Ran
lab_ran lab = lab_ran_of lab.said.items lab.stopped

-- the end of the steps of a lab, by their meaning
abbrev pub steps_ran : List Step → Ran
steps_ran steps = lab_ran_of (lab_done steps).stand.said (lab_done steps).stop

-- runs the steps of a lab, or rejects its file with the first fault of its text
abbrev pub steps_plan : List ℕ → Result (List Step) LabFault → Plan
steps_plan file (Ok steps) = Runs (steps_ran steps)
steps_plan file (Err fault) = Refuses file fault.line (lab_kind_name fault.kind)

-- parses the bytes of a lab's file and runs its steps
abbrev pub lab_bytes_plan : List ℕ → List ℕ → Plan
lab_bytes_plan file bytes = steps_plan file (lab_of bytes)

-- reads a lab's file of at most 1 MiB and runs it
abbrev pub lab_file_plan : List ℕ → Plan
lab_file_plan file = Reads file most_lab_bytes (lab_bytes_plan file)

-- the program `rccelab`: its name, and what it does on its words, which must be `LAB` alone
abbrev pub rccelab : Program
rccelab = record { name = codes "rccelab"; plan = λ words. plan_of lab_file_plan (file_named words) }
