-- What `rccetrace` does on its words (this project's profile).
use Rattle.std.specs.Prelude.{ℕ, ◌+◌, Bool, true, false, if◌then◌else◌, List, [], ◌∷◌, codes, Option, Some, None, Result, Ok, Err}
use Rattle.std.specs.Str.{bytes_eq}
use Rattle.outcomes.specs.Numbers.{is_option}
use Rattle.outcomes.specs.Outcomes.{Ran}
use Rattle.outcomes.specs.Plans.{Plan, Program}
use Rattle.outcomes.specs.Plans.Plan.{Runs, Refuses, Reads}
use Rattle.rcce_words.specs.ScriptWords.{plan_of}
use Rattle.trace_judge.specs.Judged.{Judged, new_judged}
use Rattle.trace_judge.specs.Rulings.{RefusedAt, ruling_from}
use Rattle.trace_text.specs.Grammar.{trace_of}
use Rattle.trace_text.specs.Kinds.{trace_fault_name}
use Rattle.trace_text.specs.Traces.{TraceView, most_trace_bytes}
use Rattle.trace_text.specs.declared.faults.TraceFault.{TraceFault}
use Rattle.trace_program.specs.Lists.{finished_calls, first_event_line}
use Rattle.trace_program.specs.Texts.{kept_text, legal_text, refused_text}
use Rattle.trace_program.specs.declared.report.TraceVerdict.{TraceVerdict}
use Rattle.trace_program.specs.declared.report.TraceVerdict.TheVariants.{Legal, NotLegal}

-- a trace whose calls are asked for or not, by its file's name
pub record TraceCommand : Type 0 where
  pub asked : Bool
  pub file : List ℕ

-- what a ruling comes to: the chip's finished calls, or the line of the event that is refused
abbrev pub ruling_ran : Bool → TraceView → Result Judged RefusedAt → Ran
ruling_ran asked trace (Ok j) = record { finished = true; out = legal_text trace.setup.nue asked (finished_calls j); err = [] }
ruling_ran asked trace (Err at) =
    record { finished = false; out = refused_text (first_event_line trace.setup + at.number) at.rank at.why; err = [] }

-- what a trace comes to
abbrev pub trace_ran : Bool → TraceView → Ran
trace_ran asked trace = ruling_ran asked trace (ruling_from 0 (new_judged trace.setup) trace.events)

-- what a verdict comes to
abbrev pub verdict_shown : TraceVerdict → Ran
verdict_shown (Legal calls) = record { finished = true; out = kept_text calls.nue calls.finished; err = [] }
verdict_shown (NotLegal at) = record { finished = false; out = refused_text at.line at.rank at.why; err = [] }

-- a trace is judged, and its first fault refuses its file
abbrev pub said_plan : TraceCommand → Result TraceView TraceFault → Plan
said_plan command (Ok trace) = Runs (trace_ran command.asked trace)
said_plan command (Err fault) = Refuses command.file fault.line (trace_fault_name fault.kind)

-- the bytes of a trace's file
abbrev pub trace_plan : TraceCommand → List ℕ → Plan
trace_plan command bytes = said_plan command (trace_of bytes)

-- what a file's name asks for, with its calls or without; an option is no name
abbrev pub command_at : Bool → List ℕ → Option TraceCommand
command_at asked file = if is_option file then None else Some (record { asked = asked; file = file })

-- the words `TRACE` or `-calls TRACE`, and no others
abbrev pub trace_command : List (List ℕ) → Option TraceCommand
trace_command (file ∷ []) = command_at false file
trace_command (calls ∷ file ∷ []) = if bytes_eq calls (codes "-calls") then command_at true file else None
trace_command _ = None

-- the trace's file is read
abbrev pub trace_file_plan : TraceCommand → Plan
trace_file_plan command = Reads command.file most_trace_bytes (trace_plan command)

-- the program, by its name and what it does on its words
abbrev pub rccetrace : Program
rccetrace = record { name = codes "rccetrace"; plan = λ words. plan_of trace_file_plan (trace_command words) }
