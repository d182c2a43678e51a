-- What it means that a trace is legal (this project's profile).
use Rattle.std.specs.Prelude.{◌≡◌, ℕ, ◌<◌, Bool, true, List, [], map, Some, Ok}
use Rattle.std.specs.List.{range_with_len}
use Rattle.outcomes.specs.Coming.{FileHolds}
use Rattle.outcomes.specs.Delivery.{Shows, Sinks}
use Rattle.outcomes.specs.Outcomes.{Ran, run_outcome}
use Rattle.outcomes.specs.declared.status.Status.TheVariants as status
use Rattle.rcce_io.specs.Files.{FilesView}
use Rattle.rcce_io.specs.Reading.{ReadsAll}
use Rattle.scc_base.specs.Calls.{DataCall}
use Rattle.scc_proto.specs.Agreement.{Agrees}
use Rattle.scc_proto.specs.Histories.{IsPermittedRun, memory_from, records_of}
use Rattle.scc_proto.specs.PairMessages.{PairMessages}
use Rattle.scc_proto.specs.Stages.{blank}
use Rattle.scc_proto.specs.Words.{IsRun, zeros}
use Rattle.trace_text.specs.Grammar.{trace_of}
use Rattle.trace_text.specs.Traces.{TraceView, most_trace_bytes}
use Rattle.trace_program.specs.Program.{TraceCommand, trace_command}
use Rattle.trace_program.specs.Texts.{legal_text}

-- The events are a run of the chip's words from 0, each permitted by the record of its rank when it is made. So words and records
-- agree, and what a rank has received of another one is what that one has sent it, whole, once and in order, but for a message
-- that is open or on its way.
pub record IsLegalTrace (trace : TraceView) : Type 0 where
  pub run : IsRun zeros trace.events
  pub permitted : IsPermittedRun trace.setup (λ r. blank) trace.events
  pub agrees : Agrees trace.setup (memory_from zeros trace.events) (records_of trace.setup trace.events)
  pub messages : (from to : ℕ) → from < trace.setup.nue → PairMessages trace.setup from to (records_of trace.setup trace.events)

-- the calls that the ranks 0 to 47 have finished, by the records of the trace's events
abbrev pub finished_calls_of : TraceView → List (List DataCall)
finished_calls_of trace = map (λ r. (records_of trace.setup trace.events r).calls) (range_with_len 0 48)

-- what is printed of a legal trace: the calls that its events have finished
abbrev pub legal_ran : Bool → TraceView → Ran
legal_ran asked trace = record { finished = true; out = legal_text trace.setup.nue asked (finished_calls_of trace); err = [] }

-- The words name a file, and its reading gave a text, with no fault: the contents of the file, where files are told. The text is
-- that of a legal trace, whose calls are printed, and nothing else is. Five parameters: the words, the files and the sinks, both
-- before and after.
pub record NamesLegal (words : List (List ℕ)) (files files_after : FilesView) (before after : Sinks) : Type 0 where
  pub command : TraceCommand
  pub asked : trace_command words ≡ Some command
  pub text : List ℕ
  pub read : ReadsAll command.file most_trace_bytes files files_after (Ok text)
  pub holds : FileHolds files.told command.file text
  pub trace : TraceView
  pub said : trace_of text ≡ Ok trace
  pub legal : IsLegalTrace trace
  pub printed : Shows (run_outcome (legal_ran command.asked trace)) before after status.Finished
