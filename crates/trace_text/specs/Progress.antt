-- How a reading of a trace is held.
use Rattle.std.specs.Prelude.{◌≡◌, ◌<◌, ℕ, zero, suc, List, [], length, take, Option, Some, None, Result, Ok, Err}
use Rattle.trace_text.specs.declared.faults.TraceFault.{TraceFault}
use Rattle.trace_text.specs.declared.reader.LineTaken.{LineTaken}
use Rattle.trace_text.specs.declared.reader.LineTaken.TheVariants as taken
use Rattle.trace_text.specs.declared.reader.TraceReader.{TraceReader}
use Rattle.trace_text.specs.declared.walks.LineWalk.{LineWalk}
use Rattle.trace_text.specs.Grammar.{TraceReading, event_added, line_taken}
use Rattle.trace_text.specs.Views.{rank_event, rank_events}
use Rattle.trace_text.specs.Walks.{last_line, text_reading, whole_lines}

-- how far the reader has come
abbrev pub progress_of : TraceReader → TraceReading
progress_of reader = record {
  trace = record {
    setup = record { nue = reader.nue; layout = reader.layout; hosts = reader.hosts; comms = reader.comms };
    events = rank_events reader.made.items;
  };
  comm = reader.comm;
}

-- whether a line was taken, and the reading after it
abbrev pub TakesTraceLine : TraceReading → List ℕ → TraceReading → LineTaken → Type 0
TakesTraceLine reading line next taken.Refused = line_taken reading line ≡ None
TakesTraceLine reading line next taken.Split = (line_taken reading line ≡ Some next) × (next.trace.events ≡ [])
TakesTraceLine reading line next (taken.Event made) =
    (line_taken reading line ≡ Some next) × (next ≡ event_added reading (rank_event made)) × (made.rank < reading.trace.setup.nue)

-- a reading, or the first fault
abbrev pub said_with : Option TraceFault → TraceReading → Result TraceReading TraceFault
said_with None reading = Ok reading
said_with (Some fault) reading = Err fault

-- what n lines have said: nothing where n is 0, and else a reading or the first fault
abbrev pub said_by : ℕ → Option TraceFault → TraceReading → Option (Result TraceReading TraceFault)
said_by zero fault reading = None
said_by (suc n) fault reading = Some (said_with fault reading)

-- what the lines that were walked over have said
abbrev pub walk_said : LineWalk → Option (Result TraceReading TraceFault)
walk_said w = said_by w.lines w.fault (progress_of w.reader)

-- the walk has gone over this text: of the line that it is in it keeps no more than tells that it is too long
pub record HasWalked (text : List ℕ) (w : LineWalk) : Type 0 where
  pub lines : w.lines ≡ length (whole_lines text)
  pub line : w.line.items ≡ take 256 (last_line text)
  pub said : text_reading text ≡ walk_said w
  pub first : w.lines ≡ 0 → w.fault ≡ None
