-- How far a trace is heard: its text is walked over, its events are judged, and its finished calls are kept.
use Rattle.std.specs.Prelude.{◌≡◌, ◌≢◌, ℕ, ◌+◌, ◌<◌, ◌≤◌, ◌^◌, Bool, true, false, List, [], length, map, slice_index, Option, Some, None, Result, Ok, Err, Vec}
use Rattle.std.specs.declared.alloc.Global.{Global}
use Rattle.rcce_audit.specs.Grammar.{no_calls}
use Rattle.rcce_audit.specs.Views.{data_lists}
use Rattle.rcce_audit.specs.declared.logs.LogCall.{LogCall}
use Rattle.rcce_io.specs.declared.reading.ReadEnd.{ReadEnd}
use Rattle.scc_base.specs.Calls.{DataCall}
use Rattle.trace_judge.specs.Judged.{chip_of, new_judged}
use Rattle.trace_judge.specs.Rulings.{ruling_from}
use Rattle.trace_text.specs.Grammar.{TraceReading, event_added, trace_of}
use Rattle.trace_text.specs.Traces.{TraceView}
use Rattle.trace_text.specs.Views.{rank_event}
use Rattle.trace_text.specs.Walks.{HasComeTo, text_reading}
use Rattle.trace_text.specs.declared.faults.TraceFault.{TraceFault}
use Rattle.trace_text.specs.declared.traces.TraceEvent.{TraceEvent}
use Rattle.trace_program.specs.Lists.{finished_calls, first_event_line}
use Rattle.trace_program.specs.Program.{trace_ran, verdict_shown}
use Rattle.trace_program.specs.declared.finished.FinishedCalls.{FinishedCalls}
use Rattle.trace_program.specs.declared.hearing.Hearing.{Hearing}
use Rattle.trace_program.specs.declared.hearing.Stage.{Stage}
use Rattle.trace_program.specs.declared.hearing.Stage.TheVariants as stage
use Rattle.trace_program.specs.declared.judging.RefusedEvent.{RefusedEvent}
use Rattle.trace_program.specs.declared.judging.Trial.{Trial}
use Rattle.trace_program.specs.declared.report.TraceVerdict.{TraceVerdict}

-- these are the calls, where they are asked for
abbrev pub HoldsLists : Bool → Option (Vec (Vec LogCall Global) Global) → List (List DataCall) → Type 0
HoldsLists false None calls = Unit {0}
HoldsLists true (Some lists) calls = data_lists lists.items ≡ calls
HoldsLists asked lists calls = ⊥

-- the calls that the ranks have finished within `number` events: how many of each rank, and the calls where they are asked for
pub record HoldsFinished (asked : Bool) (f : FinishedCalls) (number : ℕ) (calls : List (List DataCall)) : Type 0 where
  pub counts : f.counts ≡ map (λ (list : List DataCall). length list) calls
  pub few : (k : ℕ) → slice_index f.counts k ≤ number
  pub lists : HoldsLists asked f.lists calls

-- a judge has taken all events of a reading
pub record IsTried (t : Trial) (r : TraceReading) : Type 0 where
  pub setup : t.judge.setup ≡ r.trace.setup
  pub run : t.judge.run ≡ r.trace.events
  pub first : t.first ≡ first_event_line r.trace.setup
  pub number : t.number ≡ length r.trace.events
  pub ruled : ruling_from 0 (new_judged r.trace.setup) r.trace.events ≡ Ok (chip_of t.judge)

-- and keeps the calls that they have finished
pub record HasTried (asked : Bool) (t : Trial) (f : FinishedCalls) (r : TraceReading) : Type 0 where
  pub tried : IsTried t r
  pub held : HoldsFinished asked f t.number (finished_calls (chip_of t.judge))

-- the last event of a reading is the first one that is refused
pub record IsRefusedAt (at : RefusedEvent) (r : TraceReading) : Type 0 where
  pub number : ℕ
  pub line : at.line ≡ first_event_line r.trace.setup + number
  pub ruled : ruling_from 0 (new_judged r.trace.setup) r.trace.events ≡ Err (record { number = number; rank = at.rank; why = at.why })

-- the next event of a reading
pub record IsNext (asked : Bool) (t : Trial) (f : FinishedCalls) (r : TraceReading) (made : TraceEvent) : Type 0 where
  pub has : HasTried asked t f r
  pub below : made.rank < r.trace.setup.nue

-- what it came to
abbrev pub TriedBy : Bool → Trial → FinishedCalls → TraceReading → Option RefusedEvent → Type 0
TriedBy asked t f r None = HasTried asked t f r
TriedBy asked t f r (Some at) = IsRefusedAt at r

-- the judging has come to this reading
abbrev pub HoldsStage : Bool → Stage → FinishedCalls → TraceReading → Type 0
HoldsStage asked stage.Waiting f r = (r.trace.events ≡ []) × HoldsFinished asked f 0 no_calls
HoldsStage asked (stage.Judging t) f r = (r.trace.events ≢ []) × HasTried asked t f r
HoldsStage asked (stage.Refused at) f r = (r.trace.events ≢ []) × IsRefusedAt at r

-- no event was made
abbrev pub IsUntried : Bool → Stage → FinishedCalls → Type 0
IsUntried asked stage.Waiting f = HoldsFinished asked f 0 no_calls
IsUntried asked (stage.Judging t) f = ⊥
IsUntried asked (stage.Refused at) f = ⊥

-- the judging has come to what the lines so far say, as long as none of them has a fault
abbrev pub HoldsSaid : Bool → Stage → FinishedCalls → Option (Result TraceReading TraceFault) → Type 0
HoldsSaid asked s f None = IsUntried asked s f
HoldsSaid asked s f (Some (Ok r)) = HoldsStage asked s f r
HoldsSaid asked s f (Some (Err fault)) = Unit {0}

-- how many events the judge has taken
abbrev pub stage_number : Stage → ℕ
stage_number stage.Waiting = 0
stage_number (stage.Judging t) = t.number
stage_number (stage.Refused at) = 0

-- the event was just read, and is not judged yet
pub record IsDue (asked : Bool) (h : Hearing) (r : TraceReading) (made : TraceEvent) : Type 0 where
  pub holds : HoldsStage asked h.stage h.finished r
  pub come : HasComeTo h.walk (event_added r (rank_event made))
  pub below : made.rank < r.trace.setup.nue
  pub few : stage_number h.stage < 2 ^ 32

-- all events of the text so far are judged, as long as no line has a fault
pub record Hears (asked : Bool) (h : Hearing) : Type 0 where
  pub counted : h.bytes ≡ length h.walk
  pub few : stage_number h.stage ≤ h.bytes
  pub heard : HoldsSaid asked h.stage h.finished (text_reading h.walk)

-- the bytes that a reading has heard
abbrev pub bytes_heard : List ℕ → Result (Unit {0}) ReadEnd → Result (List ℕ) ReadEnd
bytes_heard bytes (Ok _) = Ok bytes
bytes_heard bytes (Err end) = Err end

-- what a text comes to: a trace with its verdict, or its first fault
abbrev pub ComesTo : Bool → List ℕ → Result TraceVerdict TraceFault → Type 0
ComesTo asked text (Ok verdict) = (trace : TraceView) × (trace_of text ≡ Ok trace) × (verdict_shown verdict ≡ trace_ran asked trace)
ComesTo asked text (Err fault) = trace_of text ≡ Err fault
