-- What a desk has written of the events that it was told (this project's profile).
use Rattle.std.specs.Prelude.{◌≡◌, ℕ, List, [], ◌∷◌, ◌++◌, Option, Some, None, Result, Ok, Err}
use Rattle.rcce_io.specs.Sending.{CutShort, SinkView, RestWaits, with_text}
use Rattle.scc_base.specs.Setups.{SetupView}
use Rattle.scc_proto.specs.Histories.{IsPermittedRun}
use Rattle.scc_proto.specs.Stages.{blank}
use Rattle.scc_proto.specs.Words.{IsRun, RankEvent, zeros}
use Rattle.trace_judge.specs.declared.judge.Refusal.{Refusal}
use Rattle.trace_judge.specs.Judged.{JudgeView, judged_by}
use Rattle.trace_judge.specs.Rulings.{refusal_of}
use Rattle.trace_writer.specs.declared.desks.TraceFault.{TraceFault}
use Rattle.trace_writer.specs.declared.desks.TraceFault.TheVariants as fault
use Rattle.trace_writer.specs.Lines.{trace_text}

-- a sink of which nothing is told
abbrev pub no_sink : SinkView
no_sink = record { taken = None; faults = 0 }

-- a text was put behind what waited, or it and what waited were cut short by the sink
abbrev pub HasGathered : List ℕ → List ℕ → List ℕ → SinkView → SinkView → Option TraceFault → Type 0
HasGathered text waited waiting before after None = RestWaits (waited ++ text) waiting before after
HasGathered text waited waiting before after (Some fault.Write) = CutShort (waited ++ text) before after
HasGathered text waited waiting before after (Some (fault.Refused rank why)) = ⊥

-- what waited was taken whole, or cut short by the sink
abbrev pub SendsWaiting : List ℕ → SinkView → SinkView → Result (Unit {0}) TraceFault → Type 0
SendsWaiting waited before after (Ok _) = after ≡ with_text waited before
SendsWaiting waited before after (Err fault.Write) = CutShort waited before after
SendsWaiting waited before after (Err (fault.Refused rank why)) = ⊥

-- a list of events is a run from the blank memory, and each event is permitted when it is made
pub record IsLegalRun (s : SetupView) (run : List RankEvent) : Type 0 where
  pub steps : IsRun zeros run
  pub permitted : IsPermittedRun s (λ r. blank) run

-- a list begins with these events
pub record IsFrontOf (front run : List RankEvent) : Type 0 where
  pub rest : List RankEvent
  pub parts : run ≡ front ++ rest

-- a front of a list is such a run, and the rest of the list was not looked at
pub record HasLegalFront (s : SetupView) (written run : List RankEvent) : Type 0 where
  pub rest : List RankEvent
  pub parts : run ≡ written ++ rest
  pub legal : IsLegalRun s written

-- the event behind that front is refused
pub record RefusesAfter (s : SetupView) (rank : ℕ) (why : Refusal) (written run : List RankEvent) : Type 0 where
  pub event : RankEvent
  pub rest : List RankEvent
  pub parts : run ≡ written ++ event ∷ rest
  pub made_by : event.rank ≡ rank
  pub refused : refusal_of (judged_by s written) event ≡ Some why

-- all events are judged and legal, and what is not written of their text waits
pub record IsWriting (before : SinkView) (judge : JudgeView) (waiting : List ℕ) (now : SinkView) (run : List RankEvent) : Type 0 where
  pub judged : judge.run ≡ run
  pub legal : IsLegalRun judge.setup run
  pub waits : RestWaits (trace_text judge.setup run) waiting before now

-- the text of a legal front was cut short by the sink: that of the events up to the last one that was judged
pub record WasCutShort (s : SetupView) (before now : SinkView) (written run : List RankEvent) : Type 0 where
  pub front : HasLegalFront s written run
  pub cut : CutShort (trace_text s written) before now

-- The event behind a legal front was refused, and what is not written of the front's text waits. Eight parameters: who was
-- refused and why (the setup, the rank, the cause), the sink before and now, what waits to be written, the front, and the run so
-- far.
pub record WasRefused (s : SetupView) (rank : ℕ) (why : Refusal) (before : SinkView) (waiting : List ℕ) (now : SinkView)
    (written run : List RankEvent) : Type 0 where
  pub front : HasLegalFront s written run
  pub refuses : RefusesAfter s rank why written run
  pub waits : RestWaits (trace_text s written) waiting before now

-- what has become of the events that a desk was told, by its fault
abbrev pub HasWritten : SinkView → JudgeView → List ℕ → SinkView → Option TraceFault → List RankEvent → Type 0
HasWritten before judge waiting now None run = IsWriting before judge waiting now run
HasWritten before judge waiting now (Some fault.Write) run = WasCutShort judge.setup before now judge.run run
HasWritten before judge waiting now (Some (fault.Refused rank why)) run = WasRefused judge.setup rank why before waiting now judge.run run

-- How the trace of these events was written at last: whole, where all are legal; a front of them up to a failed write; or a front
-- up to the event that was refused. Six parameters: the setup, the sink before and after, the front, all events, and the answer.
abbrev pub TraceSent : SetupView → SinkView → SinkView → List RankEvent → List RankEvent → Result (Unit {0}) TraceFault → Type 0
TraceSent s before after written run (Ok _) =
    IsLegalRun s run × (after ≡ with_text (trace_text s run) before) × (written ≡ run)
TraceSent s before after written run (Err fault.Write) = WasCutShort s before after written run
TraceSent s before after written run (Err (fault.Refused rank why)) = WasRefused s rank why before [] after written run
