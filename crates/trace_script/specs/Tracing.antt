-- What a call leaves that runs a script and writes its trace (this project's profile).
use Rattle.std.specs.Prelude.{◌≡◌, ◌⊎◌, ℕ, List, [], ◌∷◌, codes, decimal, None, Some, unwrap_or, Result, Ok, Err}
use Rattle.rcce_io.specs.Files.{FilesView}
use Rattle.rcce_io.specs.Sending.{CutShort, Sends, SinkView, joined_texts, with_text}
use Rattle.rcce_io.specs.declared.writing.WriteFault.{WriteFault}
use Rattle.scc_proto.specs.Histories.{events_of}
use Rattle.scc_proto.specs.Words.{RankEvent}
use Rattle.scc_mesh.specs.Scenes.{ChipView, IsNew, IsWhole, about_in, events_in}
use Rattle.outcomes.specs.Coming.{IsMeant}
use Rattle.outcomes.specs.Complaints.{complaint_outcome}
use Rattle.outcomes.specs.Delivery.{Delivers, Sinks}
use Rattle.outcomes.specs.Outcomes.{Ran, no_memory, run_outcome}
use Rattle.outcomes.specs.declared.complaint.Complaint.{Complaint}
use Rattle.outcomes.specs.declared.status.Status.{Status}
use Rattle.outcomes.specs.declared.status.Status.TheVariants as status
use Rattle.rcce_words.specs.CommandLine.{parse_command}
use Rattle.run_program.specs.Asking.{WordsAskFor, asked_ran}
use Rattle.run_program.specs.Evictors.{HaveEvictors}
use Rattle.run_program.specs.History.{Asked, HasRun}
use Rattle.run_program.specs.Program.{rccerun}
use Rattle.chip_run.specs.declared.ends.RunEnd.{RunEnd}
use Rattle.chip_run.specs.declared.members.Member.{Member}
use Rattle.chip_run.specs.declared.runs.Mode.TheVariants as mode
use Rattle.chip_run.specs.Runs.{InOrder}
use Rattle.rcce_run.specs.UeRuns.{AreFresh, ue_members}
use Rattle.rcce_ue.specs.Ues.{UeView}
use Rattle.run_program.specs.Runs.{IsOver}
use Rattle.trace_judge.specs.declared.judge.Refusal.{Refusal}
use Rattle.trace_writer.specs.Desks.{IsLegalRun, WasCutShort, WasRefused}
use Rattle.trace_writer.specs.Lines.{trace_text}
use Rattle.trace_writer.specs.Writing.{KeepsUp}
use Rattle.trace_writer.specs.declared.desks.TraceFault.{TraceFault}
use Rattle.trace_writer.specs.declared.desks.TraceFault.TheVariants as fault
use Rattle.trace_script.specs.declared.endings.TraceEnd.{TraceEnd}
use Rattle.trace_script.specs.declared.endings.TraceEnd.TheVariants as end

-- the run that is asked for, on one thread: by the seed that is named, or by seed 0
abbrev pub one_thread : Asked → Asked
one_thread asked = record asked { job = record asked.job { serial = Some (unwrap_or asked.job.serial 0) } }

-- what a run comes to whose events are these: it finishes, and err is, as the launcher's definition says; out is the trace
abbrev pub traced_ran : Asked → List RankEvent → Ran
traced_ran asked run = record { finished = (asked_ran asked).finished; out = trace_text asked.setup run; err = (asked_ran asked).err }

-- the chip is that of the run, whole
pub record StandsTraced (asked : Asked) (chip : ChipView) : Type 0 where
  pub setup : about_in chip ≡ asked.setup
  pub whole : IsWhole chip

-- the events of a chip of this setup, in the order in which they were made: by rank exactly the rank's own, in order
pub record AreChipEvents (asked : Asked) (chip : ChipView) (run : List RankEvent) : Type 0 where
  pub stands : StandsTraced asked chip
  pub each : (rank : ℕ) → events_of rank run ≡ events_in chip rank

-- The script ran to its plain end. All events of the chip are legal, and their trace was written, and behind it where the ranks
-- stand that have not finished.
pub record WasTraced (asked : Asked) (chip : ChipView) (before after : Sinks) (s : Status) : Type 0 where
  pub run : List RankEvent
  pub events : AreChipEvents asked chip run
  pub legal : IsLegalRun asked.setup run
  pub history : HasRun (one_thread asked) chip
  pub delivers : Delivers (run_outcome (traced_ran asked run)) before after s

-- Turns of a run on one thread left this chip, which need not have come to its end. The run began as any run does (`WasRun`): on a
-- chip just opened, with members before their first turn, whose cores answered as the evictors of the job's seed do; and the turns
-- of each round were those of the ranks that the seed named. Before each round, the last one included, no write had failed: the
-- events that the chip had then are a front of those that were written.
pub record WasRunInPart (asked : Asked) (chip : ChipView) (written : List RankEvent) : Type 0 where
  pub first : ChipView
  pub crew : List (Member UeView)
  pub later : List (Member UeView)
  pub new : IsNew asked.setup first
  pub fresh : AreFresh asked.script asked.setup asked.setup.nue crew
  pub evictors : HaveEvictors asked.job.evict crew
  pub order : InOrder ue_members (mode.Serial (unwrap_or asked.job.serial 0)) first crew chip later
  pub keeps : KeepsUp ue_members (unwrap_or asked.job.serial 0) first crew chip later written

-- Out did not take the trace of a legal front of the chip's events whole, and nothing was written behind it. The chip is that of a
-- part of the run, which ended with the round in which the write failed.
pub record WasCutOff (asked : Asked) (chip : ChipView) (before after : Sinks) : Type 0 where
  pub run : List RankEvent
  pub events : AreChipEvents asked chip run
  pub written : List RankEvent
  pub cut : WasCutShort asked.setup before.out after.out written run
  pub turns : WasRunInPart asked chip written
  pub none : after.err ≡ before.err

-- the line of an event that the judge refused
abbrev pub refused_line : ℕ → List ℕ
refused_line rank = joined_texts (codes "rccetrace: an event of ue " ∷ decimal rank ∷ codes " is not legal\n" ∷ [])

-- The judge refused the event behind a legal front of the chip's events, whose trace was written. The chip is that of a part of the
-- run, which ended with the round of this event.
pub record WasBroken (asked : Asked) (chip : ChipView) (before after : Sinks) : Type 0 where
  pub run : List RankEvent
  pub events : AreChipEvents asked chip run
  pub rank : ℕ
  pub why : Refusal
  pub written : List RankEvent
  pub refused : WasRefused asked.setup rank why before.out [] after.out written run
  pub turns : WasRunInPart asked chip written
  pub answer : Result (Unit {0}) WriteFault
  pub said : Sends (refused_line rank) before.err after.err answer

-- how a run was traced, by the end that was answered
abbrev pub TracesRun : Asked → ChipView → Sinks → Sinks → TraceEnd → Type 0
TracesRun asked chip before after (end.Ended s) =
    WasTraced asked chip before after s ⊎ ((s ≡ status.Write) × WasCutOff asked chip before after)
TracesRun asked chip before after end.Refused = WasBroken asked chip before after

-- a loaded run was traced, or there was no memory for it
abbrev pub TracesLoaded : Asked → ChipView → Sinks → Sinks → TraceEnd → Type 0
TracesLoaded asked chip before after (end.Ended s) =
    (Delivers (no_memory (codes "rccetrace")) before after s × (chip ≡ None)) ⊎ TracesRun asked chip before after (end.Ended s)
TracesLoaded asked chip before after end.Refused = TracesRun asked chip before after end.Refused

-- nothing ran: it complains, by its own name, of what the launcher would complain of for the same words. Seven parameters,
-- the whole world of a call: the words, the files twice, the chip, the sinks twice, the status.
pub record HasComplained (words : List (List ℕ)) (files files_after : FilesView) (chip : ChipView) (before after : Sinks)
    (s : Status) : Type 0 where
  pub why : Complaint
  pub meant : IsMeant (codes "rccerun") (rccerun.plan words) files files_after (complaint_outcome (codes "rccerun") why)
  pub delivers : Delivers (complaint_outcome (codes "rccetrace") why) before after s
  pub blank : chip ≡ None

-- the run that the words ask of the launcher was traced. Seven parameters: those of `HasComplained`, with how the call ended
-- in place of the status.
pub record HasTraced (words : List (List ℕ)) (files files_after : FilesView) (chip : ChipView) (before after : Sinks)
    (answer : TraceEnd) : Type 0 where
  pub asked : Asked
  pub asks : WordsAskFor words (parse_command words) files.told asked
  pub meant : IsMeant (codes "rccerun") (rccerun.plan words) files files_after (run_outcome (asked_ran asked))
  pub traced : TracesRun asked chip before after answer

-- what a call with the launcher's words leaves. Seven parameters, those of `HasTraced`.
abbrev pub TracesWords : List (List ℕ) → FilesView → FilesView → ChipView → Sinks → Sinks → TraceEnd → Type 0
TracesWords words files files_after chip before after (end.Ended s) =
    HasComplained words files files_after chip before after s ⊎ HasTraced words files files_after chip before after (end.Ended s)
TracesWords words files files_after chip before after end.Refused = HasTraced words files files_after chip before after end.Refused

-- what err takes behind a trace that was written, and the status: those of the launcher's definition, or of a failed write
abbrev pub TellsEnd : Asked → SinkView → SinkView → Status → Type 0
TellsEnd asked before after s =
    ((s ≡ (run_outcome (asked_ran asked)).status) × (after ≡ with_text (asked_ran asked).err before))
    ⊎ ((s ≡ status.Write) × CutShort (asked_ran asked).err before after)

-- where the whole trace was written the run is over, on one thread
abbrev pub IsTracedOver : Asked → ChipView → List (Member UeView) → Result RunEnd TraceFault → Type 0
IsTracedOver asked chip crew (Ok end) = IsOver (one_thread asked) chip crew end
IsTracedOver asked chip crew (Err why) = Unit {0}

-- what is told where the trace is not whole: nothing behind a failed write; or the line of the event that the judge refused
abbrev pub TellsFault : TraceFault → SinkView → SinkView → TraceEnd → Type 0
TellsFault fault.Write before after (end.Ended s) = (s ≡ status.Write) × (after ≡ before)
TellsFault fault.Write before after end.Refused = ⊥
TellsFault (fault.Refused rank why) before after (end.Ended s) = ⊥
TellsFault (fault.Refused rank why) before after end.Refused =
    (answer : Result (Unit {0}) WriteFault) × Sends (refused_line rank) before after answer
