-- A run whose trace is written, by what its engine and its writer leave.
use Rattle.std.proofs.Common.{◌≡◌, ℕ, ◌<◌, Bool, if◌then◌else◌, List, [], length, unwrap_or, Result, Ok, Err, inl, inr, refl, sym, ◌∙◌, ap, subst}
use Rattle.std.proofs.Math.Logic.{∥∥₁_map}
use Rattle.rcce_io.specs.Sending.{CutShort, Sends, SinkView, with_text}
use Rattle.rcce_io.specs.declared.writing.WriteFault.{WriteFault}
use Rattle.scc_base.specs.Setups.{IsSetup, SetupView}
use Rattle.scc_proto.specs.Agreement.{Agrees}
use Rattle.scc_proto.specs.Words.{Memory, RankEvent}
use Rattle.scc_mesh.specs.Scenes.{ChipView, IsNew, about_in, records_in}
use Rattle.chip_run.specs.declared.ends.RunEnd.{RunEnd}
use Rattle.chip_run.specs.declared.members.Member.{Member}
use Rattle.chip_run.specs.declared.runs.Mode.TheVariants as mode
use Rattle.chip_run.specs.Crews.{AllRest, CrewStands}
use Rattle.chip_run.specs.Runs.{InOrder}
use Rattle.chip_run.proofs.ServedLaws.{some_worker}
use Rattle.rcce_ue.specs.Ues.{UeView}
use Rattle.rcce_run.specs.UeRuns.{AreFresh, IsFreshCrew, ue_members, member_ue}
use Rattle.rcce_run.proofs.FreshCrews.{crew_fresh}
use Rattle.rcce_run.proofs.RunEnds.{ends_as, still_run}
use Rattle.rcce_run.proofs.SentLaws.{counts_sends}
use Rattle.rcce_run.proofs.UeEnds.{fresh_run, fresh_some, has_calls, members_run, shows_ends, waits_open}
use Rattle.run_program.specs.Evictors.{HaveEvictors}
use Rattle.run_program.specs.History.{Asked}
use Rattle.run_program.specs.Loading.{shown_by}
use Rattle.run_program.specs.Reports.{Shown, shown_ran}
use Rattle.run_program.specs.Runs.{IsOver}
use Rattle.run_program.proofs.RunLemmas.{run_over}
use Rattle.trace_run.specs.Runs.{RunsToEnd}
use Rattle.trace_writer.specs.declared.desks.TraceFault.{TraceFault}
use Rattle.trace_writer.specs.declared.desks.TraceFault.TheVariants as fault
use Rattle.trace_writer.specs.Desks.{TraceSent, WasCutShort, WasRefused}
use Rattle.trace_writer.specs.Lines.{trace_text}
use Rattle.trace_writer.specs.Writing.{HasTrace, KeepsUp, RunsTraced, TraceOf}
use Rattle.outcomes.specs.Delivery.{Delivers, Sinks, sinks}
use Rattle.outcomes.specs.Outcomes.{run_outcome}
use Rattle.outcomes.specs.declared.status.Status.{Status}
use Rattle.outcomes.specs.declared.status.Status.TheVariants as status
use Rattle.trace_judge.specs.declared.judge.Refusal.{Refusal}
use Rattle.trace_script.specs.declared.endings.TraceEnd.{TraceEnd}
use Rattle.trace_script.specs.declared.endings.TraceEnd.TheVariants as end_of
use Rattle.trace_script.specs.Tracing.{AreChipEvents, IsTracedOver, StandsTraced, TellsEnd, TellsFault, TracesLoaded, TracesRun, WasRunInPart, one_thread, refused_line, traced_ran}

module _ (asked : Asked) (first now : ChipView) (crew later : List (Member UeView)) (ranks : asked.setup.nue ≡ asked.script.nue) (new : IsNew asked.setup first)
    (fresh : AreFresh asked.script asked.setup asked.setup.nue crew) (evictors : HaveEvictors asked.job.evict crew) (valid : IsSetup (about_in first))
    (memory : Memory) (agrees : Agrees (about_in now) memory (records_in now)) (stands : CrewStands ue_members first crew now later) where
  abbrev of_chip : IsFreshCrew asked.script first crew
  of_chip = crew_fresh asked.script asked.setup crew fresh first new

  some : 0 < length later
  some = subst (λ (n : ℕ). 0 < n) (sym stands.goes.count) (fresh_some asked.script first crew of_chip valid)

  pub stands_traced : StandsTraced asked now
  stands_traced = record { setup = stands.goes.about ∙ new.about; whole = stands.is_crew.whole }

  -- a run that went to its end is over
  over_at : (end : RunEnd) → RunsToEnd ue_members (unwrap_or asked.job.serial 0) end first crew now later → IsOver (one_thread asked) now later end
  over_at end ran =
      let all = still_run ue_members member_ue members_run asked.script first now crew later stands.goes (fresh_run asked.script first crew of_chip) in
      let d = some_worker later some in
      let rests = subst (λ (n : ℕ). AllRest ue_members now later n) stands.is_crew.each ran.rests in
      run_over (one_thread asked) first now crew later end ranks new fresh.count
      (record { about = stands.goes.about; table = stands.goes.table; whole = stands.is_crew.whole })
      (record { count = stands.goes.count; empty = λ k e low. (stands.is_crew.ties k e low).empty })
      (ends_as ue_members member_ue members_run asked.script now later memory agrees stands.is_crew all some d rests end ran.answer)
      (λ k e low. shows_ends asked.script now later memory agrees stands.is_crew all some e rests k low)
      (λ k low. has_calls asked.script now later memory agrees stands.is_crew all some d rests k low)
      (λ k e low. counts_sends asked.script now later stands.is_crew all some e k low)
      (λ k call low is_open. waits_open asked.script now later memory agrees stands.is_crew all some d rests k call low is_open)
      ran.no_draft
      (record { first = first; crew = crew; later = later; new = new; fresh = fresh; evictors = evictors; order = ran.order })

  pub traced_over : (seed : ℕ) (answer : Result RunEnd TraceFault) → seed ≡ unwrap_or asked.job.serial 0 → RunsTraced ue_members seed first crew now later answer
      → IsTracedOver asked now later answer
  traced_over seed (Ok end) named ran = over_at end (subst (λ (n : ℕ). RunsToEnd ue_members n end first crew now later) named ran)
  traced_over seed (Err why) named ran = tt

  -- however it ended, its turns were those of a run
  order_of : (seed : ℕ) (answer : Result RunEnd TraceFault) → RunsTraced ue_members seed first crew now later answer → InOrder ue_members (mode.Serial seed) first crew now later
  order_of seed (Ok end) ran = ran.order
  order_of seed (Err why) ran = ran

  in_part : (seed : ℕ) (answer : Result RunEnd TraceFault) (written : List RankEvent) → seed ≡ unwrap_or asked.job.serial 0 → RunsTraced ue_members seed first crew now later answer
      → KeepsUp ue_members seed first crew now later written → WasRunInPart asked now written
  in_part seed answer written named ran keeps = record {
    first = first;
    crew = crew;
    later = later;
    new = new;
    fresh = fresh;
    evictors = evictors;
    order = subst (λ (n : ℕ). InOrder ue_members (mode.Serial n) first crew now later) named (order_of seed answer ran);
    keeps = subst (λ (n : ℕ). KeepsUp ue_members n first crew now later written) named keeps;
  }

  -- and its trace is that of a part of a run
  pub trace_in_part : (before after : SinkView) (seed : ℕ) (answer : Result RunEnd TraceFault) → seed ≡ unwrap_or asked.job.serial 0 → RunsTraced ue_members seed first crew now later answer
      → HasTrace (KeepsUp ue_members seed first crew now later) now before after answer → HasTrace (WasRunInPart asked now) now before after answer
  trace_in_part before after seed answer named ran has = ∥∥₁_map has (λ trace. record {
    run = trace.run;
    each = trace.each;
    written = trace.written;
    sent = trace.sent;
    so = in_part seed answer trace.written named ran trace.so;
  })

-- ---- what is answered

module _ (asked : Asked) (chip : ChipView) (stands : StandsTraced asked chip) where
  events_at : (out_before out_after : SinkView) (answer : Result RunEnd TraceFault) (trace : TraceOf (WasRunInPart asked chip) chip out_before out_after answer) → AreChipEvents asked chip trace.run
  events_at out_before out_after answer trace = record { stands = stands; each = trace.each }

  delivered : (out_before out_after err_before err_after : SinkView) (run : List RankEvent) (s : Status) → out_after ≡ with_text (trace_text asked.setup run) out_before
      → TellsEnd asked err_before err_after s → Delivers (run_outcome (traced_ran asked run)) (sinks out_before err_before) (sinks out_after err_after) s
  delivered out_before out_after err_before err_after run s out (inl (status_is, err)) =
      inl (status_is, λ i. sinks (out i) (err i))
  delivered out_before out_after err_before err_after run s out (inr (status_is, cut)) = inr (status_is, inr (out, cut))

  -- the whole trace was written
  pub ended_run : (out_before out_after err_before err_after : SinkView) (end : RunEnd) (later : List (Member UeView)) (s : Status) → TraceOf (WasRunInPart asked chip) chip out_before out_after (Ok end)
      → IsOver (one_thread asked) chip later end → TellsEnd asked err_before err_after s
      → TracesRun asked chip (sinks out_before err_before) (sinks out_after err_after) (end_of.Ended s)
  ended_run out_before out_after err_before err_after end later s trace over tells =
      let sent = subst (λ (x : SetupView). TraceSent x out_before out_after trace.written trace.run (Ok tt)) stands.setup trace.sent in
      inl (record {
        run = trace.run;
        events = events_at out_before out_after (Ok end) trace;
        legal = sent.0;
        history = over.history;
        delivers = delivered out_before out_after err_before err_after trace.run s sent.1 tells;
      })

  -- out did not take it whole
  cut_run : (out_before out_after err_before err_after : SinkView) (s : Status) → TraceOf (WasRunInPart asked chip) chip out_before out_after (Err fault.Write) → s ≡ status.Write → err_after ≡ err_before
      → TracesRun asked chip (sinks out_before err_before) (sinks out_after err_after) (end_of.Ended s)
  cut_run out_before out_after err_before err_after s trace is none =
      inr (
        is,
        record {
          run = trace.run;
          events = events_at out_before out_after (Err fault.Write) trace;
          written = trace.written;
          cut = subst (λ (x : SetupView). WasCutShort x out_before out_after trace.written trace.run) stands.setup trace.sent;
          turns = trace.so;
          none = none;
        },
      )

  -- the judge refused an event
  broken_run : (out_before out_after err_before err_after : SinkView) (rank : ℕ) (why : Refusal) (answer : Result (Unit {0}) WriteFault)
      → TraceOf (WasRunInPart asked chip) chip out_before out_after (Err (fault.Refused rank why)) → Sends (refused_line rank) err_before err_after answer
      → TracesRun asked chip (sinks out_before err_before) (sinks out_after err_after) end_of.Refused
  broken_run out_before out_after err_before err_after rank why answer trace said = record {
    run = trace.run;
    events = events_at out_before out_after (Err (fault.Refused rank why)) trace;
    rank = rank;
    why = why;
    written = trace.written;
    refused = subst (λ (x : SetupView). WasRefused x rank why out_before [] out_after trace.written trace.run) stands.setup trace.sent;
    turns = trace.so;
    answer = answer;
    said = said;
  }

  -- however it was not written whole
  pub fault_run : (out_before out_after err_before err_after : SinkView) (why : TraceFault) (answer : TraceEnd) → TraceOf (WasRunInPart asked chip) chip out_before out_after (Err why)
      → TellsFault why err_before err_after answer → TracesRun asked chip (sinks out_before err_before) (sinks out_after err_after) answer
  fault_run out_before out_after err_before err_after fault.Write (end_of.Ended s) trace told = cut_run out_before out_after err_before err_after s trace told.0 told.1
  fault_run out_before out_after err_before err_after fault.Write end_of.Refused trace told = absurd told
  fault_run out_before out_after err_before err_after (fault.Refused rank why) (end_of.Ended s) trace told = absurd told
  fault_run out_before out_after err_before err_after (fault.Refused rank why) end_of.Refused trace told =
      broken_run out_before out_after err_before err_after rank why told.0 trace told.1

-- a loaded run that was traced
pub traced_loaded : (asked : Asked) (chip : ChipView) (before after : Sinks) (answer : TraceEnd) → TracesRun asked chip before after answer → TracesLoaded asked chip before after answer
traced_loaded asked chip before after (end_of.Ended s) traced = inr traced
traced_loaded asked chip before after end_of.Refused traced = traced

-- ---- what err takes behind a trace

abbrev status_by : Bool → Status
status_by finished = if finished then status.Finished else status.Stuck

-- err took its text whole
pub told_end : (asked : Asked) (before after : SinkView) (shown : Shown) (finished : Bool) (s : Status) → shown ≡ shown_by asked → after ≡ with_text (shown_ran shown).err before
    → finished ≡ (shown_ran shown).finished → s ≡ status_by finished → TellsEnd asked before after s
told_end asked before after shown finished s is text tests named = inl (
  named ∙ ap status_by (tests ∙ ap (λ (x : Shown). (shown_ran x).finished) is),
  text ∙ ap (λ (x : Shown). with_text (shown_ran x).err before) is,
)

-- or not
pub told_short : (asked : Asked) (before after : SinkView) (shown : Shown) → shown ≡ shown_by asked → CutShort (shown_ran shown).err before after → TellsEnd asked before after status.Write
told_short asked before after shown is cut = inr (refl, subst (λ (x : Shown). CutShort (shown_ran x).err before after) is cut)
