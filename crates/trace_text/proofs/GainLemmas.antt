-- What a text says with one byte more, where no event is gained.
use Rattle.std.proofs.Common.{◌≡◌, ◌⊎◌, inl, inr, ℕ, ◌+◌, ◌==◌, Bool, true, false, if◌then◌else◌, List, [], ◌∷◌, ◌++◌, length, Option, Some, None, option_map, Result, Ok, Err, refl, sym, ◌∙◌, ap, subst}
use Rattle.std.specs.Prelude.{nat_lt}
use Rattle.std.specs.Option.{ok_or}
use Rattle.rcce_audit.specs.Grammar.{begins_comm, comm_said}
use Rattle.rcce_audit.specs.Words.{log_words_of}
use Rattle.rcce_audit.proofs.WordLemmas.{only_some, then_some}
use Rattle.scc_proto.specs.Words.{RankEvent}
use Rattle.trace_text.specs.Grammar.{TraceHead, TraceReading, after_head, event_added, event_said, event_taken, trace_head_said, line_fault, line_taken, split_added, split_taken}
use Rattle.trace_text.specs.Traces.{most_line_bytes}
use Rattle.trace_text.specs.Walks.{GainsEvent, last_line, next_said, text_reading, trace_lines_said, whole_lines}
use Rattle.trace_text.specs.declared.faults.TraceFault.{TraceFault}
use Rattle.trace_text.specs.declared.faults.TraceKind.TheVariants as kind
use Rattle.trace_text.proofs.ProgressLemmas.{reading_grows, reading_stays}
use Rattle.trace_text.proofs.WalkLemmas.{no_lines}

pub nothing_read : text_reading [] ≡ None
unfolding text_reading
nothing_read = ap trace_lines_said no_lines.0

-- no event was read so far, and no line has a fault
abbrev pub HasNoEvents : Option (Result TraceReading TraceFault) → Type 0
HasNoEvents None = Unit {0}
HasNoEvents (Some (Ok r)) = r.trace.events ≡ []
HasNoEvents (Some (Err fault)) = ⊥

-- what is said stays, or a line has a fault, or no event was read and none is
abbrev pub GoesWithout : (old new : Option (Result TraceReading TraceFault)) → Type 0
GoesWithout old new = (new ≡ old) ⊎ (((fault : TraceFault) × (new ≡ Some (Err fault))) ⊎ (HasNoEvents old × (r : TraceReading) × (new ≡ Some (Ok r)) × (r.trace.events ≡ [])))

some_after : (events : List RankEvent) (e : RankEvent) → events ++ e ∷ [] ≡ [] → ⊥
some_after [] e is = absurd (cc)
some_after (x ∷ events) e is = absurd (cc)

module _ (reading next : TraceReading) (line : List ℕ) (none : next.trace.events ≡ []) where
  none_split : split_taken reading (log_words_of line) ≡ Some next → reading.trace.events ≡ []
  none_split taken =
      let (split, said, gives) = then_some (comm_said reading.comm reading.trace.setup.comms (log_words_of line)) (split_added reading) next taken in
      let (test, same) = only_some (length reading.trace.events == 0) _ next gives in
      ap (λ (r : TraceReading). r.trace.events) same ∙ none

  none_event : event_taken reading (log_words_of line) ≡ Some next → reading.trace.events ≡ []
  none_event taken =
      let (e, said, gives) = then_some (event_said reading.trace.setup.nue (log_words_of line)) (λ (e : RankEvent). Some (event_added reading e)) next taken in
      let same : event_added reading e ≡ next = cc in
      absurd (some_after reading.trace.events e (ap (λ (r : TraceReading). r.trace.events) same ∙ none))

  none_before : line_taken reading line ≡ Some next → reading.trace.events ≡ []
  none_before taken = by (nat_lt most_line_bytes (length line)) (begins_comm line) taken
    where
      by : (long comm : Bool) → (if long then None else if comm then split_taken reading (log_words_of line) else event_taken reading (log_words_of line)) ≡ Some next → reading.trace.events ≡ []
      by true comm is = absurd (cc)
      by false true is = none_split is
      by false false is = none_event is

abbrev said_ok : TraceReading → Option (Result TraceReading TraceFault)
said_ok r = Some (Ok r)

line_goes : (reading next : TraceReading) → (said_ok reading ≡ said_ok next) ⊎ (next.trace.events ≡ []) → (next.trace.events ≡ [] → reading.trace.events ≡ []) → GoesWithout (said_ok reading) (said_ok next)
line_goes reading next (inl same) before = inl (sym same)
line_goes reading next (inr none) before = inr (inr (before none, next, refl, none))

said_goes : (old : Option (Result TraceReading TraceFault)) (before : ℕ) (line : List ℕ) → GainsEvent old (Some (next_said old before line)) None → GoesWithout old (Some (next_said old before line))
said_goes None before line gains = by (trace_head_said line)
  where
    by : (o : Option TraceHead) → GoesWithout None (Some (ok_or (option_map after_head o) (record { line = 1; kind = kind.BadHead })))
    by None = inr (inl (record { line = 1; kind = kind.BadHead }, refl))
    by (Some head) = inr (inr (tt, after_head head, refl, refl))
said_goes (Some (Err fault)) before line gains = inl refl
said_goes (Some (Ok reading)) before line gains = by (line_taken reading line) refl gains
  where
    here : TraceFault
    here = record { line = before + 1; kind = line_fault line }

    by : (o : Option TraceReading) → line_taken reading line ≡ o → GainsEvent (Some (Ok reading)) (Some (ok_or o here)) None → GoesWithout (Some (Ok reading)) (Some (ok_or o here))
    by None is g = inr (inl (here, refl))
    by (Some next) is g = line_goes reading next (g next refl) (λ none. none_before reading next line none is)

-- a text with one byte more, where that gains no event
pub goes_without : (text : List ℕ) (b : ℕ) → GainsEvent (text_reading text) (text_reading (text ++ b ∷ [])) None → GoesWithout (text_reading text) (text_reading (text ++ b ∷ []))
goes_without text b gains = by (b == 10) refl
  where
    by : (feed : Bool) → (b == 10) ≡ feed → GoesWithout (text_reading text) (text_reading (text ++ b ∷ []))
    by false other = inl (reading_stays text b other)
    by true feed =
        let grows = reading_grows text b feed in
        subst (λ (new : Option (Result TraceReading TraceFault)). GoesWithout (text_reading text) new) (sym grows)
        (said_goes (text_reading text) (length (whole_lines text)) (last_line text) (subst (λ (new : Option (Result TraceReading TraceFault)). GainsEvent (text_reading text) new None) grows gains))
