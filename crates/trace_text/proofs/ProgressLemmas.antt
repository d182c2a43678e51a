-- A walk over a text, with one byte more, and at its end.
use Rattle.std.proofs.Common.{◌≡◌, ◌≢◌, inl, ℕ, zero, suc, ◌+◌, ◌<◌, ◌≤◌, Bool, true, false, ◌==◌, List, [], ◌∷◌, ◌++◌, length, length-append, take, Option, Some, None, Result, Ok, Err, refl, sym, ◌∙◌, ap, subst, arith}
use Rattle.std.specs.Prelude.{nat_lt}
use Rattle.std.proofs.lemmas.Bool.{cond-false, cond-true, le-ltb, lt-ltb}
use Rattle.std.specs.Bool.{MatchBool}
use Rattle.std.proofs.lemmas.Bool.Decides.{nat_tests}
use Rattle.rcce_audit.specs.Grammar.{begins_comm, comm_said}
use Rattle.rcce_audit.specs.Words.{log_words_of}
use Rattle.rcce_audit.proofs.WordLemmas.{only_some, then_some}
use Rattle.scc_proto.specs.Words.{RankEvent}
use Rattle.trace_text.specs.Grammar.{TraceReading, last_taken, line_fault, line_taken, split_added, split_taken, trace_of, ◌>->◌}
use Rattle.trace_text.specs.Progress.{HasWalked, TakesTraceLine, progress_of, said_by, said_with, walk_said}
use Rattle.trace_text.specs.Traces.{most_line_bytes, most_trace_bytes, most_trace_lines}
use Rattle.trace_text.specs.Walks.{EndsText, GainsEvent, last_line, trace_lines_said, next_said, text_reading, whole_lines}
use Rattle.trace_text.specs.declared.faults.TraceFault.{TraceFault}
use Rattle.trace_text.specs.declared.faults.TraceKind.TheVariants as kind
use Rattle.trace_text.specs.declared.reader.LineTaken.{LineTaken}
use Rattle.trace_text.specs.declared.reader.LineTaken.TheVariants as taken
use Rattle.trace_text.specs.declared.walks.LineWalk.{LineWalk}
use Rattle.trace_text.proofs.WalkLemmas.{byte_more, ended, fault_cut, few_lines, line_more, next_cut, no_lines, said_more, text_ended}

-- ---- what one line more says

pub said_some : (lines : ℕ) (fault : Option TraceFault) (reading : TraceReading) → lines ≢ 0 → said_by lines fault reading ≡ Some (said_with fault reading)
said_some zero fault reading other = absurd (other refl)
said_some (suc n) fault reading other = refl

said_none : (lines : ℕ) (fault : Option TraceFault) (reading : TraceReading) → lines ≡ 0 → said_by lines fault reading ≡ None
said_none zero fault reading is = refl
said_none (suc n) fault reading is = absurd (omega (arith, is))

-- ---- a line of a communicator

module _ (reading next : TraceReading) (line : List ℕ) (words : List (List ℕ)) (short : length line ≤ most_line_bytes) (same : words ≡ log_words_of line) (begins : begins_comm line ≡ true) where
  split_line : line_taken reading line ≡ split_taken reading words
  split_line = cond-false (nat_lt most_line_bytes (length line)) _ _ (le-ltb most_line_bytes (length line) short) ∙ cond-true (begins_comm line) _ _ begins ∙ ap (split_taken reading) (sym same)

  no_events : split_taken reading words ≡ Some next → next.trace.events ≡ []
  no_events taken =
      let (split, is, gives) = then_some (comm_said reading.comm reading.trace.setup.comms words) (split_added reading) next taken in
      let (test, same_next) = only_some (length reading.trace.events == 0) _ next gives in
      ap (λ (r : TraceReading). r.trace.events) (sym same_next) ∙ none reading.trace.events test
    where
      none : (events : List RankEvent) → (length events == 0) ≡ true → events ≡ []
      none [] t = refl
      none (e ∷ events) t = absurd (grind (arith, nat_tests))

  pub split_takes : (test : Bool) (answer : LineTaken) → MatchBool test (split_taken reading words ≡ Some next) (split_taken reading words ≡ None) → test ≡ true → answer ≡ taken.Split → TakesTraceLine reading line next answer
  split_takes true answer is t said = subst (TakesTraceLine reading line next) (sym said) (split_line ∙ is, no_events is)
  split_takes false answer is t said = absurd (cc)

  pub split_refused : (test : Bool) (answer : LineTaken) → MatchBool test (split_taken reading words ≡ Some next) (split_taken reading words ≡ None) → test ≡ false → answer ≡ taken.Refused → TakesTraceLine reading line next answer
  split_refused true answer is t said = absurd (cc)
  split_refused false answer is t said = subst (TakesTraceLine reading line next) (sym said) (split_line ∙ is)

-- ---- a walk over a text

pub start_walked : (w : LineWalk) → w.lines ≡ 0 → w.line.items ≡ [] → w.fault ≡ None → HasWalked [] w
unfolding text_reading
start_walked w lines line none = record {
  lines = lines ∙ sym (ap length no_lines.0);
  line = line ∙ sym (ap (take 256) no_lines.1);
  said = ap trace_lines_said no_lines.0 ∙ sym (said_none w.lines w.fault (progress_of w.reader) lines);
  first = λ e. none;
}

pub reading_stays : (text : List ℕ) (b : ℕ) → (b == 10) ≡ false → text_reading (text ++ b ∷ []) ≡ text_reading text
unfolding text_reading
reading_stays text b other = ap trace_lines_said (byte_more text b other).0

pub reading_grows : (text : List ℕ) (b : ℕ) → (b == 10) ≡ true → text_reading (text ++ b ∷ []) ≡ Some (next_said (text_reading text) (length (whole_lines text)) (last_line text))
unfolding text_reading
reading_grows text b feed = ap trace_lines_said (line_more text b feed).0 ∙ said_more (whole_lines text) (last_line text)

pub walked_byte : (text : List ℕ) (b : ℕ) (old new : LineWalk) → (b == 10) ≡ false → (new.lines ≡ old.lines) × (new.fault ≡ old.fault) × (new.reader ≡ old.reader)
    → ((last : List ℕ) → old.line.items ≡ take 256 last → new.line.items ≡ take 256 (last ++ b ∷ [])) → HasWalked text old → HasWalked (text ++ b ∷ []) new
walked_byte text b old new other same line walked = record {
  lines = same.0 ∙ walked.lines ∙ sym (ap length (byte_more text b other).0);
  line = line (last_line text) walked.line ∙ sym (ap (take 256) (byte_more text b other).1);
  said = reading_stays text b other ∙ walked.said ∙ sym (λ i. said_by (same.0 i) (same.1 i) (progress_of (same.2 i)));
  first = λ e. same.1 ∙ walked.first (sym same.0 ∙ e);
}

pub byte_gains : (text : List ℕ) (b : ℕ) → (b == 10) ≡ false → GainsEvent (text_reading text) (text_reading (text ++ b ∷ [])) None
byte_gains text b other r is = inl (sym (reading_stays text b other) ∙ is)

pub walked_line : (text : List ℕ) (b : ℕ) (old new : LineWalk) → (b == 10) ≡ true → new.lines ≡ old.lines + 1 → new.line.items ≡ [] → walk_said new ≡ Some (next_said (walk_said old) old.lines old.line.items)
    → HasWalked text old → HasWalked (text ++ b ∷ []) new
walked_line text b old new feed lines line said walked = record {
  lines = omega (arith, lines, walked.lines, ap length (line_more text b feed).0, length-append (whole_lines text) (last_line text ∷ []));
  line = line ∙ sym (ap (take 256) (line_more text b feed).1);
  said = reading_grows text b feed
      ∙ ap (λ (r : Result TraceReading TraceFault). Some r) (sym (next_cut (text_reading text) (length (whole_lines text)) (last_line text)))
      ∙ (λ i. Some (next_said (walked.said i) (sym walked.lines i) (sym walked.line i))) ∙ sym said;
  first = λ e. absurd (omega (arith, lines, e));
}

pub line_gains : (text : List ℕ) (old new : Option (Result TraceReading TraceFault)) (later : List ℕ) (made : Option RankEvent) → text_reading text ≡ old → text_reading later ≡ new → GainsEvent old new made → GainsEvent (text_reading text) (text_reading later) made
line_gains text old new later made before after gains =
    subst (λ (o : Option (Result TraceReading TraceFault)). GainsEvent o (text_reading later) made) (sym before) (subst (λ (n : Option (Result TraceReading TraceFault)). GainsEvent old n made) (sym after) gains)

pub walked_few : (text : List ℕ) (w : LineWalk) → length text ≤ most_trace_bytes → HasWalked text w → w.lines + 1 < 4294967296
walked_few text w within walked = let few = few_lines text in let lines = walked.lines in omega (arith, few, lines, within)

-- ---- the end of a text

module _ (text : List ℕ) (w : LineWalk) (within : length text ≤ most_trace_bytes) (walked : HasWalked text w) where
  pub ends_long : most_trace_lines < w.lines → trace_of text ≡ Err (record { line = 0; kind = kind.TooLong })
  ends_long long = text_ended text within ∙ cond-true (nat_lt most_trace_lines (length (whole_lines text))) _ _ (lt-ltb most_trace_lines (length (whole_lines text)) (subst (λ (n : ℕ). most_trace_lines < n) walked.lines long))

  module _ (few : w.lines ≤ most_trace_lines) where
    said_ends : trace_of text ≡ ended (walk_said w) (length (whole_lines text)) (last_line text)
    said_ends = text_ended text within ∙ cond-false (nat_lt most_trace_lines (length (whole_lines text))) _ _ (le-ltb most_trace_lines (length (whole_lines text)) (subst (λ (n : ℕ). n ≤ most_trace_lines) walked.lines few))
        ∙ ap (λ (o : Option (Result TraceReading TraceFault)). ended o (length (whole_lines text)) (last_line text)) walked.said

    pub ends_empty : w.lines ≡ 0 → trace_of text ≡ Err (record { line = 1; kind = kind.BadHead })
    ends_empty none = said_ends ∙ ap (λ (o : Option (Result TraceReading TraceFault)). ended o (length (whole_lines text)) (last_line text)) (said_none w.lines w.fault (progress_of w.reader) none)

    module _ (some : w.lines ≢ 0) where
      lines_end : trace_of text ≡ (said_with w.fault (progress_of w.reader) >-> last_taken (length (whole_lines text) + 1) (last_line text))
      lines_end = said_ends ∙ ap (λ (o : Option (Result TraceReading TraceFault)). ended o (length (whole_lines text)) (last_line text)) (said_some w.lines w.fault (progress_of w.reader) some)

      pub ends_fault : (fault : TraceFault) → w.fault ≡ Some fault → trace_of text ≡ Err fault
      ends_fault fault is = lines_end ∙ ap (λ (f : Option TraceFault). said_with f (progress_of w.reader) >-> last_taken (length (whole_lines text) + 1) (last_line text)) is

      module _ (none : w.fault ≡ None) where
        last_end : trace_of text ≡ last_taken (length (whole_lines text) + 1) (last_line text) (progress_of w.reader)
        last_end = lines_end ∙ ap (λ (f : Option TraceFault). said_with f (progress_of w.reader) >-> last_taken (length (whole_lines text) + 1) (last_line text)) none

        pub ends_whole : length w.line.items ≡ 0 → EndsText text (Ok tt)
        ends_whole empty = (
          progress_of w.reader,
          walked.said ∙ said_some w.lines w.fault (progress_of w.reader) some ∙ ap (λ (f : Option TraceFault). Some (said_with f (progress_of w.reader))) none,
          last_end ∙ by (last_line text) (sym (ap length walked.line) ∙ empty),
        )
          where
            by : (last : List ℕ) → length (take 256 last) ≡ 0 → last_taken (length (whole_lines text) + 1) last (progress_of w.reader) ≡ Ok (progress_of w.reader).trace
            by [] is = refl
            by (b ∷ last) is = absurd (omega (arith, is))

        pub ends_cut : (fault : TraceFault) → length w.line.items ≢ 0 → fault ≡ record { line = w.lines + 1; kind = line_fault w.line.items } → trace_of text ≡ Err fault
        ends_cut fault some_bytes is = last_end ∙ by (last_line text) walked.line ∙ ap (λ (f : TraceFault). Err f) (sym is)
          where
            by : (last : List ℕ) → w.line.items ≡ take 256 last → last_taken (length (whole_lines text) + 1) last (progress_of w.reader) ≡ Err (record { line = w.lines + 1; kind = line_fault w.line.items })
            by [] e = absurd (some_bytes (ap length e))
            by (b ∷ last) e = λ i. Err (record { line = sym walked.lines i + 1; kind = (sym (fault_cut (b ∷ last)) ∙ ap line_fault (sym e)) i })
