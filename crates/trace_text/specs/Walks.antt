-- A text that is read from front to end: what its lines say so far (this project's profile).
use Rattle.std.specs.Prelude.{◌≡◌, ◌⊎◌, ℕ, ◌+◌, ◌-◌, ◌<◌, List, [], ◌∷◌, length, slice_index_or, take, Option, Some, None, Result, Ok, Err}
use Rattle.std.specs.Option.{ok_or}
use Rattle.texts.specs.Cuts.{lines_of}
use Rattle.scc_proto.specs.Words.{RankEvent}
use Rattle.trace_text.specs.Grammar.{TraceReading, event_added, first_taken, line_fault, line_taken, lines_taken, trace_of, ◌>->◌}
use Rattle.trace_text.specs.declared.faults.TraceFault.{TraceFault}

-- the lines of a text that have their line feed
unfoldable pub whole_lines : List ℕ → List (List ℕ)
whole_lines text = take (length (lines_of text) - 1) (lines_of text)

-- what stands behind the last line feed
unfoldable pub last_line : List ℕ → List ℕ
last_line text = slice_index_or (lines_of text) (length (lines_of text) - 1) []

-- what lines say; where there is none, nothing
abbrev pub trace_lines_said : List (List ℕ) → Option (Result TraceReading TraceFault)
trace_lines_said [] = None
trace_lines_said (first ∷ lines) = Some (first_taken first >-> λ reading. lines_taken 2 reading lines)

-- what the lines of a text say so far
unfoldable pub text_reading : List ℕ → Option (Result TraceReading TraceFault)
text_reading text = trace_lines_said (whole_lines text)

-- the text has come to this reading, and no line of it has a fault
abbrev pub HasComeTo : List ℕ → TraceReading → Type 0
HasComeTo text r = text_reading text ≡ Some (Ok r)

-- what lines say with one line more, which stands behind `before` lines
abbrev pub next_said : Option (Result TraceReading TraceFault) → ℕ → List ℕ → Result TraceReading TraceFault
next_said None before line = first_taken line
next_said (Some said) before line =
    said >-> λ reading. ok_or (line_taken reading line) (record { line = before + 1; kind = line_fault line })

-- what is said has gained this event; or else no line of an event is taken
abbrev pub GainsEvent : Option (Result TraceReading TraceFault) → Option (Result TraceReading TraceFault) → Option RankEvent → Type 0
GainsEvent old new (Some e) = (r : TraceReading) × (old ≡ Some (Ok r)) × (new ≡ Some (Ok (event_added r e))) × (e.rank < r.trace.setup.nue)
GainsEvent old new None = (r : TraceReading) → new ≡ Some (Ok r) → (old ≡ Some (Ok r)) ⊎ (r.trace.events ≡ [])

-- the text ends here: it is a trace, to whose reading it has come, or its first fault is this
abbrev pub EndsText : List ℕ → Result (Unit {0}) TraceFault → Type 0
EndsText text (Ok _) = (r : TraceReading) × HasComeTo text r × (trace_of text ≡ Ok r.trace)
EndsText text (Err fault) = trace_of text ≡ Err fault
