-- Where the words come from that a core answers.
use Rattle.std.specs.Prelude.{◌≡◌, ℕ, ◌+◌, ◌*◌, ◌<◌, ◌≤◌, Bool, true, ◌==◌, ◌&&◌, List, [], ◌∷◌, ◌++◌, None, slice_index}
use Rattle.std.specs.List.{list_any}
use Rattle.scc_base.specs.Places.{LineAt, WordAt, word_of_line, line_of_word}
use Rattle.scc_base.specs.Events.{store_of}
use Rattle.scc_base.specs.declared.events.Event.{Event}
use Rattle.scc_proto.specs.Ports.{Sight, Did}
use Rattle.write_combine.specs.Combining.{handed_out}
use Rattle.put_get.specs.Cores.{Private, ReadsWord, ReadsLine, Writes, WritesThrough, WritesLine, Flushes}
use Rattle.put_get.specs.Transfers.{same_word, load_count, line_at, Puts, Gets}

-- the event is of this word and has this value
abbrev pub tells : WordAt → ℕ → Event → Bool
tells p v e = same_word e.place p && e.value == v

-- one of the events is of this word and has this value
abbrev pub IsValueKnown : List Event → WordAt → ℕ → Type 0
IsValueKnown known p v = list_any (tells p v) known ≡ true

-- what a core did since it last dropped all its lines: the loads that it made, and the words that it wrote,
-- each as a store, in the order of the calls
pub data Since : List Event → Private → Type 0 where
  Invalidated : (c : Private) → c.lines ≡ [] → Since [] c
  HasRead : (known : List Event) (c : Private) → Since known c → (s t : Sight) (d : Private) (p : WordAt) (v : ℕ) (es : List Event)
      → ReadsWord s c p v t d → Did s es t → Since (known ++ es) d
  HasWritten : (known : List Event) (c : Private) → Since known c → (s t : Sight) (d : Private) (p : WordAt) (v : ℕ)
      → p.word < 4 → Writes s c p v t d → Since (known ++ store_of p v ∷ []) d
  HasFlushed : (known : List Event) (c : Private) → Since known c → (s t : Sight) (d : Private) → Flushes s c t d → Since known d

-- each answer of a core is the value of a load that it made since it last dropped all its lines, or a word
-- that it wrote since then
abbrev pub AnswersLaw : Type 0
AnswersLaw = (known es : List Event) (c d : Private) (s t : Sight) (p : WordAt) (v : ℕ) → Since known c → p.word < 4
    → ReadsWord s c p v t d → Did s es t → IsValueKnown (known ++ es) p v

-- a line that is read costs at most four loads, and four more for each line that was dropped meanwhile
abbrev pub LineCostLaw : Type 0
LineCostLaw = (es : List Event) (c d : Private) (s t : Sight) (line : LineAt) (words : List ℕ) → ReadsLine s c line words t d → Did s es t
    → load_count es + 4 * c.evictions ≤ 4 * d.evictions + 4

-- the words of a line as they were written, in order
abbrev pub writes_of : LineAt → List ℕ → List Event
writes_of line words =
    store_of (word_of_line line 0) (slice_index words 0) ∷ store_of (word_of_line line 1) (slice_index words 1)
    ∷ store_of (word_of_line line 2) (slice_index words 2) ∷ store_of (word_of_line line 3) (slice_index words 3) ∷ []

-- the words of lines from a line on as they were written, in order
abbrev pub writes_from : ℕ → ℕ → List (List ℕ) → List Event
writes_from core line [] = []
writes_from core line (words ∷ rest) = writes_of (line_at core line) words ++ writes_from core (line + 1) rest

-- each word of a line is known
abbrev pub IsLineTold : List Event → LineAt → List ℕ → Type 0
IsLineTold known line words = (k : ℕ) → k < 4 → IsValueKnown known (word_of_line line k) (slice_index words k)

-- the calls for whole lines keep `Since`: each field is one call. Behind line_read, line_write, word_through and put what a
-- core knows goes on with what the call loaded or wrote; behind a get it begins anew with the get's loads. Each word that a
-- read or a get answers is known by then.
pub record LinesLaw : Type 0 where
  pub line_read : (known es : List Event) (c d : Private) (s t : Sight) (line : LineAt) (words : List ℕ) → Since known c
      → ReadsLine s c line words t d → Did s es t → Since (known ++ es) d × IsLineTold (known ++ es) line words
  pub line_write : (known : List Event) (c d : Private) (s t : Sight) (line : LineAt) (words : List ℕ) → Since known c
      → handed_out c.out line ≡ c.out → WritesLine s c line words t d → Since (known ++ writes_of line words) d
  pub word_through : (known : List Event) (c d : Private) (s t : Sight) (p : WordAt) (v : ℕ) → Since known c → p.word < 4
      → handed_out c.out (line_of_word p) ≡ c.out → WritesThrough s c p v t d → Since (known ++ store_of p v ∷ []) d
  pub put : (known : List Event) (c d : Private) (s t : Sight) (core line : ℕ) (src : List (List ℕ)) → Since known c
      → c.out ≡ None → Puts s c core line src t d → Since (known ++ writes_from core line src) d
  pub get : (es : List Event) (c d : Private) (s t : Sight) (core line : ℕ) (dst : List (List ℕ))
      → Gets s c core line dst t d → Did s es t → Since es d
