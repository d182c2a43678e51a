-- What sinks take of texts, whole or cut short. A text is one list of bytes. This project's profile.
use Rattle.std.specs.Prelude.{◌≡◌, ℕ, ◌<◌, ◌≤◌, List, [], ◌∷◌, ◌++◌, length, take, Option, option_map, Result, Ok, Err}
use Rattle.rcce_io.specs.declared.sink.Put.{Put}
use Rattle.rcce_io.specs.declared.sink.Put.TheVariants as put
use Rattle.rcce_io.specs.declared.writing.WriteFault.{WriteFault}
use Rattle.rcce_io.specs.Faults.{next_count}

-- a sink: the bytes that it took, where they are told, and its count of faults
pub record SinkView : Type 0 where
  pub taken : Option (List ℕ)
  pub faults : ℕ

-- the sink that took this text too
abbrev pub with_text : List ℕ → SinkView → SinkView
with_text text sink = record { taken = option_map (λ bytes. bytes ++ text) sink.taken; faults = sink.faults }

-- the sink with one fault more
abbrev pub with_fault : SinkView → SinkView
with_fault sink = record { taken = sink.taken; faults = next_count sink.faults }

-- what a write does to a sink: it takes a front of the bytes, or counts one fault and takes nothing
abbrev pub SinkWrites : List ℕ → SinkView → SinkView → Put → Type 0
SinkWrites bytes before after (put.Took n) = (0 < n) × (n ≤ length bytes) × (after ≡ with_text (take n bytes) before)
SinkWrites bytes before after put.Failed = after ≡ with_fault before

-- The sink took a front of the text, and then one write failed. Nothing was written behind it: that might have failed
-- too, and then two faults were counted.
pub record CutShort (text : List ℕ) (before after : SinkView) : Type 0 where
  pub front : List ℕ
  pub back : List ℕ
  pub whole : text ≡ front ++ back
  pub missing : 0 < length back
  pub left : after ≡ with_fault (with_text front before)

-- a text that is sent is taken whole, or cut short by a fault
abbrev pub Sends : List ℕ → SinkView → SinkView → Result (Unit {0}) WriteFault → Type 0
Sends text before after (Ok _) = after ≡ with_text text before
Sends text before after (Err _) = CutShort text before after

-- so much of the text was taken, with no fault, and the rest of it waits
pub record RestWaits (text waiting : List ℕ) (before after : SinkView) : Type 0 where
  pub gone : List ℕ
  pub whole : text ≡ gone ++ waiting
  pub left : after ≡ with_text gone before

-- A text was put behind what waited: of both so much was taken and the rest of them waits, or they were cut short by a
-- fault.
abbrev pub Gathers : List ℕ → List ℕ → List ℕ → SinkView → SinkView → Result (Unit {0}) WriteFault → Type 0
Gathers text waited waiting before after (Ok _) = RestWaits (waited ++ text) waiting before after
Gathers text waited waiting before after (Err _) = CutShort (waited ++ text) before after

-- texts, one behind the other
abbrev pub joined_texts : List (List ℕ) → List ℕ
joined_texts [] = []
joined_texts (text ∷ texts) = text ++ joined_texts texts
