-- What the calls of a core do to its private lines and to the shared words (SCC External Architecture
-- Specification: reads through the cache, writes through it and the write-combining buffer).
use Rattle.std.specs.Prelude.{◌≡◌, ℕ, suc, ◌<◌, List, [], ◌∷◌, ◌++◌, Option, None, Some, length, remove, slice_index}
pub use Rattle.line_cache.specs.Lines.{line_noted}
use Rattle.scc_base.specs.Places.{LineAt, WordAt, line_of_word, word_of_line}
use Rattle.scc_base.specs.Events.{store_of}
use Rattle.scc_base.specs.declared.events.Event.{Event}
use Rattle.scc_proto.specs.Ports.{Seat, Sight, Did}
use Rattle.line_cache.specs.declared.cache.Entry.{Entry}
use Rattle.line_cache.specs.Lines.{cached_words, with_filled_line, lines_with_word, IsCache}
use Rattle.line_cache.specs.Eviction.{MayAnswer, asked_after}
use Rattle.write_combine.specs.declared.combiner.Out.{Out}
use Rattle.write_combine.specs.Combining.{handed_out, held_after, HoldsWord}
use Rattle.put_get.specs.Accesses.{loads_of, stores_of, whole_line, WereSteps}

-- what is seen of a core: the lines in its cache, the line in its write-combining buffer, how many lines
-- its evictor had dropped, how often its evictor was asked, where it counts that, and what it answers now
pub record Private : Type 0 where
  pub lines : List Entry
  pub out : Option Out
  pub evictions : ℕ
  pub asked : Option ℕ
  pub answers : List (Option ℕ)

-- what a core always has: at most 512 cached lines, none of them twice, and in its buffer no line of which no word
-- was written
pub record IsCore (lines : List Entry) (out : Option Out) : Type 0 where
  pub cache : IsCache lines
  pub buffer : HoldsWord out

-- a line came in, and the evictor was asked once, with the number of lines held: it named none, and the line stands
-- last, or the one that it named left; nothing is said of what it answers afterwards
pub data Fills (c : Private) (line : LineAt) (words : List ℕ) (d : Private) : Type 0 where
  Kept : MayAnswer c.answers (length (with_filled_line c.lines line words)) None
      → d ≡ record c { lines = with_filled_line c.lines line words; asked = asked_after c.asked; answers = d.answers }
      → Fills c line words d
  Dropped : (at : ℕ) → at < length (with_filled_line c.lines line words)
      → MayAnswer c.answers (length (with_filled_line c.lines line words)) (Some at)
      → d ≡ record c {
        lines = remove (with_filled_line c.lines line words) at;
        evictions = suc c.evictions;
        asked = asked_after c.asked;
        answers = d.answers;
      } → Fills c line words d

-- the words of a line were got: from the cache with no event, or by four loads, after which the line came in
pub data Fetch (s : Sight) (c : Private) (line : LineAt) (words : List ℕ) (t : Sight) (d : Private) : Type 0 where
  Held : cached_words c.lines line ≡ Some words → t ≡ s → d ≡ c → Fetch s c line words t d
  Loaded : cached_words c.lines line ≡ None → length words ≡ 4 → Did s (loads_of line words) t → Fills c line words d
      → Fetch s c line words t d

-- one word was read
pub record ReadsWord (s : Sight) (c : Private) (p : WordAt) (v : ℕ) (t : Sight) (d : Private) : Type 0 where
  pub words : List ℕ
  pub fetch : Fetch s c (line_of_word p) words t d
  pub is : v ≡ slice_index words p.word

-- the four words of a line were read, one after the other; each may have to be loaded anew
pub record ReadsLine (s : Sight) (c : Private) (line : LineAt) (words : List ℕ) (t : Sight) (d : Private) : Type 0 where
  pub s1 : Sight
  pub c1 : Private
  pub word0 : ReadsWord s c (word_of_line line 0) (slice_index words 0) s1 c1
  pub s2 : Sight
  pub c2 : Private
  pub word1 : ReadsWord s1 c1 (word_of_line line 1) (slice_index words 1) s2 c2
  pub s3 : Sight
  pub c3 : Private
  pub word2 : ReadsWord s2 c2 (word_of_line line 2) (slice_index words 2) s3 c3
  pub word3 : ReadsWord s3 c3 (word_of_line line 3) (slice_index words 3) t d

-- one word was written: it is noted in the cache and in the buffer, and what the buffer handed out was stored
pub record Writes (s : Sight) (c : Private) (p : WordAt) (v : ℕ) (t : Sight) (d : Private) : Type 0 where
  pub did : Did s (stores_of (handed_out c.out (line_of_word p))) t
  pub is : d ≡ record c { lines = lines_with_word c.lines p v; out = Some (held_after c.out p v) }

-- what the buffer held was stored
pub record Flushes (s : Sight) (c : Private) (t : Sight) (d : Private) : Type 0 where
  pub did : Did s (stores_of c.out) t
  pub is : d ≡ record c { out = None }

-- a word of another line than the one in the buffer was written and stored at once: what the buffer held was stored
-- before it, as when a word is written and then flushed
pub record WritesThrough (s : Sight) (c : Private) (p : WordAt) (v : ℕ) (t : Sight) (d : Private) : Type 0 where
  pub did : Did s (stores_of c.out ++ store_of p v ∷ []) t
  pub is : d ≡ record c { lines = lines_with_word c.lines p v; out = None }

-- a whole line was written: what the buffer held before was stored, and the line stands in the buffer
pub record WritesLine (s : Sight) (c : Private) (line : LineAt) (words : List ℕ) (t : Sight) (d : Private) : Type 0 where
  pub did : Did s (stores_of c.out) t
  pub is : d ≡ record c { lines = line_noted c.lines line words; out = Some (whole_line line words) }

-- each event between two sights of a port was a step of the chip's memory
abbrev pub MadeSteps : (Seat → List Event → Event → Type 0) → Sight → Sight → Type 0
MadeSteps stepped s t = (es : List Event) → Did s es t → WereSteps (stepped s.seat) s.events es
