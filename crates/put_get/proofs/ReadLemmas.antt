-- A line that stands in the cache is read with no event, and so are the other words of a line that was brought in and kept.
use Rattle.std.proofs.Common.{◌≡◌, ℕ, List, None, Some, length, refl, slice_index}
use Rattle.scc_base.specs.Places.{LineAt, word_of_line}
use Rattle.scc_proto.specs.Ports.{Sight, Did}
use Rattle.line_cache.specs.Lines.{cached_words}
use Rattle.put_get.specs.Accesses.{loads_of}
use Rattle.put_get.specs.Cores.{Private, Fills, Held, Loaded, ReadsWord, ReadsLine}
use Rattle.put_get.proofs.FillLemmas.{fills_held}

word_held : (s : Sight) (c : Private) (line : LineAt) (words : List ℕ) (k : ℕ) → cached_words c.lines line ≡ Some words
    → ReadsWord s c (word_of_line line k) (slice_index words k) s c
word_held s c line words k h = record { words = words; fetch = Held h refl refl; is = refl }

pub line_held : (s : Sight) (c : Private) (line : LineAt) (words : List ℕ) → cached_words c.lines line ≡ Some words → ReadsLine s c line words s c
line_held s c line words h = record {
  s1 = s;
  c1 = c;
  word0 = word_held s c line words 0 h;
  s2 = s;
  c2 = c;
  word1 = word_held s c line words 1 h;
  s3 = s;
  c3 = c;
  word2 = word_held s c line words 2 h;
  word3 = word_held s c line words 3 h;
}

-- the first word of a line that was not held: it was loaded, and the line came in
pub first_loaded : (s t : Sight) (c d : Private) (line : LineAt) (words : List ℕ) → cached_words c.lines line ≡ None → length words ≡ 4
    → Did s (loads_of line words) t → Fills c line words d → ReadsWord s c (word_of_line line 0) (slice_index words 0) t d
first_loaded s t c d line words none four did fills = record { words = words; fetch = Loaded none four did fills; is = refl }

pub line_kept : (s t : Sight) (c d : Private) (line : LineAt) (words : List ℕ) → cached_words c.lines line ≡ None → length words ≡ 4
    → Did s (loads_of line words) t → Fills c line words d → d.evictions ≡ c.evictions → ReadsLine s c line words t d
line_kept s t c d line words none four did fills same =
    let h = fills_held fills none same in
    record {
      s1 = t;
      c1 = d;
      word0 = first_loaded s t c d line words none four did fills;
      s2 = t;
      c2 = d;
      word1 = word_held t d line words 1 h;
      s3 = t;
      c3 = d;
      word2 = word_held t d line words 2 h;
      word3 = word_held t d line words 3 h;
    }
