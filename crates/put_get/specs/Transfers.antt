-- Put and get of whole lines of a buffer (RCCE specification 2.0: RCCE_put and RCCE_get).
use Rattle.std.specs.Prelude.{◌≡◌, ℕ, ◌+◌, ◌*◌, ◌≤◌, ◌<◌, Bool, true, false, ◌==◌, ◌&&◌, List, [], ◌∷◌, ◌++◌, length, slice_index}
use Rattle.std.specs.List.{list_any, count_by}
use Rattle.scc_base.specs.Places.{LineAt, WordAt, word_of_line}
use Rattle.scc_base.specs.declared.events.Access.{Access}
use Rattle.scc_base.specs.declared.events.Access.TheVariants.{Load}
use Rattle.scc_base.specs.declared.events.Event.{Event}
use Rattle.scc_proto.specs.Ports.{Sight, Did}
use Rattle.line_cache.specs.declared.cache.Entry.{Entry}
use Rattle.put_get.specs.Accesses.{stores_of_line, whole_line}
use Rattle.put_get.specs.Cores.{Private, ReadsLine, line_noted}

-- a line of a core's buffer
abbrev pub line_at : ℕ → ℕ → LineAt
line_at core line = record { core = core; line = line }

-- the stores of lines from a line on: line after line, the words 3, 2, 1, 0 of each
abbrev pub put_stores : ℕ → ℕ → List (List ℕ) → List Event
put_stores core line [] = []
put_stores core line (words ∷ rest) =
    stores_of_line (whole_line (line_at core line) words) ++ put_stores core (line + 1) rest

-- the cached lines after lines from a line on were written
abbrev pub put_lines : List Entry → ℕ → ℕ → List (List ℕ) → List Entry
put_lines es core line [] = es
put_lines es core line (words ∷ rest) = put_lines (line_noted es (line_at core line) words) core (line + 1) rest

-- a put: lines from a line on were written, and all of them were stored. Seven parameters: the target's core and its first
-- line, the words of the lines, and the caller's sight and core before and after.
pub record Puts (s : Sight) (c : Private) (core line : ℕ) (src : List (List ℕ)) (t : Sight) (d : Private) : Type 0 where
  pub did : Did s (put_stores core line src) t
  pub is : d ≡ record c { lines = put_lines c.lines core line src }

-- lines from a line on were read, one after the other. Seven parameters: the source's core and its first line, the words
-- that were read, and the caller's sight and core before and after.
abbrev pub ReadsLines : Sight → Private → ℕ → ℕ → List (List ℕ) → Sight → Private → Type 0
ReadsLines s c core line [] t d = (t ≡ s) × (d ≡ c)
ReadsLines s c core line (words ∷ rest) t d =
    (s1 : Sight) × (c1 : Private) × ReadsLine s c (line_at core line) words s1 c1 × ReadsLines s1 c1 core (line + 1) rest t d

-- the access is a load
abbrev pub is_load : Access → Bool
is_load Load = true
is_load access = false

-- how many of the events are loads
abbrev pub load_count : List Event → ℕ
load_count events = count_by (λ (e : Event). is_load e.access) events

-- whether two words are one
abbrev pub same_word : WordAt → WordAt → Bool
same_word a b = (a.core == b.core && a.line == b.line) && a.word == b.word

-- the event is a load of this word that answered this value
abbrev pub is_load_of : WordAt → ℕ → Event → Bool
is_load_of p v e = is_load e.access && (same_word e.place p && e.value == v)

-- one of the events is a load of this word that answered this value
abbrev pub IsLoaded : List Event → WordAt → ℕ → Type 0
IsLoaded events p v = list_any (is_load_of p v) events ≡ true

-- each word of a line is the value of one of the loads among these events
abbrev pub IsLineLoaded : List Event → LineAt → List ℕ → Type 0
IsLineLoaded events line words = (k : ℕ) → k < 4 → IsLoaded events (word_of_line line k) (slice_index words k)

-- each word of lines from a line on is the value of one of the loads among these events
abbrev pub AreLoaded : List Event → ℕ → ℕ → List (List ℕ) → Type 0
AreLoaded events core line [] = Unit {0}
AreLoaded events core line (words ∷ rest) =
    IsLineLoaded events (line_at core line) words × AreLoaded events core (line + 1) rest

-- a get: the cache was emptied, and lines from a line on were read with loads alone; each word given is the value of
-- one of the loads, of which there are at most four for each line and each eviction. Seven parameters, those of
-- `ReadsLines`: a get is such a reading by an emptied cache.
pub record Gets (s : Sight) (c : Private) (core line : ℕ) (dst : List (List ℕ)) (t : Sight) (d : Private) : Type 0 where
  pub reads : ReadsLines s (record c { lines = [] }) core line dst t d
  pub events : List Event
  pub did : Did s events t
  pub loaded : AreLoaded events core line dst
  pub only_loads : load_count events ≡ length events
  pub work : length events + 4 * c.evictions ≤ 4 * d.evictions + 4 * length dst
  pub out : d.out ≡ c.out
