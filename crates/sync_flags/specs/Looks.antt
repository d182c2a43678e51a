-- LooksAtLine at flags: each is a fresh load of the flag's line (RCCE specification 2.0: a flag is read in a loop
-- until it is as wanted; that each look drops the cached lines before it is this project's profile).
use Rattle.std.specs.Prelude.{◌≡◌, ℕ, ◌<◌, Bool, true, List, [], ◌∷◌, ◌++◌, Option, Some, Result, Ok, Err, length, slice_index}
use Rattle.scc_base.specs.Places.{WordAt, LineAt, line_of_word}
use Rattle.scc_base.specs.declared.events.Event.{Event}
use Rattle.scc_base.specs.declared.events.Stalled.{Stalled}
use Rattle.scc_proto.specs.Ports.{Sight, Did}
use Rattle.line_cache.specs.Lines.{cached_words}
use Rattle.put_get.specs.Accesses.{loads_of}
use Rattle.put_get.specs.Cores.{Private, Fills}
use Rattle.sync_flags.specs.Flags.{is_set_in, spot_of_flag}
use Rattle.sync_flags.specs.Tries.{is_unwanted}

-- one look: the cached lines were dropped, the four words of the line were loaded, and the line came in
pub record LooksAtLine (s : Sight) (c : Private) (line : LineAt) (words : List ℕ) (t : Sight) (d : Private) : Type 0 where
  pub did : Did s (loads_of line words) t
  pub fills : Fills (record c { lines = [] }) line words d
  -- the loaded line stands in the cache, unless a line was evicted
  pub held : d.evictions ≡ c.evictions → cached_words d.lines line ≡ Some words

-- a word was looked at once, and this is its value
pub record LooksAt (s : Sight) (c : Private) (place : WordAt) (value : ℕ) (t : Sight) (d : Private) : Type 0 where
  pub words : List ℕ
  pub looks : LooksAtLine s c (line_of_word place) words t d
  pub is : value ≡ slice_index words place.word

-- a flag's word was looked at once, and this is what was found. Seven parameters: the flag (its word, its bit where it is
-- one), what was found, and the caller's sight and core before and after.
pub record ReadsFlag (s : Sight) (c : Private) (place : WordAt) (bit : Option ℕ) (found : Bool) (t : Sight) (d : Private) : Type 0 where
  pub words : List ℕ
  pub looks : LooksAtLine s c (line_of_word place) words t d
  pub is : found ≡ is_set_in bit (slice_index words place.word)

-- the loads of looks in a row
abbrev pub looks_of : LineAt → List (List ℕ) → List Event
looks_of line [] = []
looks_of line (words ∷ rest) = loads_of line words ++ looks_of line rest

-- looks in a row, with the words that each loaded
abbrev pub LooksAll : Sight → Private → LineAt → List (List ℕ) → Sight → Private → Type 0
LooksAll s c line [] t d = (t ≡ s) × (d ≡ c)
LooksAll s c line (words ∷ rest) t d = (s1 : Sight) × (c1 : Private) × LooksAtLine s c line words s1 c1 × LooksAll s1 c1 line rest t d

-- none of the looks found the flag as wanted
abbrev pub HaveFailed : WordAt → Option ℕ → Bool → List (List ℕ) → Type 0
HaveFailed place bit want [] = Unit {0}
HaveFailed place bit want (words ∷ rest) =
    (is_unwanted want (is_set_in bit (slice_index words place.word)) ≡ true) × HaveFailed place bit want rest

-- n looks in a row, all of them vain. Eight parameters: the flag (its word, its bit where it is one), the value that is
-- waited for, n, and the caller's sight and core before and after.
pub record LooksFailed (s : Sight) (c : Private) (place : WordAt) (bit : Option ℕ) (want : Bool) (n : ℕ) (t : Sight)
    (d : Private) : Type 0 where
  pub looks : List (List ℕ)
  pub count : length looks ≡ n
  pub failed : HaveFailed place bit want looks
  pub looked : LooksAll s c (line_of_word place) looks t d

-- after fewer vain looks than were allowed, one that found the flag as wanted. Eight parameters, those of `LooksFailed`,
-- with how many looks are allowed in place of n.
pub record FindsFlag (s : Sight) (c : Private) (place : WordAt) (bit : Option ℕ) (want : Bool) (polls : ℕ) (t : Sight)
    (d : Private) : Type 0 where
  pub failed : ℕ
  pub few : failed < polls
  pub then : Sight
  pub core : Private
  pub looks : LooksFailed s c place bit want failed then core
  pub reads : ReadsFlag then core place bit want t d

-- what a wait came to. Nine parameters: those of `FindsFlag`, and the answer.
abbrev pub WaitsFor : Sight → Private → WordAt → Option ℕ → Bool → ℕ → Sight → Private → Result Unit Stalled → Type 0
WaitsFor s c place bit want polls t d (Ok done) = FindsFlag s c place bit want polls t d
WaitsFor s c place bit want polls t d (Err stalled) =
    LooksFailed s c place bit want polls t d × (stalled ≡ record { spot = spot_of_flag place bit; polls = polls })
