-- What the turns of a receive, of a send and of a slot have in common.
use Rattle.std.specs.Prelude.{◌≡◌, ℕ, ◌+◌, ◌*◌, ◌≤◌, ◌⊎◌, Bool, true, false, not, if◌then◌else◌, List, [], ◌∷◌, ◌++◌, Option, Some, None, slice_set}
use Rattle.std.specs.List.{list_all}
use Rattle.scc_base.specs.Places.{LineAt, WordAt, line_of_word, same_line}
use Rattle.scc_base.specs.Events.{take_of}
use Rattle.scc_base.specs.declared.layouts.Layout.{Layout}
use Rattle.scc_base.specs.declared.layouts.Layout.TheVariants.{LineFlags, BitFlags}
use Rattle.scc_base.specs.declared.events.Access.{Access}
use Rattle.scc_base.specs.declared.events.Access.TheVariants.{Store}
use Rattle.scc_base.specs.declared.events.Event.{Event}
use Rattle.scc_base.specs.declared.events.Spot.{Spot}
use Rattle.scc_base.specs.Setups.{SetupView}
use Rattle.scc_proto.specs.Stages.{InFlight, FlagWords, Record}
use Rattle.scc_proto.specs.Drafts.{is_draft}
use Rattle.line_cache.specs.Lines.{cached_words}
use Rattle.put_get.specs.Accesses.{loads_of, stores_of}
use Rattle.put_get.specs.Cores.{Private}
use Rattle.put_get.specs.Transfers.{load_count}
use Rattle.sync_flags.specs.Tries.{Aim, AtFlag, AtWord, AtRegister}

-- with bit flags no register is held; with line flags nothing is asked
abbrev pub HoldsNoneBy : Layout → (ℕ → Option FlagWords) → Type 0
HoldsNoneBy LineFlags hold = Unit {0}
HoldsNoneBy BitFlags hold = (core : ℕ) → hold core ≡ None

-- the rank holds no register, as the layout needs it
abbrev pub HoldsNone : Layout → Record → Type 0
HoldsNone layout rec = HoldsNoneBy layout rec.held

-- a posted message on its way is the same one, and its `ready` may have been seen since
abbrev pub IsSamePost : Option InFlight → Option InFlight → Type 0
IsSamePost None new = new ≡ None
IsSamePost (Some post) new =
    (answered : Bool) × (new ≡ Some (record post { is_answered = answered })) × (post.is_answered ≡ true → answered ≡ true)

-- what no turn of a message changes of a record
pub record KeepsAllButMessages (rec new : Record) : Type 0 where
  pub flips : new.flips ≡ rec.flips
  pub hold : new.held ≡ rec.held
  pub heap : new.heap ≡ rec.heap

-- what a turn that waits leaves: it may have seen flags of other ranks
pub record IsAtRest (rec new : Record) : Type 0 where
  pub stage : new.stage ≡ rec.stage
  pub post : IsSamePost rec.post new.post
  pub rest : KeepsAllButMessages rec new
  pub calls : new.calls ≡ rec.calls

-- the events of one try: the four loads of the flag's line, or one take that found the register taken
abbrev pub IsOneTry : Aim → List Event → Type 0
IsOneTry (AtFlag place bit want) events = (words : List ℕ) × (events ≡ loads_of (line_of_word place) words)
IsOneTry (AtWord place value) events = (words : List ℕ) × (events ≡ loads_of (line_of_word place) words)
IsOneTry (AtRegister core) events = events ≡ take_of core false ∷ []

-- the events of a turn that waits are those of one try
abbrev pub OnlyTries : Option Aim → List Event → Type 0
OnlyTries None events = Unit {0}
OnlyTries (Some aim) events = IsOneTry aim events

-- the words of a line after an access: a store into the line sets one of them
abbrev pub stored_by : Access → LineAt → WordAt → ℕ → List ℕ → List ℕ
stored_by Store line place value words = if same_line line (line_of_word place) then slice_set words place.word value else words
stored_by access line place value words = words

-- the words of a line after these events: each store into the line sets one of them
abbrev pub stored_since : LineAt → List ℕ → List Event → List ℕ
stored_since line words [] = words
stored_since line words (e ∷ es) = stored_since line (stored_by e.access line e.place e.value words) es

-- the line that was loaded last stands in the cache, unless lines were evicted
pub data LastHeld (es : List Event) (before : ℕ) (d : Private) : Type 0 where
  NoLoad : load_count es ≡ 0 → LastHeld es before d
  Last : (front : List Event) (line : LineAt) (words : List ℕ) (afterwards : List Event)
      → es ≡ front ++ (loads_of line words ++ afterwards) → load_count afterwards ≡ 0
      → (d.evictions ≡ before → cached_words d.lines line ≡ Some (stored_since line words afterwards)) → LastHeld es before d

-- the event is no store of a header or chunk word
abbrev pub is_no_draft : SetupView → Event → Bool
is_no_draft s e = not (is_draft s e)

-- the stores of the line that was held in the write-combining buffer: none of them was made, or all were
abbrev pub IsNoneOrAll : List Event → List Event → Type 0
IsNoneOrAll front held = (front ≡ []) ⊎ (front ≡ held)

-- each header or chunk word that was stored stood in the write-combining buffer before
pub record StoresFromBuffer (s : SetupView) (c : Private) (es : List Event) : Type 0 where
  pub front : List Event
  pub rest : List Event
  pub is : es ≡ front ++ rest
  pub none_or_all : IsNoneOrAll front (stores_of c.out)
  pub no_draft : list_all (is_no_draft s) rest ≡ true

-- the lines that a turn of a send or of a slot loads at most: 1 for a try, 0 without one
abbrev pub lines_for_try : Option Spot → ℕ
lines_for_try None = 0
lines_for_try (Some spot) = 1

-- the events load at most `lines` lines, and one more for each line that was evicted
abbrev pub LoadsLines : List Event → Private → Private → ℕ → Type 0
LoadsLines es c d lines = load_count es + 4 * c.evictions ≤ 4 * d.evictions + 4 * lines
