-- Writes of flags (RCCE specification 2.0: a flag of one bit is changed under the test-and-set register of the
-- core that holds it).
use Rattle.std.specs.Prelude.{◌≡◌, ℕ, zero, suc, ◌<◌, Bool, true, false, if◌then◌else◌, List, [], ◌∷◌, ◌++◌, Option, Some, None, Result, Ok, Err, slice_index}
use Rattle.std.specs.Int.{bit_at}
use Rattle.scc_base.specs.Places.{WordAt, line_of_word}
use Rattle.scc_base.specs.Events.{store_of, take_of, free_of}
use Rattle.scc_base.specs.declared.events.Event.{Event}
use Rattle.scc_base.specs.declared.events.Stalled.{Stalled}
use Rattle.scc_base.specs.declared.events.Spot.TheVariants.{Register}
use Rattle.scc_proto.specs.Stages.{Record}
use Rattle.scc_proto.specs.Soundness.{IsSound}
use Rattle.scc_proto.specs.Ports.{Seat, Sight, Did, MayMake, MayMakeAll, WereMade, record_in, record_on}
use Rattle.line_cache.specs.Lines.{lines_with_word}
use Rattle.write_combine.specs.Combining.{handed_out}
use Rattle.put_get.specs.Accesses.{loads_of, stores_of}
use Rattle.put_get.specs.Cores.{Private, Fills, WritesThrough}
use Rattle.tas_lock.specs.Holds.{IsNotHolding}
use Rattle.sync_flags.specs.Flags.{flag_value, with_bit}

-- tries of a register that was found taken each time
abbrev pub failed_takes : ℕ → ℕ → List Event
failed_takes core zero = []
failed_takes core (suc n) = take_of core false ∷ failed_takes core n

-- the events of a bit's change from the take on that has the register: the loads of its line, one store of the
-- loaded word with that bit as asked, and the free
abbrev pub change_events : WordAt → ℕ → Bool → List ℕ → List Event
change_events place b set words =
    take_of place.core true ∷ (loads_of (line_of_word place) words
    ++ (store_of place (with_bit b set (slice_index words place.word)) ∷ free_of place.core ∷ []))

-- a line was loaded, after these events were made; no more is known of its words than that the loads were
-- honest and that the record is sound
pub record WasLoaded (seat : Seat) (rec : Record) (events : List Event) : Type 0 where
  pub made : WereMade seat rec events
  pub sound : IsSound seat.setup seat.rank (record_on seat rec events)

-- the record permits the store of a word with that bit as asked, whatever the loads of its line answered that
-- were made after these events
abbrev pub MayStoreBit : Seat → Record → List Event → WordAt → ℕ → Bool → Type 0
MayStoreBit seat rec before place b set = (words : List ℕ) → WasLoaded seat rec (before ++ loads_of (line_of_word place) words)
    → MayMake seat (record_on seat rec (before ++ loads_of (line_of_word place) words))
    (store_of place (with_bit b set (slice_index words place.word)))

-- the same at a port: the loads come next, and the store behind them
unfoldable pub MayStoreHere : Sight → WordAt → ℕ → Bool → Type 0
MayStoreHere s place b set = MayStoreBit s.seat (record_in s) [] place b set

-- the record permits the one store that a write of the flag makes; for a bit the store comes after the take
-- of a register that the rank does not hold yet
abbrev pub MayWrite : Seat → Record → WordAt → Option ℕ → Bool → Type 0
MayWrite seat rec place None set = MayMake seat rec (store_of place (flag_value set))
MayWrite seat rec place (Some b) set = IsNotHolding rec place.core × MayStoreBit seat rec (take_of place.core true ∷ []) place b set

-- a word was written and sent out: one store, and the cached line has the new word
pub record StoresWord (s : Sight) (c : Private) (place : WordAt) (value : ℕ) (t : Sight) (d : Private) : Type 0 where
  pub did : Did s (store_of place value ∷ []) t
  pub is : d ≡ record c { lines = lines_with_word c.lines place value }

-- a register was taken after fewer vain takes than were allowed, or there were that many of them
abbrev pub TakesWithin : Sight → ℕ → ℕ → Sight → Option ℕ → Type 0
TakesWithin s core polls t None = Did s (failed_takes core polls) t
TakesWithin s core polls t (Some held) = (held ≡ core) × ((n : ℕ) × (n < polls) × Did s (failed_takes core n ++ take_of core true ∷ []) t)

-- a bit was changed under a register that is held: the line came in and has the new word, and the record was sound
-- after its loads. Seven parameters: the bit (its word, its place in it), its value, and the caller's sight and core before
-- and after.
pub record ChangesBit (s : Sight) (c : Private) (place : WordAt) (b : ℕ) (set : Bool) (t : Sight) (d : Private) : Type 0 where
  pub words : List ℕ
  pub did : Did s (loads_of (line_of_word place) words ++ store_of place (with_bit b set (slice_index words place.word)) ∷ []) t
  pub was_loaded : WasLoaded s.seat (record_in s) (loads_of (line_of_word place) words)
  pub loaded : Private
  pub fills : Fills (record c { lines = [] }) (line_of_word place) words loaded
  pub is : d ≡ record loaded { lines = lines_with_word loaded.lines place (with_bit b set (slice_index words place.word)) }

-- one try at a bit's change: the register was found taken, or the events of the change were made, and the line came
-- in and has the new word. Eight parameters: those of `ChangesBit`, and whether the try was done.
pub data TriesChange (s : Sight) (c : Private) (place : WordAt) (b : ℕ) (set : Bool) (done : Bool) (t : Sight) (d : Private) : Type 0 where
  RegisterTaken : done ≡ false → Did s (take_of place.core false ∷ []) t → d ≡ c → TriesChange s c place b set done t d
  BitChanged : done ≡ true → (words : List ℕ)
      → WasLoaded s.seat (record_in s) (take_of place.core true ∷ loads_of (line_of_word place) words)
      → Did s (change_events place b set words) t → (loaded : Private) → Fills (record c { lines = [] }) (line_of_word place) words loaded
      → d ≡ record loaded { lines = lines_with_word loaded.lines place (with_bit b set (slice_index words place.word)) }
      → TriesChange s c place b set done t d

-- a flag that is a bit was written: after fewer vain takes than were allowed, the events of its change; the
-- line came in and has the new word. Eight parameters: those of `ChangesBit`, and how many takes are allowed.
pub record WritesBit (s : Sight) (c : Private) (place : WordAt) (b : ℕ) (set : Bool) (polls : ℕ) (t : Sight) (d : Private) : Type 0 where
  pub failed : ℕ
  pub few : failed < polls
  pub words : List ℕ
  pub did : Did s (failed_takes place.core failed ++ change_events place b set words) t
  pub loaded : Private
  pub fills : Fills (record c { lines = [] }) (line_of_word place) words loaded
  pub is : d ≡ record loaded { lines = lines_with_word loaded.lines place (with_bit b set (slice_index words place.word)) }

-- nothing but `polls` vain takes of a register
pub record GivesUp (s : Sight) (c : Private) (place : WordAt) (polls : ℕ) (t : Sight) (d : Private) : Type 0 where
  pub did : Did s (failed_takes place.core polls) t
  pub is : d ≡ c

-- what a write of a flag came to: a word is always written. Nine parameters: the flag (its word, its bit where it is one),
-- its value, how many takes are allowed, the caller's sight and core before and after, and the answer.
abbrev pub WritesFlag : Sight → Private → WordAt → Option ℕ → Bool → ℕ → Sight → Private → Result Unit Stalled → Type 0
WritesFlag s c place None set polls t d (Ok done) = StoresWord s c place (flag_value set) t d
WritesFlag s c place None set polls t d (Err stalled) = ⊥
WritesFlag s c place (Some b) set polls t d (Ok done) = WritesBit s c place b set polls t d
WritesFlag s c place (Some b) set polls t d (Err stalled) =
    GivesUp s c place polls t d × (stalled ≡ record { spot = Register place.core; polls = polls })

-- ---- a flag's change in one turn

-- the bit stands the other way, whatever the loads of its line answered that were made under its register
abbrev pub TurnsOver : Sight → WordAt → ℕ → Bool → Type 0
TurnsOver s place b set = (words : List ℕ) → WasLoaded s.seat (record_in s) (take_of place.core true ∷ loads_of (line_of_word place) words)
    → bit_at (slice_index words place.word) b ≡ (if set then 0 else 1)

-- a word may be written through: it lies in another line than the one that waits in the write-combining buffer, and the
-- record permits the stores of what waits there and then the word's
pub record MayWriteThrough (s : Sight) (c : Private) (place : WordAt) (value : ℕ) : Type 0 where
  pub other : handed_out c.out (line_of_word place) ≡ c.out
  pub permitted : MayMakeAll s.seat (record_in s) (stores_of c.out ++ store_of place value ∷ [])

-- a bit may be turned over: nothing waits in the write-combining buffer, the record permits the bit's change, and the bit
-- stands the other way
pub record MayTurn (s : Sight) (c : Private) (place : WordAt) (b : ℕ) (set : Bool) : Type 0 where
  pub empty : c.out ≡ None
  pub permitted : MayWrite s.seat (record_in s) place (Some b) set
  pub turns : TurnsOver s place b set

-- a flag may be changed in one turn: a word may be written through, a bit may be turned over
abbrev pub MayChangeFlag : Sight → Private → WordAt → Option ℕ → Bool → Type 0
MayChangeFlag s c place None set = MayWriteThrough s c place (flag_value set)
MayChangeFlag s c place (Some b) set = MayTurn s c place b set

-- one turn changes a flag: a word is written, and what waited in the write-combining buffer is stored before it; a bit is
-- tried once, and is turned over where the try is done. Eight parameters: the flag (its word, its bit where it is one), its
-- value, whether it was done, and the caller's sight and core before and after.
abbrev pub ChangesFlag : Sight → Private → WordAt → Option ℕ → Bool → (done : Bool) → Sight → Private → Type 0
ChangesFlag s c place None set done t d = (done ≡ true) × WritesThrough s c place (flag_value set) t d
ChangesFlag s c place (Some b) set done t d = TriesChange s c place b set done t d × TurnsOver s place b set
