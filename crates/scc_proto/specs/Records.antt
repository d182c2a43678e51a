-- What each event is to the record of its rank, and the record of a list of events (this project's profile).
use Rattle.std.specs.Prelude.{◌≡◌, ℕ, zero, suc, ◌+◌, ◌-◌, ◌^◌, Bool, true, not, ◌&&◌, ◌==◌, if◌then◌else◌, List, [], ◌∷◌, Option, Some, None, is_some, is_none, option_map, option_and_then, IsTrue}
use Rattle.std.specs.Int.{bit_at}
use Rattle.scc_base.specs.Places.{WordAt}
use Rattle.scc_base.specs.Layouts.{chunk_size}
use Rattle.scc_base.specs.Setups.{SetupView, setup_key, place_of, size_of}
use Rattle.scc_base.specs.declared.events.Access.{Access}
use Rattle.scc_base.specs.declared.events.Access.TheVariants.{Load, Store, Take, Free}
use Rattle.scc_base.specs.declared.events.Event.{Event}
use Rattle.scc_base.specs.declared.signals.Signal.{Signal}
use Rattle.scc_base.specs.declared.signals.Signal.TheVariants.{Sent, Ready}
use Rattle.scc_proto.specs.Tables.{table_with}
use Rattle.scc_proto.specs.Messages.{Notes, noted_word}
use Rattle.scc_proto.specs.Stages.{Stage, Taking, FlagWords, Record, blank}
use Rattle.scc_proto.specs.Moves.{Move, DraftHeader, DraftChunk, RaiseSignal, LookSignal, ReadHeader, ReadChunk, LowerSignal, FlipGather, LookGather, WriteRelease, LookRelease, StoreHeap, NoMove, Misplaced, after}
use Rattle.scc_proto.specs.Permission.{permits}
use Rattle.scc_proto.specs.Words.{Role, HeaderWord, ChunkWord, SignalFlag, SignalFlags, GatherFlag, ReleaseFlag, HeapWord, IdleWord, role_of, are_peers}

-- the bytes of a whole chunk
abbrev pub chunk_of : SetupView → ℕ
chunk_of s = chunk_size s.layout

-- the place of the last member of the group of a rank
abbrev pub last_of : SetupView → ℕ → ℕ → ℕ
last_of s comm r = size_of s comm r - 1

-- a rank is the root of another one's group
abbrev pub leads : SetupView → ℕ → ℕ → ℕ → Bool
leads s comm root r = (setup_key s comm r == setup_key s comm root) && (place_of s comm root == 0)

-- a look that tells of one rank
abbrev pub look_at : ℕ → ℕ → ℕ → Bool
look_at from value = λ j. (j == from) && (value == 1)

-- a look that tells of each other rank by its own bit
abbrev pub look_at_bits : SetupView → ℕ → ℕ → ℕ → Bool
look_at_bits s me value = λ j. are_peers s me j && (bit_at value j == 1)

-- the move that a load of a word is, by the word's role
abbrev pub load_by : SetupView → ℕ → ℕ → Role → Move
load_by s me value (HeaderWord owner k) = ReadHeader owner k value
load_by s me value (ChunkWord owner k) = ReadChunk owner k value
load_by s me value (SignalFlag signal by at) = if at == me then LookSignal signal (look_at by value) else NoMove
load_by s me value (SignalFlags signal at) = if at == me then LookSignal signal (look_at_bits s me value) else NoMove
load_by s me value (GatherFlag comm owner) = if leads s comm me owner then LookGather comm owner (place_of s comm owner) value else NoMove
load_by s me value (ReleaseFlag comm owner) = if (owner == me) && not (leads s comm me me) then LookRelease comm value else NoMove
load_by s me value HeapWord = NoMove
load_by s me value IdleWord = NoMove

-- the word differs from the old one in this bit alone, which was clear and is set
abbrev pub raises_bit : ℕ → ℕ → ℕ → Bool
raises_bit b old new = (bit_at old b == 0) && (new == old + 2 ^ b)

-- the word differs from the old one in this bit alone, which was set and is clear
abbrev pub lowers_bit : ℕ → ℕ → ℕ → Bool
lowers_bit b old new = (bit_at old b == 1) && (old == new + 2 ^ b)

-- the one other rank below n whose bit was lowered
abbrev pub lowered_below : ℕ → ℕ → ℕ → ℕ → Option ℕ
lowered_below me old new zero = None
lowered_below me old new (suc n) = if not (n == me) && lowers_bit n old new then Some n else lowered_below me old new n

-- the move about the rank that was found; with none found the store has no place
abbrev pub move_at : (ℕ → Move) → Option ℕ → Move
move_at move None = Misplaced
move_at move (Some j) = move j

-- the move that a change of a word of bit flags is: at the own core a bit of another rank is lowered, at
-- another core the own bit is raised. Seven parameters: the moves of a bit that is lowered and of one that is raised, the
-- rank in its setup, at whose core the word is, the new word, and the old one where it was read.
abbrev pub change_at : (lower raise : ℕ → Move) → SetupView → (me owner new : ℕ) → Option ℕ → Move
change_at lower raise s me owner new None = Misplaced
change_at lower raise s me owner new (Some old) = if owner == me then move_at lower (lowered_below me old new s.nue)
    else (if raises_bit me old new then raise owner else Misplaced)

-- the word of a signal's flags among those of a core
abbrev pub flags_in : Signal → FlagWords → Option ℕ
flags_in Sent flags = flags.sent
flags_in Ready flags = flags.ready

-- the word of a signal's flags that a rank has noted under its hold of a core's register
abbrev pub flags_noted : Signal → Record → ℕ → Option ℕ
flags_noted signal rec core = option_and_then (λ (flags : FlagWords). flags_in signal flags) (rec.held core)

-- the move that a store to a word is, by the word's role
abbrev pub store_by : SetupView → ℕ → Record → WordAt → ℕ → Role → Move
store_by s me rec place value (HeaderWord owner k) = if owner == me then DraftHeader k value else Misplaced
store_by s me rec place value (ChunkWord owner k) = if owner == me then DraftChunk k value else Misplaced
store_by s me rec place value (SignalFlag signal by at) = if (by == me) && (value == 1) then RaiseSignal signal at
    else (if (at == me) && (value == 0) then LowerSignal signal by else Misplaced)
store_by s me rec place value (SignalFlags signal at) =
    change_at (LowerSignal signal) (RaiseSignal signal) s me at value (flags_noted signal rec place.core)
store_by s me rec place value (GatherFlag comm owner) = if owner == me then FlipGather comm value (last_of s comm me) else Misplaced
store_by s me rec place value (ReleaseFlag comm owner) =
    if leads s comm me owner then WriteRelease comm owner (place_of s comm owner) value (last_of s comm me) else Misplaced
store_by s me rec place value HeapWord = StoreHeap place value
store_by s me rec place value IdleWord = Misplaced

-- what one event is to the record of its rank. Under the register of its core a word of bit flags is
-- noted by a load, and changed by a store, which is the move.
pub data EventAct : Type 0 where
  Moving : Move → EventAct
  NotingSignal : Signal → (core value : ℕ) → EventAct
  ChangingSignal : Signal → (core : ℕ) → Move → EventAct
  Holding : (core : ℕ) → EventAct
  Freeing : (core : ℕ) → EventAct

-- what a load is to the record: of bit flags under the own hold of their register it notes the word, else it is a move
abbrev pub load_act : SetupView → ℕ → Record → WordAt → ℕ → Role → EventAct
load_act s me rec place value (SignalFlags signal at) =
    if is_some (rec.held place.core) then NotingSignal signal place.core value else Moving (load_by s me value (SignalFlags signal at))
load_act s me rec place value role = Moving (load_by s me value role)

-- what a store is to the record: of bit flags it changes a noted word, else it is a move
abbrev pub store_act : SetupView → ℕ → Record → WordAt → ℕ → Role → EventAct
store_act s me rec place value (SignalFlags signal at) =
    ChangingSignal signal place.core (store_by s me rec place value (SignalFlags signal at))
store_act s me rec place value role = Moving (store_by s me rec place value role)

-- what an access to a place is to the record
abbrev pub act_by : SetupView → ℕ → Record → Access → WordAt → ℕ → EventAct
act_by s me rec Load place value = load_act s me rec place value (role_of s place)
act_by s me rec Store place value = store_act s me rec place value (role_of s place)
act_by s me rec Take place value = if value == 1 then Holding place.core else Moving NoMove
act_by s me rec Free place value = Freeing place.core

-- what the event of rank `me` is to its record
unfoldable pub act_of : SetupView → ℕ → Record → Event → EventAct
act_of s me rec e = act_by s me rec e.access e.place e.value

-- the words of a core with another word of a signal's flags, a noted one or none
abbrev pub set_flags : Signal → Option ℕ → FlagWords → FlagWords
set_flags Sent word flags = record flags { sent = word }
set_flags Ready word flags = record flags { ready = word }

-- the word of a signal's flags is noted
abbrev pub note_flags : Signal → ℕ → FlagWords → FlagWords
note_flags signal value flags = set_flags signal (Some value) flags

-- the word of a signal's flags was stored, and is noted no more
abbrev pub forget_flags : Signal → FlagWords → FlagWords
forget_flags signal flags = set_flags signal None flags

-- the flag words under the hold of one core's register, changed
abbrev pub change_held : (FlagWords → FlagWords) → ℕ → Record → Record
change_held change core rec = record rec { held = table_with rec.held core (option_map change (rec.held core)) }

-- the record after an act that it permits
abbrev pub after_act : ℕ → EventAct → Record → Record
after_act size (Moving move) rec = after size move rec
after_act size (NotingSignal signal core value) rec = change_held (note_flags signal value) core rec
after_act size (ChangingSignal signal core move) rec = change_held (forget_flags signal) core (after size move rec)
after_act size (Holding core) rec = record rec { held = table_with rec.held core (Some (record { sent = None; ready = None })) }
after_act size (Freeing core) rec = record rec { held = table_with rec.held core None }

-- the record permits the act: a move that it permits, a take of a register that it does not hold, a free of one that it holds
abbrev pub permits_act : ℕ → EventAct → Record → Bool
permits_act size (Moving move) rec = permits size move rec
permits_act size (ChangingSignal signal core move) rec = permits size move rec
permits_act size (Holding core) rec = is_none (rec.held core)
permits_act size (Freeing core) rec = is_some (rec.held core)
permits_act size act rec = true

-- a load is always permitted, and a take whatever it finds
abbrev pub permits_by : SetupView → ℕ → Record → Access → WordAt → ℕ → Bool
permits_by s me rec Load place value = true
permits_by s me rec Store place value = permits_act (chunk_of s) (store_act s me rec place value (role_of s place)) rec
permits_by s me rec Take place value = is_none (rec.held place.core)
permits_by s me rec Free place value = is_some (rec.held place.core)

-- the record permits the event of rank `me` next, as a test
abbrev pub is_permitted : SetupView → ℕ → Record → Event → Bool
is_permitted s me rec e = permits_by s me rec e.access e.place e.value

-- the record permits the event of rank `me` next
abbrev pub IsPermitted : SetupView → ℕ → Record → Event → Type 0
IsPermitted s me rec e = IsTrue (is_permitted s me rec e)

-- the record after one more event: one that is not permitted leaves it as it is
abbrev pub record_after : SetupView → ℕ → Record → Event → Record
record_after s me rec e = if is_permitted s me rec e then after_act (chunk_of s) (act_of s me rec e) rec else rec

-- the record after more events, the first first
abbrev pub record_from : SetupView → ℕ → Record → List Event → Record
record_from s me rec [] = rec
record_from s me rec (e ∷ es) = record_from s me (record_after s me rec e) es

-- the record of a list of events of rank `me`
unfoldable pub record_of : SetupView → ℕ → List Event → Record
record_of s me events = record_from s me blank events

-- the value noted of a word of the chunk that is being taken from this rank
abbrev pub noted_chunk : ℕ → ℕ → Stage → Option ℕ
noted_chunk from k (Taking i message chunk) = if i == from then noted_word chunk k else None
noted_chunk from k stage = None

-- the value noted of the word that a load reads: a header word of a rank that was seen, or a chunk word
abbrev pub noted_by : Move → Record → Option ℕ
noted_by (ReadHeader from k value) rec = option_and_then (λ (header : Notes). noted_word header k) (rec.notes from)
noted_by (ReadChunk from k value) rec = noted_chunk from k rec.stage
noted_by move rec = None

-- the value that the record has noted of the word that is loaded, if it has noted one
abbrev pub noted_load : SetupView → ℕ → Record → Access → WordAt → Option ℕ
noted_load s me rec Load place = noted_by (load_by s me 0 (role_of s place)) rec
noted_load s me rec access place = None

-- a load answers the noted value
abbrev pub IsHonest : SetupView → ℕ → Record → Event → Type 0
IsHonest s me rec e = (value : ℕ) → noted_load s me rec e.access e.place ≡ Some value → e.value ≡ value
