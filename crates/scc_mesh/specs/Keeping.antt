-- The rule of the chip's table, and what a step on it tells.
use Rattle.std.specs.Prelude.{◌≡◌, ◌≢◌, ℕ, ◌<◌, ◌≤◌, ◌==◌, ◌⊎◌, List, [], ◌∷◌, ◌++◌, Some, length, Contains}
use mathlib.Core.Option.{some}
use lib.ListN.{get_elem?}
use Rattle.atomic_table.specs.Table.{State}
use Rattle.scc_base.specs.Numbers.{number_count}
use Rattle.scc_base.specs.Places.{WordAt}
use Rattle.scc_base.specs.Events.{load_of, store_of, take_of, free_of}
use Rattle.scc_base.specs.Setups.{SetupView, IsSetup}
use Rattle.scc_base.specs.declared.events.Access.{Access}
use Rattle.scc_base.specs.declared.events.Access.TheVariants.{Load, Store, Take, Free}
use Rattle.scc_base.specs.declared.events.Event.{Event}
use Rattle.scc_proto.specs.Tables.{table_with}
use Rattle.scc_proto.specs.Stages.{Record}
use Rattle.scc_proto.specs.Words.{Memory, IsStep, memory_after, HeapWord, role_of}
use Rattle.scc_proto.specs.Records.{IsPermitted, IsHonest, record_of}
use Rattle.scc_proto.specs.Soundness.{IsSound}
use Rattle.scc_proto.specs.Agreement.{Agrees}
use Rattle.scc_proto.specs.Memories.{memory_of}
use Rattle.scc_mesh.specs.SeatViews.{SeatView, events_of_rank, list_at, IsKnown, with_event}

-- the record of each rank's events
abbrev pub records_by : SetupView → (ℕ → List Event) → ℕ → Record
records_by s lists = λ r. record_of s r (lists r)

-- some rank has stored the value at the place
pub record IsStoredAt (lists : ℕ → List Event) (place : WordAt) (value : ℕ) : Type 0 where
  pub by : ℕ
  pub stored : Contains (lists by) (store_of place value)

-- each value that was loaded from a heap word is 0 or was stored there
abbrev pub HeapIsTold : SetupView → (ℕ → List Event) → Type 0
HeapIsTold s lists = (r : ℕ) (place : WordAt) (value : ℕ) → role_of s place ≡ HeapWord → Contains (lists r) (load_of place value)
    → (value ≡ 0) ⊎ IsStoredAt lists place value

-- a memory and the events of all ranks agree
pub record Together (s : SetupView) (memory : Memory) (lists : ℕ → List Event) : Type 0 where
  pub agree : Agrees s memory (records_by s lists)
  pub beyond : (r : ℕ) → s.nue ≤ r → lists r ≡ []
  pub heap : HeapIsTold s lists

-- one seat stands for a rank, and has its list
pub record IsSeatOf (s : SetupView) (owner : ℕ → ℕ) (lists : ℕ → List Event) (seat r : ℕ) (events : List Event) : Type 0 where
  pub owns : owner r ≡ seat
  pub list : lists r ≡ events
  pub below : r < s.nue

-- The rule: the table's words and the lists of all views agree.
pub record Kept (s : SetupView) (words : List ℕ) (views : List SeatView) : Type 0 where
  pub valid : IsSetup s
  pub count : length words ≡ number_count
  -- the seat that stands for each rank, and the rank's list
  pub owner : ℕ → ℕ
  pub lists : ℕ → List Event
  pub together : Together s (memory_of words) lists
  pub suits : (seat : ℕ) (v : SeatView) → get_elem? views seat ≡ some v → (r : ℕ) (events : List Event) → events_of_rank v r ≡ Some events
      → IsSeatOf s owner lists seat r events

-- a table keeps the rule
abbrev pub KeepsRule : {S : Type 0} → SetupView → State S SeatView → Type 0
KeepsRule s table = Kept s table.words table.views

-- what any seat knows: its lists are among lists of all ranks that agree with some memory
pub record Knows (s : SetupView) (v : SeatView) : Type 0 where
  pub valid : IsSetup s
  pub memory : Memory
  pub lists : ℕ → List Event
  pub together : Together s memory lists
  pub list : (r : ℕ) (events : List Event) → events_of_rank v r ≡ Some events → lists r ≡ events
  pub below : (r : ℕ) (events : List Event) → events_of_rank v r ≡ Some events → r < s.nue

-- An event of a rank was a step, made after these events of its own: the lists of all ranks agreed with the
-- memory before it, the event was a step of that memory, and they agree after it. The other ranks that are
-- known have kept their lists.
pub record WasStep (s : SetupView) (v : SeatView) (r : ℕ) (events : List Event) (e : Event) : Type 0 where
  pub memory : Memory
  pub lists : ℕ → List Event
  pub own : lists r ≡ events
  pub others : (q : ℕ) (known_events : List Event) → q ≢ r → events_of_rank v q ≡ Some known_events → lists q ≡ known_events
  pub before : Together s memory lists
  pub step : IsStep memory e
  pub after : Together s (memory_after memory e) (table_with lists r (events ++ e ∷ []))

-- what a step with one event of a rank does to the view of its seat, and tells
pub record Made (s : SetupView) (r : ℕ) (old : SeatView) (e : Event) (new : SeatView) : Type 0 where
  pub view : new ≡ with_event old r e
  pub step : WasStep s old r (list_at old r) e
  pub honest : IsHonest s r (record_of s r (list_at old r)) e
  pub list : list_at new r ≡ list_at old r ++ e ∷ []
  pub known : IsKnown new r
  pub sound : IsSound s r (record_of s r (list_at new r))
  pub knows : Knows s new

-- what a look tells
pub record Looked (s : SetupView) (old new : SeatView) : Type 0 where
  pub view : new ≡ old
  pub knows : Knows s new

-- the event of an access, by the number that it finds: a take has taken a register that was 0
abbrev pub event_found : Access → WordAt → ℕ → ℕ → Event
event_found Load place value found = load_of place found
event_found Store place value found = store_of place value
event_found Take place value found = take_of place.core (found == 0)
event_found Free place value found = free_of place.core

-- the rank may make the access, whatever a load or a take finds
abbrev pub MayAccess : SetupView → ℕ → List Event → Access → WordAt → ℕ → Type 0
MayAccess s r events access place value = IsPermitted s r (record_of s r events) (event_found access place value 1)

-- an event for each number where none is meant: the free of register 0
abbrev pub no_event : ℕ → Event
no_event n = free_of 0
