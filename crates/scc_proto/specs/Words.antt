-- The shared words of the chip, what one event is to them, and what each buffer word is for (SCC External
-- Architecture Specification; the word as the unit and the table of words are this project's profile).
use Rattle.std.specs.Prelude.{◌≡◌, ℕ, zero, suc, ◌+◌, ◌-◌, ◌*◌, ◌⊎◌, Bool, true, false, not, ◌&&◌, ◌==◌, nat_lt, nat_le, if◌then◌else◌, List, [], ◌∷◌, Option, Some, None}
use Rattle.scc_base.specs.Places.{first_heap, WordAt}
use Rattle.scc_base.specs.Layouts.{first_gather, first_release, first_chunk}
use Rattle.scc_base.specs.Setups.{SetupView, host_of}
use Rattle.scc_base.specs.Communicators.{rule_of}
use Rattle.scc_base.specs.declared.communicators.CommRule.{CommRule}
use Rattle.scc_base.specs.declared.communicators.CommRule.TheVariants.{Absent, World, Mod, Div}
use Rattle.scc_base.specs.declared.layouts.Layout.{Layout}
use Rattle.scc_base.specs.declared.layouts.Layout.TheVariants.{LineFlags, BitFlags}
use Rattle.scc_base.specs.declared.events.Access.{Access}
use Rattle.scc_base.specs.declared.events.Access.TheVariants.{Load, Store, Take, Free}
use Rattle.scc_base.specs.declared.events.Event.{Event}
use Rattle.scc_base.specs.declared.signals.Signal.{Signal}
use Rattle.scc_base.specs.declared.signals.Signal.TheVariants.{Sent, Ready}
use Rattle.scc_proto.specs.Tables.{table_with}

-- a number for each buffer word, by core, line and word, and for each core's test-and-set register
pub record Memory : Type 0 where
  pub word : ℕ → ℕ → ℕ → ℕ
  pub register : ℕ → ℕ

-- the chip at the start: each word and each register is 0
abbrev pub zeros : Memory
zeros = record { word = λ core line word. 0; register = λ core. 0 }

-- the value of a word
abbrev pub word_at : Memory → WordAt → ℕ
word_at memory place = memory.word place.core place.line place.word

-- the word is the one at a place
abbrev pub is_at : WordAt → ℕ → ℕ → ℕ → Bool
is_at place core line word = (core == place.core) && ((line == place.line) && (word == place.word))

-- an access is a step: a load tells the word; a store and a free always are; a take has 1 where it found the register free,
-- and 0 where it found it taken
abbrev pub IsStepBy : Access → WordAt → ℕ → Memory → Type 0
IsStepBy Load place value memory = word_at memory place ≡ value
IsStepBy Store place value memory = Unit {0}
IsStepBy Take place value memory = ((value ≡ 1) × (memory.register place.core ≡ 0)) ⊎ ((value ≡ 0) × (memory.register place.core ≡ 1))
IsStepBy Free place value memory = Unit {0}

-- the memory after an access of this kind
abbrev pub memory_by : Access → WordAt → ℕ → Memory → Memory
memory_by Load place value memory = memory
memory_by Store place value memory =
    record memory { word = λ core line word. if is_at place core line word then value else memory.word core line word }
memory_by Take place value memory =
    record memory { register = if value == 1 then table_with memory.register place.core 1 else memory.register }
memory_by Free place value memory = record memory { register = table_with memory.register place.core 0 }

-- the event is a step of the memory
abbrev pub IsStep : Memory → Event → Type 0
IsStep memory e = IsStepBy e.access e.place e.value memory

-- the memory after an event
abbrev pub memory_after : Memory → Event → Memory
memory_after memory e = memory_by e.access e.place e.value memory

-- an event of a rank
pub record RankEvent : Type 0 where
  pub rank : ℕ
  pub event : Event

-- each event of a list in turn is a step of the memory before it
abbrev pub IsRun : Memory → List RankEvent → Type 0
IsRun memory [] = Unit {0}
IsRun memory (e ∷ es) = IsStep memory e.event × IsRun (memory_after memory e.event) es

-- two memories have the same words and registers
pub record SameWords (one other : Memory) : Type 0 where
  pub words : (core line word : ℕ) → one.word core line word ≡ other.word core line word
  pub registers : (core : ℕ) → one.register core ≡ other.register core

-- what a buffer word is for. A flag of a signal is named by the rank that raises it and the rank at whose core it
-- lies, which lowers it; a barrier's by a communicator and a member. With bit flags a word has the flags of all ranks.
pub data Role : Type 0 where
  HeaderWord : (owner k : ℕ) → Role
  ChunkWord : (owner k : ℕ) → Role
  SignalFlag : Signal → (by at : ℕ) → Role
  SignalFlags : Signal → (at : ℕ) → Role
  GatherFlag : (comm owner : ℕ) → Role
  ReleaseFlag : (comm owner : ℕ) → Role
  HeapWord : Role
  IdleWord : Role

-- the rank on a core, among the first n
abbrev pub rank_below : ℕ → List ℕ → ℕ → Option ℕ
rank_below zero hosts core = None
rank_below (suc n) hosts core = if host_of hosts n == core then Some n else rank_below n hosts core

-- the rank that runs on a core, if one does
abbrev pub rank_on : SetupView → ℕ → Option ℕ
rank_on s core = rank_below s.nue s.hosts core

-- the rule is one that makes groups, and not that of an absent communicator
abbrev pub is_present_rule : CommRule → Bool
is_present_rule Absent = false
is_present_rule World = true
is_present_rule (Mod parent k) = true
is_present_rule (Div parent k) = true

-- the communicator has a rule
abbrev pub is_present : SetupView → ℕ → Bool
is_present s comm = nat_lt comm 16 && is_present_rule (rule_of s.comms comm)

-- two ranks that may have messages
abbrev pub are_peers : SetupView → ℕ → ℕ → Bool
are_peers s i j = nat_lt i s.nue && (nat_lt j s.nue && not (i == j))

-- the role, where two ranks may have messages; else the word is nobody's
abbrev pub if_peers : SetupView → ℕ → ℕ → Role → Role
if_peers s i j role = if are_peers s i j then role else IdleWord

-- the communicator of a word in one of the eight lines of flags that begin with this line
abbrev pub barrier_comm : ℕ → ℕ → ℕ → ℕ
barrier_comm first line word = 8 * word + (line - first)

-- the role, where the communicator has a rule; else the word is nobody's
abbrev pub if_present : SetupView → ℕ → ℕ → Role → Role
if_present s word comm role = if nat_lt word 2 && is_present s comm then role else IdleWord

-- the role of a word among the lines of the barriers' flags
abbrev pub barrier_role : SetupView → ℕ → ℕ → ℕ → Role
barrier_role s owner line word = if nat_le (first_release s.layout) line
    then if_present s word (barrier_comm (first_release s.layout) line word)
    (ReleaseFlag (barrier_comm (first_release s.layout) line word) owner)
    else if_present s word (barrier_comm (first_gather s.layout) line word)
    (GatherFlag (barrier_comm (first_gather s.layout) line word) owner)

-- the role of a word of the lines between the header line and the barriers' flags
abbrev pub flag_role : Layout → SetupView → ℕ → ℕ → ℕ → Role
flag_role LineFlags s owner line word = if word == 0
    then (if nat_le line 48 then if_peers s (line - 1) owner (SignalFlag Sent (line - 1) owner)
    else if_peers s owner (line - 49) (SignalFlag Ready (line - 49) owner))
    else IdleWord
flag_role BitFlags s owner line word =
    if word == 0 then SignalFlags Sent owner else (if word == 1 then SignalFlags Ready owner else IdleWord)

-- the role of a word of the core of a rank
abbrev pub role_at : SetupView → ℕ → ℕ → ℕ → Role
role_at s owner line word = if line == 0 then HeaderWord owner word
    else (if nat_lt line (first_gather s.layout) then flag_role s.layout s owner line word
    else (if nat_lt line (first_chunk s.layout) then barrier_role s owner line word
    else (if nat_lt line first_heap then ChunkWord owner (4 * (line - first_chunk s.layout) + word)
    else HeapWord)))

-- the role of a word of the core of a rank, or of a core without one
abbrev pub role_where : SetupView → Option ℕ → ℕ → ℕ → Role
role_where s None line word = IdleWord
role_where s (Some owner) line word = role_at s owner line word

-- what a buffer word is for; every word of a core without a rank is idle
abbrev pub role_of : SetupView → WordAt → Role
role_of s place = role_where s (rank_on s place.core) place.line place.word
