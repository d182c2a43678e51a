-- When the shared words and the records of all ranks agree.
use Rattle.std.specs.Prelude.{◌≡◌, ◌≢◌, ℕ, ◌<◌, ◌≤◌, ◌⊎◌, true, false, Contains}
use Rattle.std.specs.Int.{bit_at}
use Rattle.scc_base.specs.Places.{WordAt, IsPlace}
use Rattle.scc_base.specs.Setups.{SetupView, setup_key, place_of, root_of}
use Rattle.scc_proto.specs.Stages.{Record, blank}
use Rattle.scc_proto.specs.Words.{Memory, word_at, Role, SignalFlags, HeapWord, IdleWord, role_of, are_peers, is_present}
use Rattle.scc_proto.specs.Records.{chunk_of}
use Rattle.scc_proto.specs.Views.{View, view_of}
use Rattle.scc_proto.specs.Singles.{IsConsistent}
use Rattle.scc_proto.specs.Pairs.{Phase, pair_of, BufferStands}
use Rattle.scc_proto.specs.Groups.{GatherShows, InStep}
use Rattle.scc_proto.specs.Registers.{RegisterAgrees}
use Rattle.scc_proto.specs.Passed.{passed_calls, slot_of}
use Rattle.scc_proto.specs.Legality.{IsLegal}

-- each record of a rank of the run is consistent by itself, and that of any other number is blank
abbrev pub RecordsAgree : SetupView → (ℕ → Record) → Type 0
RecordsAgree s records = ((r : ℕ) → r < s.nue → IsConsistent s r (records r)) × ((r : ℕ) → s.nue ≤ r → records r ≡ blank)

-- each ordered pair of ranks is in one phase
abbrev pub PairsAgree : SetupView → View → (ℕ → Record) → Type 0
PairsAgree s view records =
    (from to : ℕ) → are_peers s from to ≡ true → Phase (chunk_of s) (pair_of from to view (records from) (records to))

-- each sender's buffer holds what it has drafted
abbrev pub SendersAgree : SetupView → View → (ℕ → Record) → Type 0
SendersAgree s view records = (r : ℕ) → r < s.nue → BufferStands (records r) (view.header r) (view.chunk r)

-- the barriers' flags of one rank in one communicator agree with its record and that of its root
pub record GroupAgrees (s : SetupView) (view : View) (comm r : ℕ) (records : ℕ → Record) : Type 0 where
  pub gather_flag : GatherShows view comm r (records r)
  pub root : place_of s comm r ≡ 0 → view.release comm r ≡ 0
  pub member : place_of s comm r ≢ 0 → InStep view comm (place_of s comm r) r (records (root_of s comm r)) (records r)

-- the barriers' flags of each rank in each communicator of the run agree with the records
abbrev pub GroupsAgree : SetupView → View → (ℕ → Record) → Type 0
GroupsAgree s view records = (comm r : ℕ) → is_present s comm ≡ true → r < s.nue → GroupAgrees s view comm r records

-- each core's test-and-set register agrees with what the ranks hold
abbrev pub RegistersAgree : SetupView → Memory → (ℕ → Record) → Type 0
RegistersAgree s memory records = (core : ℕ) → RegisterAgrees s memory core records

-- some rank has stored the value at the place
pub record WasStored (nue : ℕ) (records : ℕ → Record) (place : WordAt) (value : ℕ) : Type 0 where
  pub by : ℕ
  pub below : by < nue
  pub stored : Contains (records by).heap (record { place = place; value = value })

-- a heap word is 0 or was stored, an idle word is 0, and so are the bits of a flag word that are nobody's
abbrev pub WordAgrees : SetupView → WordAt → ℕ → (ℕ → Record) → Role → Type 0
WordAgrees s place word records HeapWord = (word ≡ 0) ⊎ WasStored s.nue records place word
WordAgrees s place word records IdleWord = word ≡ 0
WordAgrees s place word records (SignalFlags signal at) = (b : ℕ) → are_peers s at b ≡ false → bit_at word b ≡ 0
WordAgrees s place word records role = Unit {0}

-- each word of the chip agrees with the records, by its role
abbrev pub WordsAgree : SetupView → Memory → (ℕ → Record) → Type 0
WordsAgree s memory records = (place : WordAt) → IsPlace place → WordAgrees s place (word_at memory place) records (role_of s place)

-- the calls that all ranks have passed can have been made together, and leave the posted messages that are
-- not received
abbrev pub CallsAgree : SetupView → (ℕ → Record) → Type 0
CallsAgree s records = IsLegal s.nue (setup_key s) (passed_calls s records) (slot_of s records)

-- the words of the chip and the records of all ranks agree: each record by itself, each pair of ranks, each sender's
-- buffer, each group, the registers, the heap and idle words, and the passed calls are legal
pub record Agrees (s : SetupView) (memory : Memory) (records : ℕ → Record) : Type 0 where
  pub singles : RecordsAgree s records
  pub pairs : PairsAgree s (view_of s memory) records
  pub senders : SendersAgree s (view_of s memory) records
  pub groups : GroupsAgree s (view_of s memory) records
  pub registers : RegistersAgree s memory records
  pub words : WordsAgree s memory records
  pub calls : CallsAgree s records
