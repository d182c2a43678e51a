-- The flags of a barrier: a gather flag and a release flag at each member of a group (this project's profile of
-- RCCE's barrier). Each is a whole word, which is flipped between 0 and 1.
use Rattle.std.specs.Prelude.{◌≡◌, ℕ, ◌%◌, ◌<◌, Bool, false, List, slice_index, slice_index_or}
use Rattle.scc_base.specs.Places.{WordAt, flag_word}
use Rattle.scc_base.specs.Layouts.{gather_at, release_at}
use Rattle.scc_base.specs.Setups.{SetupView, host_of, members_of}
use Rattle.scc_proto.specs.Stages.{Record}
use Rattle.scc_proto.specs.Ports.{Seat}
use Rattle.sync_flags.specs.Flags.{flag_value}

-- the value that the own gather flag of a communicator has, among those of all communicators
abbrev pub value_at : List Bool → ℕ → Bool
value_at values comm = slice_index_or values comm false

-- the values of the own gather flags are those of the record
abbrev pub IsParityOf : Record → List Bool → Type 0
IsParityOf rec values = (comm : ℕ) → comm < 16 → flag_value (value_at values comm) ≡ rec.flips comm % 2

-- the member at a place of the group of a rank
abbrev pub member_at : SetupView → ℕ → ℕ → ℕ → ℕ
member_at s comm r place = slice_index (members_of s comm r) place

-- the gather flag and the release flag at a rank
abbrev pub gather_word : Seat → ℕ → ℕ → WordAt
gather_word seat comm r = flag_word (host_of seat.setup.hosts r) (gather_at seat.setup.layout comm)

-- the word of the release flag at a rank
abbrev pub release_word : Seat → ℕ → ℕ → WordAt
release_word seat comm r = flag_word (host_of seat.setup.hosts r) (release_at seat.setup.layout comm)
