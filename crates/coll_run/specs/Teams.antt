-- The ranks of a run of one collective call: where it begins, and what it leaves (this project's profile).
use Rattle.std.specs.Prelude.{◌≡◌, ℕ, ◌<◌, Bool, false, List, [], ◌∷◌, ◌++◌, length, None, slice_index_or}
use base.Stored.{gnil}
use Rattle.scc_base.specs.Setups.{SetupView}
use Rattle.scc_base.specs.declared.events.Event.{Event}
use Rattle.scc_proto.specs.Passed.{open_call}
use Rattle.scc_proto.specs.Ports.{Seat, Sight}
use Rattle.scc_proto.specs.Records.{record_of}
use Rattle.scc_proto.specs.Stages.{Idle}
use Rattle.scc_mesh.specs.Scenes.{ChipView, IsWhole, about_in, events_in, records_in}
use Rattle.put_get.specs.Cores.{Private}
use Rattle.send_recv.specs.Ops.{SlotAt, empty_slot}
use Rattle.coll_more.specs.Ops.{MoreAt, data_calls, new_more, taking_part}
use Rattle.coll_more.specs.Pieces.{pieces_for}
use Rattle.coll_more.specs.Standing.{IsFit, MoreStands}
use Rattle.coll_more.specs.declared.kinds.More.{More}

-- what is seen of a rank: its core, its slot, its call, the bytes that it hands in and those that it gets, and whether it has
-- met a message with another head than it asked for
pub record MemberView : Type 0 where
  pub core : Private
  pub slot : SlotAt
  pub op : MoreAt
  pub src : List ℕ
  pub dst : List ℕ
  pub met : Bool

-- a rank of a setup, and its events, as a port of its own would show them
abbrev pub seat_of : SetupView → ℕ → Seat
seat_of s rank = record { setup = s; rank = rank; mark = gnil; rest = gnil; hold = 0 }

-- what a rank of a setup sees, with these events
abbrev pub sight_of : SetupView → ℕ → List Event → Sight
sight_of s rank events = record { seat = seat_of s rank; events = events }

-- a rank before its first turn
pub record IsFreshMember (more : More) (len : ℕ) (m : MemberView) : Type 0 where
  pub op : m.op ≡ new_more more len
  pub slot : m.slot ≡ empty_slot
  pub buffer : m.core.out ≡ None
  pub met : m.met ≡ false

-- a rank stands where its events stand: this call is the first of its rank, which holds no register between turns
pub record MemberStands (more : More) (len : ℕ) (m : MemberView) (s : SetupView) (rank : ℕ) (events : List Event) : Type 0 where
  pub more_is : m.op.more ≡ more
  pub len_is : m.op.len ≡ len
  pub stands : MoreStands [] (taking_part (sight_of s rank events) m.core m.op m.slot m.src m.dst)
  pub hands : (core : ℕ) → (record_of s rank events).held core ≡ None

-- ranks before their first turn, from rank 0 on, with src and dst of their lengths
pub record AreFreshMembers (more : More) (len nue : ℕ) (team : List MemberView) : Type 0 where
  pub fresh : (k : ℕ) (d : MemberView) → k < length team → IsFreshMember more len (slice_index_or team k d)
  pub fits : (k : ℕ) (d : MemberView) → k < length team → IsFit more k nue len (slice_index_or team k d).src (slice_index_or team k d).dst

-- one rank more, which hands in these bytes
pub record HasJoined (more : More) (len nue : ℕ) (team : List MemberView) (src : List ℕ) (later : List MemberView) : Type 0 where
  pub fresh : AreFreshMembers more len nue later
  pub joined : MemberView
  pub is : later ≡ team ++ joined ∷ []
  pub src_is : joined.src ≡ src

-- what the ranks hand in
abbrev pub srcs_of : List MemberView → MemberView → ℕ → List ℕ
srcs_of team d k = (slice_index_or team k d).src

-- a chip that is open without events, all its ranks at home, each before its first turn
pub record IsFreshTeam (more : More) (len : ℕ) (chip : ChipView) (team : List MemberView) : Type 0 where
  pub whole : IsWhole chip
  pub empty : (r : ℕ) → r < (about_in chip).nue → events_in chip r ≡ []
  pub each : length team ≡ (about_in chip).nue
  pub fresh : AreFreshMembers more len (about_in chip).nue team

-- A run is over: it is the same chip, all its ranks are at home, and each has got its pieces of what the ranks handed in. Its
-- finished calls are exactly those of its table, in order and with their bytes; no call is open, and no message is in draft.
pub record TeamHasEnded (more : More) (len : ℕ) (chip : ChipView) (team : List MemberView) (now : ChipView)
    (later : List MemberView) : Type 0 where
  pub about : about_in now ≡ about_in chip
  pub whole : IsWhole now
  pub count : length later ≡ length team
  pub pieces : (k : ℕ) (d : MemberView) → k < length team
      → (slice_index_or later k d).dst ≡ pieces_for more (about_in chip).nue len (srcs_of team d) k
  pub calls : (k : ℕ) (d : MemberView) → k < length team
      → (records_in now k).calls
      ≡ data_calls more k (about_in chip).nue len (srcs_of team d k) (pieces_for more (about_in chip).nue len (srcs_of team d) k)
  pub none_open : (k : ℕ) → k < length team → open_call (about_in now) (records_in now k) ≡ None
  pub idle : (k : ℕ) → k < length team → (records_in now k).stage ≡ Idle
