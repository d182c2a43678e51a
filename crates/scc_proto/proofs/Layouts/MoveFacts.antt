-- What is known of a move that an event of a rank is: that its place is one of the layout's, that a look or a
-- read tells the word, and that the record permits it.
use Rattle.std.proofs.Common.{◌≡◌, ◌≢◌, ℕ, ◌<◌, true}
use Rattle.scc_base.specs.Setups.{SetupView, place_of, root_of}
use Rattle.scc_base.specs.declared.signals.Signal.{Signal}
use Rattle.scc_proto.specs.Stages.{Record}
use Rattle.scc_proto.specs.Moves.{Move, RaiseSignal, LookSignal, ReadHeader, ReadChunk, LowerSignal, FlipGather, LookGather, WriteRelease, LookRelease}
use Rattle.scc_proto.specs.Permission.{permits}
use Rattle.scc_proto.specs.Words.{are_peers, is_present}
use Rattle.scc_proto.specs.Records.{chunk_of, last_of}
use Rattle.scc_proto.specs.Views.{View}

-- rank `r` is a member of the group of which `me` is the root, at this place
pub record IsMember (s : SetupView) (me comm r place : ℕ) : Type 0 where
  pub present : is_present s comm ≡ true
  pub below : r < s.nue
  pub root : root_of s comm r ≡ me
  pub first : place_of s comm me ≡ 0
  pub at : place ≡ place_of s comm r

-- the move is one that a place of the layout gives to rank `me`
abbrev pub IsMoveOf : SetupView → ℕ → Move → Type 0
IsMoveOf s me (RaiseSignal signal to) = are_peers s me to ≡ true
IsMoveOf s me (LookSignal signal is_set) = (j : ℕ) → is_set j ≡ true → are_peers s me j ≡ true
IsMoveOf s me (LowerSignal signal by) = are_peers s me by ≡ true
IsMoveOf s me (FlipGather comm value last) = (is_present s comm ≡ true) × (last ≡ last_of s comm me)
IsMoveOf s me (LookGather comm from place value) = IsMember s me comm from place
IsMoveOf s me (WriteRelease comm to place value last) = IsMember s me comm to place × (last ≡ last_of s comm me)
IsMoveOf s me (LookRelease comm value) = (is_present s comm ≡ true) × (place_of s comm me ≢ 0)
IsMoveOf s me move = Unit {0}

-- what a load tells of the words
abbrev pub Tells : ℕ → Move → View → Type 0
Tells me (LookSignal signal is_set) view = (j : ℕ) → is_set j ≡ true → view.signal signal j me ≡ 1
Tells me (ReadHeader from k v) view = view.header from k ≡ v
Tells me (ReadChunk from k v) view = view.chunk from k ≡ v
Tells me (LookGather comm from place value) view = view.gather comm from ≡ value
Tells me (LookRelease comm value) view = view.release comm me ≡ value
Tells me move view = Unit {0}

pub record IsViewStep (s : SetupView) (me : ℕ) (view : View) (rec : Record) (move : Move) : Type 0 where
  pub rank : me < s.nue
  pub own : IsMoveOf s me move
  pub told : Tells me move view
  pub permitted : permits (chunk_of s) move rec ≡ true

-- two views that show the same of all ranks and communicators of the run
pub record SameView (s : SetupView) (one other : View) : Type 0 where
  pub signal : (signal : Signal) (by at : ℕ) → are_peers s by at ≡ true → one.signal signal by at ≡ other.signal signal by at
  pub header : (r k : ℕ) → r < s.nue → one.header r k ≡ other.header r k
  pub chunk : (r k : ℕ) → r < s.nue → one.chunk r k ≡ other.chunk r k
  pub gather : (comm r : ℕ) → is_present s comm ≡ true → r < s.nue → one.gather comm r ≡ other.gather comm r
  pub release : (comm r : ℕ) → is_present s comm ≡ true → r < s.nue → one.release comm r ≡ other.release comm r
