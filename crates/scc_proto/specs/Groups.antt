-- How the barriers' flags and the records of a group fit together (this project's profile of RCCE's barrier,
-- with a gather flag and a release flag a member).
use Rattle.std.specs.Prelude.{◌≡◌, ℕ, suc, ◌-◌, ◌%◌, ◌≤◌, Bool, true, false, ◌&&◌, ◌==◌, nat_lt, nat_le, if◌then◌else◌}
use Rattle.scc_proto.specs.Stages.{Stage, Barrier, Record}
use Rattle.scc_proto.specs.Views.{View}

-- a barrier of the communicator is open
abbrev pub is_open : ℕ → Stage → Bool
is_open comm (Barrier c seen released) = c == comm
is_open comm stage = false

-- the root is in a barrier of this communicator, and has seen that the member at this place entered it
abbrev pub has_seen : ℕ → ℕ → Stage → Bool
has_seen comm place (Barrier c seen released) = (c == comm) && nat_le place seen
has_seen comm place stage = false

-- the root is in a barrier of this communicator, and has not yet released the member at this place
abbrev pub holds_back : ℕ → ℕ → Stage → Bool
holds_back comm place (Barrier c seen released) = (c == comm) && nat_lt released place
holds_back comm place stage = false

-- how many barriers of the communicator there are from which the root has released the member at this place
abbrev pub releases : ℕ → ℕ → Record → ℕ
releases comm place root = if holds_back comm place root.stage then root.flips comm - 1 else root.flips comm

-- the gather flag of a rank has the value of its last flip
abbrev pub GatherShows : View → ℕ → ℕ → Record → Type 0
GatherShows view comm r rec = view.gather comm r ≡ rec.flips comm % 2

-- a member of a group, which is not the root, against its root
pub record InStep (view : View) (comm place r : ℕ) (root member : Record) : Type 0 where
  -- its release flag has the value of the last barrier from which the root released it
  pub release_flag : view.release comm r ≡ releases comm place root % 2
  -- it has entered each barrier from which it was released, and at most one more
  pub entered : releases comm place root ≤ member.flips comm
  pub not_ahead : member.flips comm ≤ suc (releases comm place root)
  -- one from which it was not released is open
  pub waits : member.flips comm ≡ suc (releases comm place root) → is_open comm member.stage ≡ true
  -- the root has seen it only in a barrier that it has entered
  pub seen : has_seen comm place root.stage ≡ true → root.flips comm ≤ member.flips comm
