-- Where a rank stands in a barrier: each member flips its own gather flag; the root, which is member 0, looks at
-- the gather flags of the others, one after the other, and then writes their release flags; each other member
-- waits for its own release flag (this project's profile of RCCE's barrier).
use Rattle.std.specs.Prelude.{◌≡◌, ◌≢◌, ℕ, ◌+◌, ◌-◌, ◌*◌, ◌<◌, Bool, true, false, ◌==◌, if◌then◌else◌, List, [], ◌∷◌, Option, Some, None}
use Rattle.scc_base.specs.Calls.{DataCall, Bar}
use Rattle.scc_base.specs.Setups.{place_of, size_of}
use Rattle.scc_base.specs.Communicators.{rule_of}
use Rattle.scc_base.specs.declared.communicators.CommRule.TheVariants.{Absent}
use Rattle.scc_proto.specs.Stages.{Idle, Barrier, Record}
use Rattle.scc_proto.specs.Ports.{Seat, Sight, record_in}
use Rattle.put_get.specs.Cores.{Private}
use Rattle.sync_flags.specs.Tries.{Aim, AtWord}
use Rattle.sync_flags.specs.Turns.{IsBetweenCalls}
use Rattle.barrier.specs.declared.stages.BarStage.{BarStage}
use Rattle.barrier.specs.declared.stages.BarStage.TheVariants.{Flip, Gather, Release, Await, Finished}
use Rattle.barrier.specs.Flags.{IsParityOf, member_at, gather_word, release_word}

-- a barrier of a communicator, and what it does next
pub record BarAt : Type 0 where
  pub comm : ℕ
  pub stage : BarStage

-- what is seen of a member of a barrier
pub record Member : Type 0 where
  pub sight : Sight
  pub core : Private
  pub op : BarAt
  pub parity : List Bool

-- a member of a barrier, by what its port and its core show, where the barrier stands, and its parity
abbrev pub meeting : Sight → Private → BarAt → List Bool → Member
meeting sight core op parity = record { sight = sight; core = core; op = op; parity = parity }

-- what is seen of a rank behind a barrier
pub record ParityHolder : Type 0 where
  pub sight : Sight
  pub core : Private
  pub parity : List Bool

-- a rank with its parity
abbrev pub with_parity : Sight → Private → List Bool → ParityHolder
with_parity sight core parity = record { sight = sight; core = core; parity = parity }

-- a barrier that is not yet entered
abbrev pub new_barrier : ℕ → BarAt
new_barrier comm = record { comm = comm; stage = Flip }

-- the barrier is finished
abbrev pub is_bar_finished : BarStage → Bool
is_bar_finished Finished = true
is_bar_finished _ = false

-- the root is looking at its members
abbrev pub is_gather : BarStage → Bool
is_gather (Gather seen) = true
is_gather _ = false

-- the number of members of the own group, and the own place in it
abbrev pub group_size : Seat → ℕ → ℕ
group_size seat comm = size_of seat.setup comm seat.rank

-- the own place in the group
abbrev pub own_place : Seat → ℕ → ℕ
own_place seat comm = place_of seat.setup comm seat.rank

-- what the record is at each stage
abbrev pub IsAtStage : Seat → Record → ℕ → BarStage → Type 0
IsAtStage seat rec comm Flip = rec.stage ≡ Idle
IsAtStage seat rec comm (Gather seen) = (own_place seat comm ≡ 0) × (seen + 1 < group_size seat comm) × (rec.stage ≡ Barrier comm seen 0)
IsAtStage seat rec comm (Release released) = (own_place seat comm ≡ 0) × (released + 1 < group_size seat comm)
    × (rec.stage ≡ Barrier comm (group_size seat comm - 1) released)
IsAtStage seat rec comm Await = (own_place seat comm ≢ 0) × (rec.stage ≡ Barrier comm 0 0)
IsAtStage seat rec comm Finished = rec.stage ≡ Idle

-- the communicator has a rule, and the record, the parity and the core stand where the barrier stands
pub record BarStands (s : Sight) (c : Private) (op : BarAt) (values : List Bool) : Type 0 where
  pub below : op.comm < 16
  pub present : rule_of s.seat.setup.comms op.comm ≢ Absent
  pub empty : c.out ≡ None
  pub parity : IsParityOf (record_in s) values
  pub at : IsAtStage s.seat (record_in s) op.comm op.stage

-- the rank is between two calls, and the parity is the record's: a barrier can begin
pub record IsBetweenBarriers (s : Sight) (c : Private) (values : List Bool) : Type 0 where
  pub between : IsBetweenCalls s c
  pub parity : IsParityOf (record_in s) values

-- how many turns that do not wait are left
abbrev pub left_by : (size place : ℕ) → BarStage → ℕ
left_by size place Flip = if place == 0 then 2 * size - 1 else 2
left_by size place (Gather seen) = (size - 1 - seen) + (size - 1)
left_by size place (Release released) = size - 1 - released
left_by size place Await = 1
left_by size place Finished = 0

-- how many turns that do not wait a barrier has left
abbrev pub bar_left : Seat → BarAt → ℕ
bar_left seat op = left_by (group_size seat op.comm) (own_place seat op.comm) op.stage

-- what a stage looks for: that a flag has the value of the own gather flag
abbrev pub barrier_aim_at : Seat → ℕ → BarStage → (value : ℕ) → Option Aim
barrier_aim_at seat comm (Gather seen) value = Some (AtWord (gather_word seat comm (member_at seat.setup comm seat.rank (seen + 1))) value)
barrier_aim_at seat comm Await value = Some (AtWord (release_word seat comm seat.rank) value)
barrier_aim_at seat comm stage value = None

-- the call that a barrier which is not at its end is to finish
abbrev pub bar_call : BarAt → List DataCall
bar_call op = if is_bar_finished op.stage then [] else Bar op.comm ∷ []

-- what comes after the flip: a group of one is done, a root looks at its first member, a member awaits its release
abbrev pub after_flip : (size place : ℕ) → BarStage
after_flip size place = if size == 1 then Finished else (if place == 0 then Gather 0 else Await)

-- what comes after the root has seen one more member: it looks at the next one, and releases them once it has seen all
abbrev pub after_member_seen : (size seen : ℕ) → BarStage
after_member_seen size seen = if seen + 2 == size then Release 0 else Gather (seen + 1)

-- what comes after the root has released one more member: it releases the next one, and is done after the last
abbrev pub after_release : (size released : ℕ) → BarStage
after_release size released = if released + 2 == size then Finished else Release (released + 1)
