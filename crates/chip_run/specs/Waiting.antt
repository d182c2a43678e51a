-- What a rank waits for, by its record and the words of the chip (this project's profile).
use Rattle.std.specs.Prelude.{◌≡◌, ◌≢◌, ℕ, suc, ◌%◌, ◌<◌, ◌⊎◌, true, Some, None}
use Rattle.scc_base.specs.Heads.{MessageHead}
use Rattle.scc_base.specs.Setups.{SetupView, setup_key, place_of}
use Rattle.scc_base.specs.declared.signals.Signal.TheVariants.{Sent, Ready}
use Rattle.scc_proto.specs.Messages.{Notes, Progress}
use Rattle.scc_proto.specs.Passed.{open_call}
use Rattle.scc_proto.specs.Records.{last_of}
use Rattle.scc_proto.specs.Stages.{Raised, Stage, Idle, Sending, Between, Barrier, InFlight, Record}
use Rattle.scc_proto.specs.Views.{View}
use Rattle.scc_proto.specs.Words.{are_peers, is_present}
use Rattle.chip_run.specs.Wants.{Want}

-- a rank waits until the message that it posted is taken: its `ready` is not set
pub record SlotWaits (view : View) (me : ℕ) (rec : Record) : Type 0 where
  pub stage : rec.stage ≡ Idle
  pub post : InFlight
  pub is_posted : rec.post ≡ Some post
  pub failed : view.signal Ready post.to me ≢ 1

-- a rank waits in a send, with a chunk raised: its `ready` is not set
pub record RaiseWaits (s : SetupView) (view : View) (me to : ℕ) (head : MessageHead) (rec : Record) : Type 0 where
  pub peers : are_peers s me to ≡ true
  pub message : Progress
  pub chunk : Notes
  pub stage : rec.stage ≡ Sending to Raised message chunk
  pub head_is : message.head ≡ head
  pub failed : view.signal Ready to me ≢ 1

-- no chunk is taken: before the message, or between its chunks
abbrev pub IsLooking : ℕ → Stage → Type 0
IsLooking from Idle = Unit {0}
IsLooking from (Between i message) = i ≡ from
IsLooking from stage = ⊥

-- a rank waits in a receive: the `sent` that it looks at is not set
pub record TakeWaits (s : SetupView) (view : View) (me from : ℕ) (rec : Record) : Type 0 where
  pub peers : are_peers s from me ≡ true
  pub stage : IsLooking from rec.stage
  pub failed : view.signal Sent from me ≢ 1

-- a rank waits in a barrier: member 0 for the flip of the first member that it has not seen, any other member for its
-- release
pub data BarWaits (s : SetupView) (view : View) (me comm : ℕ) (rec : Record) : Type 0 where
  AtRoot : (seen member : ℕ) → is_present s comm ≡ true → place_of s comm me ≡ 0 → rec.stage ≡ Barrier comm seen 0
      → seen < last_of s comm me
      → member < s.nue → setup_key s comm member ≡ setup_key s comm me → place_of s comm member ≡ suc seen
      → view.gather comm member ≢ rec.flips comm % 2 → BarWaits s view me comm rec
  AtMember : is_present s comm ≡ true → place_of s comm me ≢ 0 → rec.stage ≡ Barrier comm 0 0 → view.release comm me ≢ rec.flips comm % 2
      → BarWaits s view me comm rec

-- What a rank waits for, by what it wants: one that wants nothing, or a step of its own, does not wait; a send waits before
-- its first chunk for the rank's own slot, and then for its raised chunk.
abbrev pub Waits : SetupView → View → ℕ → Record → Want → Type 0
Waits s view me rec Want.Nothing = ⊥
Waits s view me rec Want.Own = ⊥
Waits s view me rec Want.Slot = SlotWaits view me rec
Waits s view me rec (Want.Send to head) = SlotWaits view me rec ⊎ RaiseWaits s view me to head rec
Waits s view me rec (Want.Recv from) = TakeWaits s view me from rec
Waits s view me rec (Want.Bar comm) = BarWaits s view me comm rec

-- no rank has a message in draft: one that has no call open is in the midst of nothing
abbrev pub NoneDrafts : SetupView → (ℕ → Record) → Type 0
NoneDrafts s records = (k : ℕ) → k < s.nue → open_call s (records k) ≡ None → (records k).stage ≡ Idle
