-- A call that goes on each time that it stalls, at most n times (this project's profile: a call of RCCE waits without a bound).
use Rattle.std.specs.Prelude.{ℕ, ◌+◌, ◌≤◌}
use Rattle.scc_base.specs.declared.events.Spot.{Spot}
use Rattle.send_recv.specs.Calling.{RecvStalled, SendStalled}
use Rattle.send_recv.specs.Ranks.{BufferHolder, Receiver, Sender}
use Rattle.barrier.specs.Calls.{Stalls}
use Rattle.barrier.specs.Stages.{Member, with_parity}
use Rattle.barrier.specs.declared.barriers.BarStop.TheVariants as bar_stop
use Rattle.station.specs.Stops.{SaysWhy}
use Rattle.station.specs.declared.stops.RecvStop.{RecvStop}
use Rattle.station.specs.declared.stops.RecvStop.TheVariants.{Stalled, Mismatch}

-- a call has stalled this many times, and went on from there each time
pub data HasStalled {A : Type 0} (Stall : A → A → Type 0) (begun : A) : ℕ → A → Type 0 where
  NotYet : HasStalled Stall begun 0 begun
  Again : (times : ℕ) (before now : A) → HasStalled Stall begun times before → Stall before now → HasStalled Stall begun (times + 1) now

-- after this many stalls, a call came to this
pub record AfterStalls {A : Type 0} (Stall : A → A → Type 0) (begun : A) (times : ℕ) (Comes : A → Type 0) : Type 0 where
  pub last : A
  pub stalled : HasStalled Stall begun times last
  pub comes : Comes last

-- after at most `most` stalls, a call came to this
pub record WithinStalls {A : Type 0} (Stall : A → A → Type 0) (begun : A) (most : ℕ) (Comes : A → Type 0) : Type 0 where
  pub times : ℕ
  pub few : times ≤ most
  pub after : AfterStalls Stall begun times Comes

-- a send or a post stalled: its last `polls` tries were vain, all at one spot
abbrev pub SendStalls : ℕ → Sender → Sender → Type 0
SendStalls polls old now = (spot : Spot) × SendStalled old polls now spot

-- a receive stalled: its last `polls` tries were vain, all at one spot
abbrev pub RecvStalls : ℕ → Receiver → Receiver → Type 0
RecvStalls polls old now = (spot : Spot) × RecvStalled old polls now spot

-- a barrier stalled: its last `polls` looks were vain, all at one flag
abbrev pub BarStalls : ℕ → Member → Member → Type 0
BarStalls polls old now =
    (spot : Spot) × (count : ℕ) × Stalls old polls (with_parity now.sight now.core now.parity) (bar_stop.Stalled now.op spot count)

-- why a receive stopped that goes on after `times` stalls: it stalled once more than that, or it met another head, after at
-- most `times` stalls
abbrev pub SaysWhyAfter : Receiver → (times polls : ℕ) → BufferHolder → RecvStop → Type 0
SaysWhyAfter begun times polls now (Stalled stall) =
    AfterStalls (RecvStalls polls) begun times (λ last. SaysWhy last polls now (Stalled stall))
SaysWhyAfter begun times polls now (Mismatch sent asked) =
    WithinStalls (RecvStalls polls) begun times (λ last. SaysWhy last polls now (Mismatch sent asked))
