-- A call that goes on each time that it stalls.
use Rattle.std.proofs.Common.{◌≡◌, ℕ, ◌+◌, ◌≤◌, Ok, Err, subst}
use Rattle.send_recv.specs.Ranks.{BufferHolder, Receiver}
use Rattle.station.specs.Patience.{AfterStalls, RecvStalls, SaysWhyAfter, WithinStalls}
use Rattle.station.specs.Stops.{SaysWhy, stall_or_stop}
use Rattle.station.specs.declared.stops.RecvStall.{RecvStall}
use Rattle.station.specs.declared.stops.RecvStop.{RecvStop}
use Rattle.station.specs.declared.stops.RecvStop.TheVariants.{Stalled, Mismatch}
use Rattle.station.specs.Patience.HasStalled.{NotYet, Again}

module _ {A : Type 0} {Stall : A → A → Type 0} {begun : A} where
  -- before the first stall
  pub at_first : {Comes : A → Type 0} → Comes begun → AfterStalls Stall begun 0 Comes
  at_first comes = record { last = begun; stalled = NotYet; comes = comes }

  -- it has stalled once more, and went on
  pub once_more : {times : ℕ} {Stalled Comes : A → Type 0} (now : A) → ((last : A) → Stalled last → Stall last now) → AfterStalls Stall begun times Stalled
      → Comes now → AfterStalls Stall begun (times + 1) Comes
  once_more {times} now stalls before comes =
      record { last = now; stalled = Again times before.last now before.stalled (stalls before.last before.comes); comes = comes }

  -- after exactly so many stalls is after at most so many
  pub within : {times most : ℕ} {Comes : A → Type 0} → times ≤ most → AfterStalls Stall begun times Comes → WithinStalls Stall begun most Comes
  within {times} few after = record { times = times; few = few; after = after }

  pub exactly : {times most : ℕ} {Comes : A → Type 0} → times ≡ most → AfterStalls Stall begun times Comes → AfterStalls Stall begun most Comes
  exactly {times} {most} {Comes} same after = subst (λ (n : ℕ). AfterStalls Stall begun n Comes) same after

-- what stopped a receive that gave up is its stall
pub was_stalled : (stop : RecvStop) (stall : RecvStall) → Ok stall ≡ stall_or_stop stop → stop ≡ Stalled stall
was_stalled (Stalled other) stall is = cc
was_stalled (Mismatch sent asked) stall is = absurd (cc)

-- one that did not give up met another head, after at most so many stalls
pub within_other : (begun : Receiver) (times polls : ℕ) (now : BufferHolder) (stop other : RecvStop) → Err other ≡ stall_or_stop stop
    → WithinStalls (RecvStalls polls) begun times (λ last. SaysWhy last polls now stop) → SaysWhyAfter begun times polls now other
within_other begun times polls now (Stalled stall) other is came = absurd (cc)
within_other begun times polls now (Mismatch sent asked) other is came =
    let same : Mismatch sent asked ≡ other = cc in
    subst (λ (stop : RecvStop). SaysWhyAfter begun times polls now stop) same came
