-- How a player gives up: what its send or its receive says, in the words of its round.
use Rattle.std.proofs.Common.{◌≡◌, ℕ, List, refl, subst}
use Rattle.scc_base.specs.Calls.{DataCall}
use Rattle.scc_proto.specs.Ports.{Sight, record_in}
use Rattle.send_recv.specs.Calling.{SendStalled}
use Rattle.send_recv.specs.Ranks.{BufferHolder, Receiver}
use Rattle.station.specs.Calls.{at_receive, at_send, after_receive, in_send}
use Rattle.station.specs.Patience.{AfterStalls, RecvStalls, SaysWhyAfter, SendStalls, WithinStalls}
use Rattle.station.specs.Stations.{StationAt}
use Rattle.station.specs.Stops.{SaysWhy}
use Rattle.station.specs.declared.stops.RecvStall.{RecvStall}
use Rattle.station.specs.declared.stops.RecvStop.{RecvStop}
use Rattle.station.specs.declared.stops.RecvStop.TheVariants.{Mismatch, Stalled}
use Rattle.station.specs.declared.stops.SendStall.{SendStall}
use Rattle.ping_pong.specs.GivingUp.{GaveUpReceiving, GaveUpSending, patience}
use Rattle.ping_pong.specs.Rallies.{Ball}

module _ (begun now : Sight) (before after : StationAt) {polls first peer other : ℕ} (same : polls ≡ first) (is : peer ≡ other) where
  pub gave_up_sending : {done : List DataCall} (ball : Ball) (stall : SendStall) → (record_in begun).calls ≡ done
      → AfterStalls (SendStalls polls) (at_send begun before peer ball) patience (λ last. SendStalled last polls (in_send now after stall.op ball) stall.spot)
      → GaveUpSending first done other ball now stall
  gave_up_sending ball stall calls stalled = record {
    begun = begun;
    before = before;
    after = after;
    calls = calls;
    stalled = subst (λ (p : ℕ). AfterStalls (SendStalls p) (at_send begun before other ball) patience (λ last. SendStalled last p (in_send now after stall.op ball) stall.spot)) same
        (subst (λ (to : ℕ). AfterStalls (SendStalls polls) (at_send begun before to ball) patience (λ last. SendStalled last polls (in_send now after stall.op ball) stall.spot)) is stalled);
  }

  pub gave_up_receiving : {done : List DataCall} (room came : Ball) (why : RecvStop) → (record_in begun).calls ≡ done
      → SaysWhyAfter (at_receive begun before peer room) patience polls (after_receive now after came) why → GaveUpReceiving first done other now why
  gave_up_receiving room came why calls stopped = record {
    begun = begun;
    before = before;
    after = after;
    room = room;
    came = came;
    calls = calls;
    stopped = subst (λ (p : ℕ). SaysWhyAfter (at_receive begun before other room) patience p (after_receive now after came) why) same
        (subst (λ (from : ℕ). SaysWhyAfter (at_receive begun before from room) patience polls (after_receive now after came) why) is stopped);
  }

-- a receive that stopped and did not stall met another message, after at most so many stalls
pub met_other : {begun : Receiver} {times polls : ℕ} (now : BufferHolder) (why : RecvStop) → ((stall : RecvStall) → why ≡ Stalled stall → ⊥)
    → WithinStalls (RecvStalls polls) begun times (λ last. SaysWhy last polls now why) → SaysWhyAfter begun times polls now why
met_other now (Stalled stall) not came = absurd (not stall refl)
met_other now (Mismatch sent asked) not came = came
