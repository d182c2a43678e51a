-- The steps of a collective call over a communicator, as the functions of a station spell them.
use Rattle.std.proofs.Common.{◌≡◌, ℕ, ◌<◌, false, List, [], length, Option, Some, Result, Ok, Err, IfOk, IfErr, sym, subst}
use Rattle.std.proofs.lemmas.Option.{same_Some}
use Rattle.scc_base.specs.Heads.{IsHead, MessageHead}
use Rattle.scc_proto.specs.Ports.{Sight}
use Rattle.groups.specs.Peers.{IsPeer}
use Rattle.groups.specs.declared.collectives.Step.{Step}
use Rattle.groups.specs.declared.collectives.Step.TheVariants.{Send, Recv}
use Rattle.send_recv.specs.Calling.{SendStalled, Sent}
use Rattle.send_recv.specs.Ops.{RecvAt, SendAt}
use Rattle.station.specs.Calls.{after_send, in_send}
use Rattle.station.specs.Groups.{HasStepped, IsInStepReceive, IsInStepSend, SaysWhyStep, StandsInStep, StepLeaves, StepRank, in_step}
use Rattle.station.specs.Stations.{IsInSend, NoCallOpen, StationAt}
use Rattle.station.specs.Steps.{Held, StepDoes, begun_receive, begun_send, bytes_into, bytes_sent_by}
use Rattle.station.specs.declared.steps.StepStop.{StepStop}
use Rattle.station.specs.declared.steps.StepStop.TheVariants as step_stop
use Rattle.station.specs.declared.stops.SendStall.{SendStall}
use Rattle.station.specs.declared.steps.Hand.{Hand}
use Rattle.station.specs.declared.steps.Hand.TheVariants.{Sending}
use Rattle.station.proofs.StepLemmas.{alone_done, at_start, is_message, ready_receive, ready_send, send_done, send_left, send_open}

-- ---- the steps as the function spells them

module _ {next is : Step} (same : next ≡ is) (r now : StepRank) (hand : Hand) where
  pub done_for : ((before : Held) → StandsInStep before r (Some is) hand → HasStepped before is r.sight now) → (before : Held) → StandsInStep before r (Some next) hand → HasStepped before next r.sight now
  done_for done = subst (λ (x : Step). (before : Held) → StandsInStep before r (Some x) hand → HasStepped before x r.sight now) (sym same) done

  pub left_for : (stop : StepStop) → ((before : Held) → StandsInStep before r (Some is) hand → StepLeaves before (Some is) now stop)
      → (before : Held) → StandsInStep before r (Some next) hand → StepLeaves before (Some next) now stop
  left_for stop left = subst (λ (x : Step). (before : Held) → StandsInStep before r (Some x) hand → StepLeaves before (Some x) now stop) (sym same) left

  pub why_for : (stop : StepStop) → SaysWhyStep (Some is) r.sight r.station.polls now stop → SaysWhyStep (Some next) r.sight r.station.polls now stop
  why_for stop why = subst (λ (x : Step). SaysWhyStep (Some x) r.sight r.station.polls now stop) (sym same) why

-- a step that is no message, in whichever way its rank stands
pub alone_for : (r : StepRank) (hand : Hand) (step : Step) (held : Held) → is_message (Some step) ≡ false
    → ((before : Held) → r.held ≡ before → StepDoes r.part step before held [])
    → (before : Held) → StandsInStep before r (Some step) hand → HasStepped before step r.sight (in_step r.sight r.station r.part held)
alone_for r hand step held alone does before at =
    let start = at_start before r (Some step) hand alone at in
    alone_done before r step held start (does before start.held_is)

module _ (r : StepRank) (hand : Hand) (low : r.sight.seat.rank < r.sight.seat.setup.nue) (peer : ℕ) (head : MessageHead)
    (is_with : IsPeer r.sight.seat.setup.nue r.sight.seat.rank peer × IsHead head) where
  module _ (long : length (bytes_sent_by r.part r.held) ≡ head.len) (op : SendAt) (op_is : op ≡ begun_send hand peer head) (bytes : List ℕ) (bytes_is : bytes ≡ bytes_sent_by r.part r.held) where
    send_at : (before : Held) → StandsInStep before r (Some (Send peer head)) hand → IsInStepSend before r (Some (Send peer head)) op
    send_at before at = subst (λ (x : SendAt). IsInStepSend before r (Some (Send peer head)) x) (sym op_is) (ready_send before r low peer head is_with.0 is_with.1 hand long at)

    pub send_opens : (before : Held) → StandsInStep before r (Some (Send peer head)) hand → IsInSend r.sight r.station op bytes
    send_opens before at = subst (λ (x : List ℕ). IsInSend r.sight r.station op x) (sym bytes_is) (send_open before r peer head op (send_at before at))

    module _ (t : Sight) (b : StationAt) where
      pub send_ends : Sent (in_send r.sight r.station op bytes) (after_send t b) → NoCallOpen t b
          → (before : Held) → StandsInStep before r (Some (Send peer head)) hand → HasStepped before (Send peer head) r.sight (in_step t b r.part r.held)
      send_ends sent free before at = send_done before r peer head op (send_at before at) t b
          (subst (λ (x : List ℕ). Sent (in_send r.sight r.station op x) (after_send t b)) bytes_is sent) free

      pub send_leaves : (polls : ℕ) (stall : SendStall) (result : StepStop) → result ≡ step_stop.Stalled (Sending stall.op) stall.spot stall.polls → IsInSend t b stall.op bytes
          → SendStalled (in_send r.sight r.station op bytes) polls (in_send t b stall.op bytes) stall.spot
          → (before : Held) → StandsInStep before r (Some (Send peer head)) hand → StepLeaves before (Some (Send peer head)) (in_step t b r.part r.held) result
      send_leaves polls stall result is stands st before at =
          subst (λ (x : StepStop). StepLeaves before (Some (Send peer head)) (in_step t b r.part r.held) x) (sym is)
          (send_left before r peer head op (send_at before at) t b polls stall.op stall.spot
          (subst (λ (x : List ℕ). SendStalled (in_send r.sight r.station op x) polls (in_send t b stall.op x) stall.spot) bytes_is st)
          (subst (λ (x : List ℕ). IsInSend t b stall.op x) bytes_is stands))

  module _ (long : length (bytes_into r.part.is_root r.held) ≡ head.len) (op : RecvAt) (op_is : op ≡ begun_receive hand peer head) where
    receive_at : (before : Held) → StandsInStep before r (Some (Recv peer head)) hand → IsInStepReceive before r (Some (Recv peer head)) op
    receive_at before at = subst (λ (x : RecvAt). IsInStepReceive before r (Some (Recv peer head)) x) (sym op_is) (ready_receive before r low peer head is_with.0 is_with.1 hand long at)

    pub receive_opens : (before : Held) → StandsInStep before r (Some (Recv peer head)) hand → IsInStepReceive before r (Some (Recv op.from op.head)) op
    receive_opens before at = let there = receive_at before at in subst (λ (x : Option Step). IsInStepReceive before r x op) there.next_is there

    same_step : (before : Held) → StandsInStep before r (Some (Recv peer head)) hand → Recv op.from op.head ≡ Recv peer head
    same_step before at = same_Some (Recv op.from op.head) (Recv peer head) (sym (receive_at before at).next_is)

    module _ (now : StepRank) where
      pub receive_ends : ((before : Held) → IsInStepReceive before r (Some (Recv op.from op.head)) op → HasStepped before (Recv op.from op.head) r.sight now)
          → (before : Held) → StandsInStep before r (Some (Recv peer head)) hand → HasStepped before (Recv peer head) r.sight now
      receive_ends done before at = subst (λ (x : Step). HasStepped before x r.sight now) (same_step before at) (done before (receive_opens before at))

      pub receive_leaves : (stop : StepStop) → ((before : Held) → IsInStepReceive before r (Some (Recv op.from op.head)) op → StepLeaves before (Some (Recv op.from op.head)) now stop)
          → (before : Held) → StandsInStep before r (Some (Recv peer head)) hand → StepLeaves before (Some (Recv peer head)) now stop
      receive_leaves stop left before at = subst (λ (x : Step). StepLeaves before (Some x) now stop) (same_step before at) (left before (receive_opens before at))

      pub receive_why : (stop : StepStop) → SaysWhyStep (Some (Recv op.from op.head)) r.sight r.station.polls now stop
          → (before : Held) → StandsInStep before r (Some (Recv peer head)) hand → SaysWhyStep (Some (Recv peer head)) r.sight r.station.polls now stop
      receive_why stop why before at = subst (λ (x : Step). SaysWhyStep (Some x) r.sight r.station.polls now stop) (same_step before at) why

-- what follows from an answer, whichever it was
pub ok_later : {X Y : Type 0} {A B : X → Type 0} (result : Result X Y) → IfOk result A → ((x : X) → A x → B x) → IfOk result B
ok_later (Ok x) one next = next x one
ok_later (Err y) one next = tt

pub err_later : {X Y : Type 0} {A B : Y → Type 0} (result : Result X Y) → IfErr result A → ((y : Y) → A y → B y) → IfErr result B
err_later (Ok x) one next = tt
err_later (Err y) one next = next y one
