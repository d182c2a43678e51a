-- At the end of a sweep no receive is open, and an open call is the one that stands next.
use Rattle.std.proofs.Common.{◌≡◌, ◌≢◌, inl, inr, ℕ, ◌<◌, Bool, true, false, if◌then◌else◌, Option, Some, None, refl, sym, ap, ◌∙◌, subst}
use Rattle.std.proofs.lemmas.Option.{same_Some}
use Rattle.scc_base.specs.Calls.{DataCall}
use Rattle.scc_base.specs.Calls as calls
use Rattle.scc_base.specs.Setups.{SetupView}
use Rattle.scc_base.specs.declared.signals.Signal.TheVariants.{Ready}
use Rattle.scc_base.specs.declared.calls.Call.TheVariants as call
use Rattle.scc_proto.specs.Messages.{Notes, Progress, fresh_message, is_last, with_chunk}
use Rattle.scc_proto.specs.Pairs.{Resting, Offering, Awaiting, side_of_part, side_of_post, sending_side, taking_side, HasArrived, Pair, pair_of, Phase, InRest, InRaised, InTaken, InReady}
use Rattle.scc_proto.specs.Passed.{call_in_stage, open_call}
use Rattle.scc_proto.specs.Records.{chunk_of}
use Rattle.scc_proto.specs.Stages.{Part, Filling, Raised, Answered, Stage, Idle, Drafting, Sending, Between, Taking, Barrier, InFlight, Record}
use Rattle.scc_proto.specs.Views.{view_of}
use Rattle.scc_proto.specs.Words.{Memory}
use Rattle.scc_proto.proofs.Pairs.OfferFacts.{posted_last}
use Rattle.scc_proto.proofs.Pairs.PhaseFacts.{sending_here, sending_there, post_here, post_there}
use Rattle.scc_proto.proofs.Legality.StepLaws.{itself}
use Rattle.scc_proto.proofs.Tests.{same_or_other, peers_are}
use Rattle.script_machine.specs.declared.posts.Posted.{Posted}
use Rattle.script_machine.specs.Next.{Next, call_next}
use Rattle.script_machine.specs.Next.Next.{Ends, Goes, Posts, Sends, Recvs, Bars}
use Rattle.chip_run.specs.Waiting.{NoneDrafts}
use Rattle.chip_run.specs.Waiting.{TakeWaits, IsLooking, BarWaits, AtRoot, AtMember}
use Rattle.rcce_run.specs.Sweep.{Failed, Swept}
use Rattle.rcce_run.proofs.Refusals.{posting, sending}

-- between two chunks: what the sender's side can be while the receiver's `sent` is not set
data Onward (size : ℕ) (x : Pair) (message : Progress) : Type 0 where
  Refills : x.sending ≡ Resting (Some message) → Onward size x message
  Offers : (a : Bool) (m : Progress) (w : Notes) → x.ready_flag ≡ 1 → x.sending ≡ Offering a false m w → Onward size x message
  Lies : (a : Bool) (m : Progress) (w : Notes) → is_last size m ≡ false → x.sending ≡ Offering a true m w → Onward size x message

arrived_some : (last : Bool) (size : ℕ) (p : Bool) (m : Progress) (w : Notes) (through : Option Progress) (sent received : _) (message : Progress) → through ≡ Some message
    → HasArrived last size p m w through sent received → last ≡ false
arrived_some true size p m w through sent received message is arrived = absurd (let none = arrived.0 in cc (is, none))
arrived_some false size p m w through sent received message is arrived = refl

onward : (size : ℕ) (x : Pair) (message : Progress) → x.taking ≡ Awaiting (Some message) → x.sent_flag ≢ 1 → Phase size x → Onward size x message
onward size x message takes failed (InRest through q) =
    let same : through ≡ Some message = cc (q.taking, takes) in Refills (q.sending ∙ ap Resting same)
onward size x message takes failed (InRaised through head b w q) = absurd (failed q.sent_flag)
onward size x message takes failed (InTaken m b w words q) = absurd (cc (q.taking, takes))
onward size x message takes failed (InReady through a b m w q) =
    let same : through ≡ Some message = cc (q.taking, takes) in
    by b refl (arrived_some (is_last size m) size b m w through x.sent x.received message same q.arrived)
  where
    by : (p : Bool) → b ≡ p → is_last size m ≡ false → Onward size x message
    by true is last = Lies a m w last (q.sending ∙ ap (λ (y : Bool). Offering a y m w) is)
    by false is last = Offers a m w q.ready_flag (q.sending ∙ ap (λ (y : Bool). Offering a y m w) is)

-- a sender that refills its buffer for this rank
refilling_part : (part : Part) (message : Progress) (chunk : Notes) (m : Progress) → side_of_part part message chunk ≡ Resting (Some m) → part ≡ Filling
refilling_part Filling message chunk m is = refl
refilling_part Raised message chunk m is = absurd (cc (is))
refilling_part Answered message chunk m is = absurd (cc (is))

no_post_rests : (to : ℕ) (m : Progress) (o : Option InFlight) → side_of_post to o ≡ Resting (Some m) → ⊥
no_post_rests to m None is = cc (is)
no_post_rests to m (Some post) is = same_or_other ⊥ post.to to
    (λ t e. let side : Offering post.is_answered true (fresh_message post.head) post.chunk ≡ Resting (Some m) = sym (post_here to post t) ∙ is in cc (side))
    (λ t ne. let side : Resting None ≡ Resting (Some m) = sym (post_there to post t) ∙ is in cc (side))

abbrev IsRefilling : ℕ → Stage → Type 0
IsRefilling to st = (message : Progress) × (chunk : Notes) × (st ≡ Sending to Filling message chunk)

refilling : (to : ℕ) (m : Progress) (st : Stage) (o : Option InFlight) → sending_side to st o ≡ Resting (Some m) → IsRefilling to st
refilling to m Idle o is = absurd (no_post_rests to m o is)
refilling to m (Drafting header chunk) o is = absurd (no_post_rests to m o is)
refilling to m (Sending j part message chunk) o is = same_or_other (IsRefilling to (Sending j part message chunk)) j to
    (λ t e. let filling = refilling_part part message chunk m (sym (sending_here to j part message chunk o t) ∙ is) in
    (message, chunk, λ i. Sending (e i) (filling i) message chunk))
    (λ t ne. absurd (let side : Resting None ≡ Resting (Some m) = sym (sending_there to j part message chunk o t) ∙ is in cc (side)))
refilling to m (Between from message) o is = absurd (no_post_rests to m o is)
refilling to m (Taking from message chunk) o is = absurd (no_post_rests to m o is)
refilling to m (Barrier comm seen released) o is = absurd (no_post_rests to m o is)

module _ {U : Type 0} (next : U → Next U) (s : SetupView) (memory : Memory) (records : ℕ → Record) (starts states : ℕ → U) (lasts : ℕ → Option Posted) (sw : Swept next s memory records starts states lasts) where
  -- a rank that sends waits for its `ready`, with a chunk raised
  pub raised_by : (k to : ℕ) (part : Part) (m : Progress) (w : Notes) → k < s.nue → (records k).stage ≡ Sending to part m w → (part ≡ Raised) × ((view_of s memory).signal Ready to k ≢ 1)
  raised_by k to part m w low stage = by (next (states k)) (sw.failed k low)
    where
      not_looking : (from : ℕ) (st : Stage) → st ≡ Sending to part m w → IsLooking from st → ⊥
      not_looking from st is looks = subst (IsLooking from) is looks

      not_bar : (comm : ℕ) → BarWaits s (view_of s memory) k comm (records k) → ⊥
      not_bar comm (AtRoot seen j present zeroth bar less below grouped placed failed) = cc (stage, bar)
      not_bar comm (AtMember present other bar failed) = cc (stage, bar)

      by : (n : Next U) → Failed s (view_of s memory) k (records k) n → (part ≡ Raised) × ((view_of s memory).signal Ready to k ≢ 1)
      by Ends failed = absurd (cc (stage, failed))
      by (Goes after) failed = absurd failed
      by (Posts message after) failed = absurd (let idle = failed.stage in cc (stage, idle))
      by (Sends j head bytes after) (inl slot) = absurd (let idle = slot.stage in cc (stage, idle))
      by (Sends j head bytes after) (inr raise) =
          let at = raise.stage in
          let to_is : j ≡ to = cc (stage, at) in
          let part_is : part ≡ Raised = cc (stage, at) in
          (part_is, subst (λ (x : ℕ). (view_of s memory).signal Ready x k ≢ 1) to_is raise.failed)
      by (Recvs from head take refuse) failed = absurd (not_looking from (records k).stage stage failed.stage)
      by (Bars comm after) failed = absurd (not_bar comm failed)

  -- a receiver between two chunks has a sender that moves
  pub no_open_receive : (k from : ℕ) (message : Progress) → k < s.nue → TakeWaits s (view_of s memory) k from (records k) → (records k).stage ≡ Between from message → ⊥
  no_open_receive k from message low takes stage =
      by (onward (chunk_of s) (pair_of from k (view_of s memory) (records from) (records k)) message here takes.failed (sw.agrees.pairs from k takes.peers))
    where
      below : from < s.nue
      below = (peers_are s from k takes.peers).one

      here : taking_side from (records k).stage ≡ Awaiting (Some message)
      here = ap (taking_side from) stage ∙ ap (λ (b : Bool). Awaiting (if b then Some message else None)) (itself from)

      by : Onward (chunk_of s) (pair_of from k (view_of s memory) (records from) (records k)) message → ⊥
      by (Refills side) =
          let (m, w, is) = refilling k message (records from).stage (records from).post side in
          let filling : Filling ≡ Raised = (raised_by from k Filling m w below is).0 in cc (filling)
      by (Offers a m w flag side) =
          let (part, chunk, is) = sending k a m w (records from).stage (records from).post side in
          (raised_by from k part m chunk below is).1 flag
      by (Lies a m w last side) =
          let on = posting k a m w (records from).stage (records from).post side in
          let single : is_last (chunk_of s) (fresh_message on.post.head) ≡ true = posted_last s from (records from) (sw.agrees.singles.0 from below) on.post on.is_posted in
          let same : is_last (chunk_of s) (fresh_message on.post.head) ≡ is_last (chunk_of s) m = ap (is_last (chunk_of s)) on.message_is in
          cc (single, same, last)

  -- an open call is the one that stands next
  pub open_is_next : (k : ℕ) → k < s.nue → (c : DataCall) → open_call s (records k) ≡ Some c → call_next (next (states k)) ≡ Some (calls.call_of c)
  open_is_next k low c is = by (next (states k)) (sw.failed k low)
    where
      closed : (st : Stage) → (records k).stage ≡ st → call_in_stage (chunk_of s) st ≡ Some c
      closed st at = ap (call_in_stage (chunk_of s)) (sym at) ∙ is

      idle_none : (P : Type 0) → (records k).stage ≡ Idle → P
      idle_none P at = absurd (let none = closed Idle at in cc (none))

      by_looking : (from : ℕ) (st : Stage) → (records k).stage ≡ st → TakeWaits s (view_of s memory) k from (records k) → IsLooking from st → ⊥
      by_looking from Idle at takes looks = idle_none ⊥ at
      by_looking from (Drafting header chunk) at takes looks = looks
      by_looking from (Sending to part message chunk) at takes looks = looks
      by_looking from (Between i message) at takes looks = no_open_receive k from message low takes (at ∙ ap (λ (x : ℕ). Between x message) looks)
      by_looking from (Taking i message chunk) at takes looks = looks
      by_looking from (Barrier comm seen released) at takes looks = looks

      by_bar : (comm : ℕ) → BarWaits s (view_of s memory) k comm (records k) → Some (call.Bar comm) ≡ Some (calls.call_of c)
      by_bar comm (AtRoot seen j present zeroth bar less below grouped placed failed) =
          ap (λ (x : DataCall). Some (calls.call_of x)) (same_Some (DataCall.Bar comm) c (closed (Barrier comm seen 0) bar))
      by_bar comm (AtMember present other bar failed) =
          ap (λ (x : DataCall). Some (calls.call_of x)) (same_Some (DataCall.Bar comm) c (closed (Barrier comm 0 0) bar))

      by : (n : Next U) → Failed s (view_of s memory) k (records k) n → call_next n ≡ Some (calls.call_of c)
      by Ends failed = idle_none _ failed
      by (Goes after) failed = absurd failed
      by (Posts message after) failed = idle_none _ failed.stage
      by (Sends to head bytes after) (inl slot) = idle_none _ slot.stage
      by (Sends to head bytes after) (inr raise) =
          let opened = same_Some (DataCall.Send to raise.message.head (with_chunk (chunk_of s) raise.message raise.chunk).bytes) c (closed (Sending to Raised raise.message raise.chunk) raise.stage) in
          ap (λ (h : _). Some (call.Send to h)) (sym raise.head_is) ∙ ap (λ (x : DataCall). Some (calls.call_of x)) opened
      by (Recvs from head take refuse) failed = absurd (by_looking from (records k).stage refl failed failed.stage)
      by (Bars comm after) failed = by_bar comm failed

  -- a rank with no open call is in the midst of nothing
  pub none_drafts : NoneDrafts s records
  none_drafts k low none = by (next (states k)) (sw.failed k low)
    where
      closed : (st : Stage) → (records k).stage ≡ st → call_in_stage (chunk_of s) st ≡ None
      closed st at = ap (call_in_stage (chunk_of s)) (sym at) ∙ none

      by_looking : (from : ℕ) (st : Stage) → (records k).stage ≡ st → IsLooking from st → (records k).stage ≡ Idle
      by_looking from Idle at looks = at
      by_looking from (Drafting header chunk) at looks = absurd looks
      by_looking from (Sending to part message chunk) at looks = absurd looks
      by_looking from (Between i message) at looks = absurd (let some = closed (Between i message) at in cc (some))
      by_looking from (Taking i message chunk) at looks = absurd looks
      by_looking from (Barrier comm seen released) at looks = absurd looks

      by_bar : (comm : ℕ) → BarWaits s (view_of s memory) k comm (records k) → ⊥
      by_bar comm (AtRoot seen j present zeroth bar less below grouped placed failed) = let some = closed (Barrier comm seen 0) bar in cc (some)
      by_bar comm (AtMember present other bar failed) = let some = closed (Barrier comm 0 0) bar in cc (some)

      by : (n : Next U) → Failed s (view_of s memory) k (records k) n → (records k).stage ≡ Idle
      by Ends failed = failed
      by (Goes after) failed = absurd failed
      by (Posts message after) failed = failed.stage
      by (Sends to head bytes after) (inl slot) = slot.stage
      by (Sends to head bytes after) (inr raise) = absurd (let some = closed (Sending to Raised raise.message raise.chunk) raise.stage in cc (some))
      by (Recvs from head take refuse) failed = by_looking from (records k).stage refl failed.stage
      by (Bars comm after) failed = absurd (by_bar comm failed)
