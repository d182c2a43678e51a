-- What a rank waits for, told by its stage and one flag.
use Rattle.std.proofs.Common.{◌≡◌, ◌≢◌, ◌⊎◌, inl, inr, ⊎_elim, ℕ, ◌%◌, true, false, option_map, sym, ap, ◌∙◌, subst}
use Rattle.scc_base.specs.Heads.{MessageHead}
use Rattle.scc_base.specs.Setups.{SetupView}
use Rattle.scc_base.specs.declared.signals.Signal.TheVariants.{Ready}
use Rattle.scc_proto.specs.Agreement.{Agrees}
use Rattle.scc_proto.specs.Like.{as_unanswered, Like}
use Rattle.scc_proto.specs.Messages.{Notes, Progress}
use Rattle.scc_proto.specs.Pairs.{Offering, pair_of, sending_side}
use Rattle.scc_proto.specs.Records.{chunk_of}
use Rattle.scc_proto.specs.Stages.{Part, Raised, Answered, Stage, Sending, Record}
use Rattle.scc_proto.specs.Views.{View, view_of}
use Rattle.scc_proto.specs.Words.{Memory, are_peers}
use Rattle.scc_proto.proofs.Pairs.PhaseFacts.{sending_here, when_answered}
use Rattle.scc_proto.proofs.Legality.StepLaws.{itself}
use Rattle.chip_run.specs.Wants.{Want}
use Rattle.chip_run.specs.Waiting.{SlotWaits, RaiseWaits, TakeWaits, IsLooking, BarWaits, AtRoot, AtMember, Waits}
use Rattle.chip_run.proofs.WaitsLike.{post_like}

-- a send whose chunk is up and whose `ready` is not set has not seen it set
pub raise_waits : (s : SetupView) (memory : Memory) (records : ℕ → Record) (me to : ℕ) (head : MessageHead) (part : Part) (message : Progress) (chunk : Notes) → Agrees s memory records
    → are_peers s me to ≡ true → (records me).stage ≡ Sending to part message chunk → (part ≡ Raised) ⊎ (part ≡ Answered) → message.head ≡ head
    → (view_of s memory).signal Ready to me ≢ 1 → RaiseWaits s (view_of s memory) me to head (records me)
raise_waits s memory records me to head part message chunk agrees peers stage up head_is failed =
    record { peers = peers; message = message; chunk = chunk; stage = stage ∙ ap (λ (p : Part). Sending to p message chunk) raised; head_is = head_is; failed = failed }
  where
    raised : part ≡ Raised
    raised =
        ⊎_elim
        (λ (is : part ≡ Raised). is)
        (λ (is : part ≡ Answered).
        let side : sending_side to (records me).stage (records me).post ≡ Offering true false message chunk =
        ap (λ (st : Stage). sending_side to st (records me).post) (stage ∙ ap (λ (p : Part). Sending to p message chunk) is)
        ∙ sending_here to to Answered message chunk (records me).post (itself to) in
        let (through, ready) = when_answered (chunk_of s) (pair_of me to (view_of s memory) (records me) (records to)) false message chunk side (agrees.pairs me to peers) in
        absurd (failed ready.ready_flag))
        up

-- by the same words a rank whose record is alike waits for the same
module _ (s : SetupView) (view : View) (me : ℕ) (rec now : Record) (like : Like rec now) where
  slot_same : SlotWaits view me rec → SlotWaits view me now
  slot_same waits =
      let (q, there, to_is) = post_like waits.post now.post (sym (ap (option_map as_unanswered) waits.is_posted) ∙ like.post) in
      record { stage = sym like.stage ∙ waits.stage; post = q; is_posted = there; failed = λ is. waits.failed (ap (λ (x : ℕ). view.signal Ready x me) to_is ∙ is) }

  raise_same : (to : ℕ) (head : MessageHead) → RaiseWaits s view me to head rec → RaiseWaits s view me to head now
  raise_same to head waits =
      record { peers = waits.peers; message = waits.message; chunk = waits.chunk; stage = sym like.stage ∙ waits.stage; head_is = waits.head_is; failed = waits.failed }

  take_same : (from : ℕ) → TakeWaits s view me from rec → TakeWaits s view me from now
  take_same from waits = record { peers = waits.peers; stage = subst (IsLooking from) like.stage waits.stage; failed = waits.failed }

  bar_same : (comm : ℕ) → BarWaits s view me comm rec → BarWaits s view me comm now
  bar_same comm (AtRoot seen j present zeroth stage less below grouped placed failed) =
      AtRoot seen j present zeroth (sym like.stage ∙ stage) less below grouped placed (λ is. failed (is ∙ ap (λ (n : ℕ). n % 2) (sym (like.flips comm))))
  bar_same comm (AtMember present apart stage failed) =
      AtMember present apart (sym like.stage ∙ stage) (λ is. failed (is ∙ ap (λ (n : ℕ). n % 2) (sym (like.flips comm))))

  pub waits_same : (want : Want) → Waits s view me rec want → Waits s view me now want
  waits_same Want.Nothing failed = failed
  waits_same Want.Own failed = failed
  waits_same Want.Slot failed = slot_same failed
  waits_same (Want.Send to head) (inl slot) = inl (slot_same slot)
  waits_same (Want.Send to head) (inr raise) = inr (raise_same to head raise)
  waits_same (Want.Recv from) failed = take_same from failed
  waits_same (Want.Bar comm) failed = bar_same comm failed
