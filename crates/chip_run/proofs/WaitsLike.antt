-- A look that was vain stays vain while ranks only look.
use Rattle.std.proofs.Common.{◌≡◌, ◌≢◌, inl, inr, ℕ, ◌%◌, ◌<◌, true, List, ◌++◌, Option, Some, None, option_map, refl, sym, ap, ◌∙◌, subst}
use Rattle.std.specs.List.{list_all}
use Rattle.std.proofs.lemmas.Option.{same_Some}
use Rattle.scc_base.specs.Setups.{SetupView}
use Rattle.scc_base.specs.declared.signals.Signal.TheVariants.{Sent, Ready}
use Rattle.scc_base.specs.declared.events.Event.{Event}
use Rattle.scc_proto.specs.Agreement.{Agrees}
use Rattle.scc_proto.specs.Like.{as_unanswered, Like}
use Rattle.scc_proto.specs.Records.{record_from}
use Rattle.scc_proto.specs.Resting.{is_resting}
use Rattle.scc_proto.specs.Singles.{IsPosted, IsInFlight}
use Rattle.scc_proto.specs.Stages.{InFlight, Record}
use Rattle.scc_proto.specs.Views.{view_of, SameFlagWords}
use Rattle.scc_proto.specs.Words.{Memory}
use Rattle.scc_proto.proofs.Words.FlagsTold.{flags_like, like_both, like_sym}
use Rattle.scc_proto.proofs.Runs.RestLaw.{resting_part}
use Rattle.scc_proto.proofs.Tests.{same_or_other, peers_swap}
use Rattle.chip_run.specs.Wants.{Want}
use Rattle.chip_run.specs.Waiting.{SlotWaits, RaiseWaits, TakeWaits, IsLooking, BarWaits, AtRoot, AtMember, Waits}

-- a posted message is there in both, for the same rank
pub post_like : (p : InFlight) (o : Option InFlight) → Some (as_unanswered p) ≡ option_map as_unanswered o → (q : InFlight) × (o ≡ Some q) × (p.to ≡ q.to)
post_like p None is = absurd (cc (is))
post_like p (Some q) is = (q, refl, ap (λ (x : InFlight). x.to) (same_Some (as_unanswered p) (as_unanswered q) is))

module _ (s : SetupView) (one other : Memory) (records recs : ℕ → Record) (a : Agrees s one records) (b : Agrees s other recs) (like : (k : ℕ) → Like (records k) (recs k)) where
  same : SameFlagWords s (view_of s one) (view_of s other)
  same = flags_like s one other records recs a b like

  pub slot_like : (k : ℕ) → k < s.nue → SlotWaits (view_of s one) k (records k) → SlotWaits (view_of s other) k (recs k)
  slot_like k low waits =
      let on : IsInFlight s k (records k).stage waits.post = subst (IsPosted s k (records k).stage) waits.is_posted (a.singles.0 k low).post in
      let (q, there, to_is) = post_like waits.post (recs k).post (sym (ap (option_map as_unanswered) waits.is_posted) ∙ (like k).post) in
      record {
        stage = sym (like k).stage ∙ waits.stage;
        post = q;
        is_posted = there;
        failed = λ is. waits.failed (same.signal Ready waits.post.to k (peers_swap s k waits.post.to on.peers) ∙ ap (λ (x : ℕ). (view_of s other).signal Ready x k) to_is ∙ is);
      }

  raise_like : (k to : ℕ) (head : _) → RaiseWaits s (view_of s one) k to head (records k) → RaiseWaits s (view_of s other) k to head (recs k)
  raise_like k to head waits = record {
    peers = waits.peers;
    message = waits.message;
    chunk = waits.chunk;
    stage = sym (like k).stage ∙ waits.stage;
    head_is = waits.head_is;
    failed = λ is. waits.failed (same.signal Ready to k (peers_swap s k to waits.peers) ∙ is);
  }

  take_like : (k from : ℕ) → TakeWaits s (view_of s one) k from (records k) → TakeWaits s (view_of s other) k from (recs k)
  take_like k from waits = record {
    peers = waits.peers;
    stage = subst (IsLooking from) (like k).stage waits.stage;
    failed = λ is. waits.failed (same.signal Sent from k waits.peers ∙ is);
  }

  bar_like : (k comm : ℕ) → k < s.nue → BarWaits s (view_of s one) k comm (records k) → BarWaits s (view_of s other) k comm (recs k)
  bar_like k comm low (AtRoot seen j present zeroth stage less below grouped placed failed) =
      AtRoot seen j present zeroth (sym (like k).stage ∙ stage) less below grouped placed
      (λ is. failed (same.gather comm j present below ∙ is ∙ ap (λ (n : ℕ). n % 2) (sym ((like k).flips comm))))
  bar_like k comm low (AtMember present apart stage failed) =
      AtMember present apart (sym (like k).stage ∙ stage)
      (λ is. failed (same.release comm k present low ∙ is ∙ ap (λ (n : ℕ). n % 2) (sym ((like k).flips comm))))

  -- records that are alike, and words that agree with them, show the same looks vain
  pub waits_like : (k : ℕ) → k < s.nue → (n : Want) → Waits s (view_of s one) k (records k) n → Waits s (view_of s other) k (recs k) n
  waits_like k low Want.Nothing failed = failed
  waits_like k low Want.Own failed = failed
  waits_like k low Want.Slot failed = slot_like k low failed
  waits_like k low (Want.Send to head) (inl slot) = inl (slot_like k low slot)
  waits_like k low (Want.Send to head) (inr raise) = inr (raise_like k to head raise)
  waits_like k low (Want.Recv from) failed = take_like k from failed
  waits_like k low (Want.Bar comm) failed = bar_like k comm low failed

-- a look that was vain in a turn that waited is vain after the sweep: the turn's events rest and leave the record alike, and
-- so do all later turns
pub waits_carried : (s : SetupView) (at now : Memory) (seen records : ℕ → Record) (me : ℕ) (rec : Record) (before rest : List Event) (n : Want)
    → Agrees s at seen → Agrees s now records → me < s.nue → seen me ≡ record_from s me rec before
    → list_all is_resting before ≡ true → list_all is_resting rest ≡ true → Like rec (record_from s me rec (before ++ rest)) → Like rec (records me)
    → ((j : ℕ) → j ≢ me → Like (seen j) (records j)) → Waits s (view_of s at) me (seen me) n → Waits s (view_of s now) me (records me) n
waits_carried s at now seen records me rec before rest n was_agrees agrees low is one two whole after others failed =
    waits_like s at now seen records was_agrees agrees alike me low n failed
  where
    mine : Like (seen me) (records me)
    mine =
        subst (λ (r : Record). Like r (records me)) (sym is)
        (like_both (record_from s me rec before) rec (records me) (like_sym rec (record_from s me rec before) (resting_part s me rec before rest one two whole)) after)

    alike : (k : ℕ) → Like (seen k) (records k)
    alike k = same_or_other (Like (seen k) (records k)) k me (λ t e. subst (λ (j : ℕ). Like (seen j) (records j)) (sym e) mine) (λ t ne. others k ne)
