-- What the code decides, and the step that it is.
use Rattle.std.proofs.Common.{◌≡◌, ℕ, ◌==◌, ◌<◌, ◌≤◌, ⊎_elim, Bool, true, false, cond, List, get_or, length, set, Option, Some, None, refl, sym, ap, ◌∙◌, slice_get, subst}
use Rattle.std.specs.Option.{option_map_or}
use Rattle.std.proofs.lemmas.Bool.{cases_lt, eqb-true}
use Rattle.std.proofs.lemmas.List.{get_or_past}
use Rattle.std.proofs.lemmas.Option.{get_or_from_slice_get, same_Some, slice_get-get_or, slice_get_within}
use Rattle.scc_base.specs.Heads.{MessageHead}
use Rattle.script_machine.specs.declared.posts.Posted.{Posted}
use Rattle.script_plain.specs.declared.steps.Step.TheVariants as step
use Rattle.script_plain.specs.Code.{HasTaken, call_decision, config, decision, match_decision, post_decision, receive_decision}
use Rattle.script_machine.specs.Local.{Local, local_next}
use Rattle.script_machine.specs.Next.{Next, call_next, is_going}
use Rattle.script_machine.specs.Next.Next.{Ends, Goes, Posts, Sends, Recvs, Bars}
use Rattle.plain_meaning.specs.Step.{next_at, same_head, slot_at, step_of}
use Rattle.plain_meaning.proofs.Runs.RunLaws.{there}
use Rattle.plain_meaning.proofs.Runs.StepLaws as steps

-- a rank that takes the message that another left behind
pub record IsFetch (ues : List Local) (slots : List (Option Posted)) (i j : ℕ) : Type 0 where
  pub asked : MessageHead
  pub take : List ℕ → Local
  pub refuse : MessageHead → Local
  pub message : Posted
  pub stands : next_at local_next (config ues slots) i ≡ Recvs j asked take refuse
  pub slot : slot_at (config ues slots) j ≡ Some message
  pub mine : message.to ≡ i
  pub same : same_head message.head asked ≡ true

module _ (ues : List Local) (slots : List (Option Posted)) (i j : ℕ) where
  by_tests : (from : ℕ) (asked : MessageHead) (take : List ℕ → Local) (refuse : MessageHead → Local) (message : Posted) (mine same : Bool) → next_at local_next (config ues slots) i ≡ Recvs from asked take refuse → slot_at (config ues slots) from ≡ Some message → (message.to == i) ≡ mine → same_head message.head asked ≡ same → cond mine (cond same (step.Takes from) (step.Mismatches message.head)) step.Stays ≡ step.Takes j → IsFetch ues slots i j
  by_tests from asked take refuse message true true stands slot mine same is =
      let here : from ≡ j = cc in
      record {
        asked = asked;
        take = take;
        refuse = refuse;
        message = message;
        stands = stands ∙ ap (λ (r : ℕ). Recvs r asked take refuse) here;
        slot = ap (slot_at (config ues slots)) (sym here) ∙ slot;
        mine = eqb-true message.to i mine;
        same = same;
      }
  by_tests from asked take refuse message true false stands slot mine same is = absurd (cc)
  by_tests from asked take refuse message false same stands slot mine tested is = absurd (cc)

  other_head : (b : Bool) (head : MessageHead) → cond b (step.Mismatches head) step.Stays ≡ step.Takes j → ⊥
  other_head true head is = cc
  other_head false head is = cc

  no_match : (b : Bool) (to : ℕ) → cond b (step.Matches to) step.Stays ≡ step.Takes j → ⊥
  no_match true to is = cc
  no_match false to is = cc

  no_pass : (b : Bool) (comm : ℕ) → cond b (step.Passes comm) step.Stays ≡ step.Takes j → ⊥
  no_pass true comm is = cc
  no_pass false comm is = cc

  by_slot : (from : ℕ) (asked : MessageHead) (take : List ℕ → Local) (refuse : MessageHead → Local) (o : Option Posted) (n : Next Local) → next_at local_next (config ues slots) i ≡ Recvs from asked take refuse → slot_at (config ues slots) from ≡ o → receive_decision i from asked o (call_next n) ≡ step.Takes j → IsFetch ues slots i j
  by_slot from asked take refuse (Some message) n stands slot is =
      by_tests from asked take refuse message (message.to == i) (same_head message.head asked) stands slot refl refl is
  by_slot from asked take refuse None Ends stands slot is = absurd (cc)
  by_slot from asked take refuse None (Goes after) stands slot is = absurd (cc)
  by_slot from asked take refuse None (Posts message after) stands slot is = absurd (cc)
  by_slot from asked take refuse None (Sends to head bytes after) stands slot is = absurd (other_head _ head is)
  by_slot from asked take refuse None (Recvs other head more again) stands slot is = absurd (cc)
  by_slot from asked take refuse None (Bars comm after) stands slot is = absurd (cc)

  by_post : (o : Option Posted) → post_decision o ≡ step.Takes j → ⊥
  by_post None is = cc
  by_post (Some message) is = cc

  by_match : (to : ℕ) (head : MessageHead) (o : Option Posted) (n : Next Local) → match_decision i to head o (call_next n) ≡ step.Takes j → ⊥
  by_match to head (Some message) n is = cc
  by_match to head None Ends is = cc
  by_match to head None (Goes after) is = cc
  by_match to head None (Posts message after) is = cc
  by_match to head None (Sends other sent bytes after) is = cc
  by_match to head None (Recvs from asked take refuse) is = no_match _ to is
  by_match to head None (Bars comm after) is = cc

  by_next : (keys : ℕ → ℕ → ℕ) (n : Next Local) → next_at local_next (config ues slots) i ≡ n → cond (is_going n) step.Goes (call_decision keys ues slots i (call_next n)) ≡ step.Takes j → IsFetch ues slots i j
  by_next keys Ends stands is = absurd (cc)
  by_next keys (Goes after) stands is = absurd (cc)
  by_next keys (Posts message after) stands is = absurd (by_post (slot_at (config ues slots) i) is)
  by_next keys (Sends to head bytes after) stands is =
      absurd (by_match to head (slot_at (config ues slots) i) (next_at local_next (config ues slots) to) is)
  by_next keys (Recvs from asked take refuse) stands is =
      by_slot from asked take refuse (slot_at (config ues slots) from) (next_at local_next (config ues slots) from) stands refl is
  by_next keys (Bars comm after) stands is = absurd (no_pass _ comm is)

  -- a rank that takes is there
  pub fetcher_there : IsFetch ues slots i j → i < length ues
  fetcher_there fetch =
      ⊎_elim
      (λ (ends : Recvs j fetch.asked fetch.take fetch.refuse ≡ Ends). absurd (cc))
      (λ (here : (u : Local) × (slice_get ues i ≡ Some u) × (local_next u ≡ Recvs j fetch.asked fetch.take fetch.refuse)). slice_get_within ues i here.0 here.1)
      (there local_next (slice_get ues i) (Recvs j fetch.asked fetch.take fetch.refuse) fetch.stands)

  -- a rank that takes a message that another left behind
  pub fetches : (keys : ℕ → ℕ → ℕ) → decision keys ues slots i ≡ step.Takes j → IsFetch ues slots i j
  fetches keys is = by_next keys (next_at local_next (config ues slots) i) refl is

-- the step that takes it
pub fetched : (keys : ℕ → ℕ → ℕ) (ues : List Local) (slots : List (Option Posted)) (i j : ℕ) (u v : Local) (message : Posted) → decision keys ues slots i ≡ step.Takes j → slice_get ues i ≡ Some u → slot_at (config ues slots) j ≡ Some message → HasTaken (local_next u) message.bytes v → step_of keys local_next (config ues slots) i ≡ Some (config (set ues i v) (set slots j None))
fetched keys ues slots i j u v message is here slot taken =
    let fetch = fetches ues slots i j keys is in
    let stands : local_next u ≡ Recvs j fetch.asked fetch.take fetch.refuse = sym (ap (λ (o : Option Local). option_map_or local_next o Ends) here) ∙ fetch.stands in
    let same : fetch.message ≡ message = same_Some fetch.message message (sym fetch.slot ∙ slot) in
    let now : v ≡ fetch.take message.bytes = subst (λ (n : Next Local). HasTaken n message.bytes v) stands taken in
    steps.answered keys local_next (config ues slots) (config (set ues i v) (set slots j None)) i
    (steps.Takes.Fetched j fetch.asked fetch.take fetch.refuse fetch.message fetch.stands fetch.slot fetch.mine fetch.same
    (ap (λ (w : Local). config (set ues i w) (set slots j None)) (now ∙ ap (λ (m : Posted). fetch.take m.bytes) (sym same))))

-- an element that is read where it is
pub slot_here : (slots : List (Option Posted)) (j : ℕ) (message : Posted) (x : Option Posted) → get_or slots j None ≡ Some message → x ≡ get_or slots j x → x ≡ Some message
slot_here slots j message x slot read =
    ⊎_elim
    (λ (within : j < length slots).
    read ∙ get_or_from_slice_get slots j (get_or slots j None) x (slice_get-get_or slots j None within) ∙ slot)
    (λ (past : length slots ≤ j). absurd (let e : None ≡ Some message = sym (get_or_past slots j None past) ∙ slot in cc))
    (cases_lt j (length slots))
