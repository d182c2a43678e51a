-- Laws of the step, whatever the state of a rank is.
use Rattle.std.proofs.Common.{◌≡◌, ℕ, ◌==◌, Bool, true, false, cond, ◌&&◌, not, List, Option, Some, None, refl, sym, ap, ◌∙◌}
use Rattle.std.proofs.lemmas.Bool.{eqb-true, eq-eqb}
use Rattle.std.proofs.lemmas.Option.{cond_some, same_Some}
use Rattle.scc_base.specs.Groups.{is_with, root_in}
use Rattle.scc_base.specs.Heads.{MessageHead}
use Rattle.script_machine.specs.declared.posts.Posted.{Posted}
use Rattle.script_machine.proofs.Choices.{both_true, and_of, not_true, not_of, chosen, other}
use Rattle.script_machine.specs.Next.{Next}
use Rattle.script_machine.specs.Next.Next.{Ends, Goes, Posts, Sends, Recvs, Bars}
use Rattle.plain_meaning.specs.Step.{Configuration, next_at, slot_at, with_cell, configuration_with_slot, same_head, post_step, match_step, receive_step, all_at_barrier, by_rank, past_if, step_by, step_of}

-- the seven kinds of step, each with what stands where it is enabled, and what it makes of the configuration
pub data Takes {U : Type 0} (keys : ℕ → ℕ → ℕ) (next : U → Next U) (c : Configuration U) (i : ℕ) (d : Configuration U) : Type 0 where
  Alone : (after : U) → next_at next c i ≡ Goes after → d ≡ with_cell c i after → Takes keys next c i d
  Left : (message : Posted) (after : U) → next_at next c i ≡ Posts message after → slot_at c i ≡ None
      → d ≡ configuration_with_slot (with_cell c i after) i (Some message) → Takes keys next c i d
  Met : (j : ℕ) (head : MessageHead) (bytes : List ℕ) (after : U) (asked : MessageHead) (take : List ℕ → U) (refuse : MessageHead → U)
      → next_at next c i ≡ Sends j head bytes after → slot_at c i ≡ None → next_at next c j ≡ Recvs i asked take refuse
      → same_head head asked ≡ true → d ≡ with_cell (with_cell c i after) j (take bytes) → Takes keys next c i d
  Fetched : (j : ℕ) (asked : MessageHead) (take : List ℕ → U) (refuse : MessageHead → U) (message : Posted)
      → next_at next c i ≡ Recvs j asked take refuse → slot_at c j ≡ Some message → message.to ≡ i
      → same_head message.head asked ≡ true → d ≡ configuration_with_slot (with_cell c i (take message.bytes)) j None → Takes keys next c i d
  RefusedPost : (j : ℕ) (asked : MessageHead) (take : List ℕ → U) (refuse : MessageHead → U) (message : Posted)
      → next_at next c i ≡ Recvs j asked take refuse → slot_at c j ≡ Some message → message.to ≡ i
      → same_head message.head asked ≡ false → d ≡ with_cell c i (refuse message.head) → Takes keys next c i d
  RefusedSend : (j : ℕ) (asked : MessageHead) (take : List ℕ → U) (refuse : MessageHead → U) (sent : MessageHead) (bytes : List ℕ) (after : U)
      → next_at next c i ≡ Recvs j asked take refuse → slot_at c j ≡ None → next_at next c j ≡ Sends i sent bytes after
      → same_head sent asked ≡ false → d ≡ with_cell c i (refuse sent) → Takes keys next c i d
  Passed : (comm : ℕ) (after : U) → next_at next c i ≡ Bars comm after → root_in (keys comm) i ≡ i
      → all_at_barrier next comm (is_with (keys comm) i) c.cells ≡ true
      → d ≡ record c { cells = by_rank (λ rank. past_if next (is_with (keys comm) i rank)) c.cells } → Takes keys next c i d

module _ {U : Type 0} (keys : ℕ → ℕ → ℕ) (next : U → Next U) (c d : Configuration U) (i : ℕ) where
  seen_post : (message : Posted) (after : U) (o : Option Posted) → next_at next c i ≡ Posts message after → slot_at c i ≡ o → post_step c i message after o ≡ Some d → Takes keys next c i d
  seen_post message after None stands slot step = Left message after stands slot (sym (same_Some _ d step))
  seen_post message after (Some earlier) stands slot step = absurd (cc)

  seen_match : (j : ℕ) (head : MessageHead) (bytes : List ℕ) (after : U) (o : Option Posted) (m : Next U) → next_at next c i ≡ Sends j head bytes after → slot_at c i ≡ o → next_at next c j ≡ m → match_step c i j head bytes after o m ≡ Some d → Takes keys next c i d
  seen_match j head bytes after (Some earlier) m stands slot there step = absurd (cc)
  seen_match j head bytes after None (Recvs from asked take refuse) stands slot there step =
      let made = cond_some _ (with_cell (with_cell c i after) j (take bytes)) d step in
      let tests = both_true (from == i) (same_head head asked) made.0 in
      let same : from ≡ i = eqb-true from i tests.0 in
      Met j head bytes after asked take refuse stands slot (there ∙ ap (λ (r : ℕ). Recvs r asked take refuse) same) tests.1 (sym made.1)
  seen_match j head bytes after None Ends stands slot there step = absurd (cc)
  seen_match j head bytes after None (Goes on) stands slot there step = absurd (cc)
  seen_match j head bytes after None (Posts message on) stands slot there step = absurd (cc)
  seen_match j head bytes after None (Sends to sent more on) stands slot there step = absurd (cc)
  seen_match j head bytes after None (Bars comm on) stands slot there step = absurd (cc)

  seen_fetch : (j : ℕ) (asked : MessageHead) (take : List ℕ → U) (refuse : MessageHead → U) (message : Posted) (same : Bool) → next_at next c i ≡ Recvs j asked take refuse → slot_at c j ≡ Some message → message.to ≡ i → same_head message.head asked ≡ same → cond same (Some (configuration_with_slot (with_cell c i (take message.bytes)) j None)) (Some (with_cell c i (refuse message.head))) ≡ Some d → Takes keys next c i d
  seen_fetch j asked take refuse message true stands slot mine is step =
      Fetched j asked take refuse message stands slot mine is (sym (same_Some _ d step))
  seen_fetch j asked take refuse message false stands slot mine is step =
      RefusedPost j asked take refuse message stands slot mine is (sym (same_Some _ d step))

  seen_posted : (j : ℕ) (asked : MessageHead) (take : List ℕ → U) (refuse : MessageHead → U) (message : Posted) (mine : Bool) → next_at next c i ≡ Recvs j asked take refuse → slot_at c j ≡ Some message → (message.to == i) ≡ mine → cond mine (cond (same_head message.head asked) (Some (configuration_with_slot (with_cell c i (take message.bytes)) j None)) (Some (with_cell c i (refuse message.head)))) None ≡ Some d → Takes keys next c i d
  seen_posted j asked take refuse message true stands slot mine step =
      seen_fetch j asked take refuse message (same_head message.head asked) stands slot (eqb-true message.to i mine) refl step
  seen_posted j asked take refuse message false stands slot mine step = absurd (cc)

  seen_receive : (j : ℕ) (asked : MessageHead) (take : List ℕ → U) (refuse : MessageHead → U) (o : Option Posted) (m : Next U) → next_at next c i ≡ Recvs j asked take refuse → slot_at c j ≡ o → next_at next c j ≡ m → receive_step c i j asked take refuse o m ≡ Some d → Takes keys next c i d
  seen_receive j asked take refuse (Some message) m stands slot there step =
      seen_posted j asked take refuse message (message.to == i) stands slot refl step
  seen_receive j asked take refuse None (Sends to sent bytes after) stands slot there step =
      let made = cond_some _ (with_cell c i (refuse sent)) d step in
      let tests = both_true (to == i) (not (same_head sent asked)) made.0 in
      let mine : to ≡ i = eqb-true to i tests.0 in
      RefusedSend j asked take refuse sent bytes after stands slot (there ∙ ap (λ (r : ℕ). Sends r sent bytes after) mine) (not_true (same_head sent asked) tests.1) (sym made.1)
  seen_receive j asked take refuse None Ends stands slot there step = absurd (cc)
  seen_receive j asked take refuse None (Goes on) stands slot there step = absurd (cc)
  seen_receive j asked take refuse None (Posts message on) stands slot there step = absurd (cc)
  seen_receive j asked take refuse None (Recvs from head more on) stands slot there step = absurd (cc)
  seen_receive j asked take refuse None (Bars comm on) stands slot there step = absurd (cc)

  seen_by : (n : Next U) → next_at next c i ≡ n → step_by keys next c i n ≡ Some d → Takes keys next c i d
  seen_by Ends stands step = absurd (cc)
  seen_by (Goes after) stands step = Alone after stands (sym (same_Some _ d step))
  seen_by (Posts message after) stands step = seen_post message after (slot_at c i) stands refl step
  seen_by (Sends j head bytes after) stands step =
      seen_match j head bytes after (slot_at c i) (next_at next c j) stands refl refl step
  seen_by (Recvs j asked take refuse) stands step =
      seen_receive j asked take refuse (slot_at c j) (next_at next c j) stands refl refl step
  seen_by (Bars comm after) stands step =
      let made = cond_some _ (record c { cells = by_rank (λ rank. past_if next (is_with (keys comm) i rank)) c.cells }) d step in
      let tests = both_true (root_in (keys comm) i == i) (all_at_barrier next comm (is_with (keys comm) i) c.cells) made.0 in
      Passed comm after stands (eqb-true (root_in (keys comm) i) i tests.0) tests.1 (sym made.1)

  -- a step that the function answers is one of the seven kinds
  pub seen : step_of keys next c i ≡ Some d → Takes keys next c i d
  seen step = seen_by (next_at next c i) refl step

  -- and a step of one of the kinds is answered
  pub answered : Takes keys next c i d → step_of keys next c i ≡ Some d
  answered (Alone after stands made) = ap (step_by keys next c i) stands ∙ ap Some (sym made)
  answered (Left message after stands slot made) =
      ap (step_by keys next c i) stands ∙ ap (post_step c i message after) slot ∙ ap Some (sym made)
  answered (Met j head bytes after asked take refuse stands slot there same made) =
      ap (step_by keys next c i) stands
      ∙ ap (λ (o : Option Posted). match_step c i j head bytes after o (next_at next c j)) slot
      ∙ ap (match_step c i j head bytes after None) there
      ∙ chosen ((i == i) && same_head head asked) _ _ (and_of (i == i) (same_head head asked) (eq-eqb i i refl) same)
      ∙ ap Some (sym made)
  answered (Fetched j asked take refuse message stands slot mine same made) =
      ap (step_by keys next c i) stands
      ∙ ap (λ (o : Option Posted). receive_step c i j asked take refuse o (next_at next c j)) slot
      ∙ chosen (message.to == i) _ _ (eq-eqb message.to i mine)
      ∙ chosen (same_head message.head asked) _ _ same
      ∙ ap Some (sym made)
  answered (RefusedPost j asked take refuse message stands slot mine same made) =
      ap (step_by keys next c i) stands
      ∙ ap (λ (o : Option Posted). receive_step c i j asked take refuse o (next_at next c j)) slot
      ∙ chosen (message.to == i) _ _ (eq-eqb message.to i mine)
      ∙ other (same_head message.head asked) _ _ same
      ∙ ap Some (sym made)
  answered (RefusedSend j asked take refuse sent bytes after stands slot there same made) =
      ap (step_by keys next c i) stands
      ∙ ap (λ (o : Option Posted). receive_step c i j asked take refuse o (next_at next c j)) slot
      ∙ ap (receive_step c i j asked take refuse None) there
      ∙ chosen ((i == i) && not (same_head sent asked)) _ _ (and_of (i == i) (not (same_head sent asked)) (eq-eqb i i refl) (not_of (same_head sent asked) same))
      ∙ ap Some (sym made)
  answered (Passed comm after stands root all made) =
      ap (step_by keys next c i) stands
      ∙ chosen ((root_in (keys comm) i == i) && all_at_barrier next comm (is_with (keys comm) i) c.cells) _ _
      (and_of (root_in (keys comm) i == i) (all_at_barrier next comm (is_with (keys comm) i) c.cells) (eq-eqb (root_in (keys comm) i) i root) all)
      ∙ ap Some (sym made)
