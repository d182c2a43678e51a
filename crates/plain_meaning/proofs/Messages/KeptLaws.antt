-- What each step keeps of the ranks and of the messages in their slots, every run keeps.
use Rattle.std.proofs.Common.{◌≡◌, ◌≢◌, ℕ, zero, suc, ◌<◌, ◌≤◌, Bool, true, false, List, get_or, length, set, Option, Some, None, refl, sym, ap, ◌∙◌, subst, slice_get, ⊎_elim}
use Rattle.std.specs.Option.{option_map}
use Rattle.std.proofs.lemmas.Bool.{cases_eq, cases_lt}
use Rattle.std.proofs.lemmas.List.{get_or-set_other, get_or-set_same, get_or_past, length-set}
use Rattle.std.proofs.lemmas.Option.{same_Some}
use Rattle.scc_base.specs.Groups.{is_with}
use Rattle.scc_base.specs.Heads.{MessageHead}
use Rattle.scc_base.specs.Runs.{Runs}
use Rattle.script_machine.specs.declared.posts.Posted.{Posted}
use Rattle.plain_meaning.specs.Meaning.{IsPlainStep, State, next_of}
use Rattle.script_machine.specs.Next.{Next, is_at_barrier, past_barrier}
use Rattle.script_machine.specs.Next.Next.{Ends, Goes, Posts, Sends, Recvs, Bars}
use Rattle.plain_meaning.specs.Step.{Configuration, all_at_barrier, by_rank, next_at, past_if, slot_at}
use Rattle.plain_meaning.proofs.Messages.MessageLaws.{cell_other, cell_there}
use Rattle.plain_meaning.proofs.OwnWays.OwnWayLaws.{stands}
use Rattle.plain_meaning.proofs.Runs.RunLaws.{get-by_rank, stands_there}
use Rattle.plain_meaning.proofs.Runs.StepLaws as steps
use Rattle.plain_meaning.proofs.Runs.StepLaws.Takes.{Alone, Left, Met, Fetched, RefusedPost, RefusedSend, Passed}

-- whatever stands next, this is true after it, and of a message that it leaves behind
abbrev pub KeepsNext : (State → Type 0) → (Posted → Type 0) → Next State → Type 0
KeepsNext P Q Ends = Unit {0}
KeepsNext P Q (Goes after) = P after
KeepsNext P Q (Posts message after) = P after × Q message
KeepsNext P Q (Sends to head bytes after) = P after
KeepsNext P Q (Recvs from head take refuse) = ((bytes : List ℕ) → P (take bytes)) × ((sent : MessageHead) → P (refuse sent))
KeepsNext P Q (Bars comm after) = P after

module _ (P : ℕ → State → Type 0) (Q : ℕ → Posted → Type 0) (keeps : (k : ℕ) (u : State) → P k u → KeepsNext (P k) (Q k) (next_of u)) where
  -- this is true of each rank, and of the message in each slot
  pub record AllKept (c : Configuration State) : Type 0 where
    pub cells : (k : ℕ) (u : State) → slice_get c.cells k ≡ Some u → P k u
    pub slots : (k : ℕ) (message : Posted) → slot_at c k ≡ Some message → Q k message

  abbrev EachCell : List State → Type 0
  EachCell us = (k : ℕ) (u : State) → slice_get us k ≡ Some u → P k u

  abbrev EachSlot : List (Option Posted) → Type 0
  EachSlot slots = (k : ℕ) (message : Posted) → get_or slots k None ≡ Some message → Q k message

  kept_set : (us : List State) (i : ℕ) (v w : State) → slice_get us i ≡ Some w → P i v → EachCell us → EachCell (set us i v)
  kept_set us i v w here now all k u at =
      ⊎_elim
      (λ (is : k ≡ i).
      let same : v ≡ u = same_Some v u (sym (cell_there us i v w here) ∙ ap (slice_get (set us i v)) (sym is) ∙ at) in
      subst (P k) same (subst (λ (j : ℕ). P j v) (sym is) now))
      (λ (apart : k ≢ i). all k u (sym (cell_other us i v k apart) ∙ at))
      (cases_eq k i)

  slot_set : (slots : List (Option Posted)) (i : ℕ) (o : Option Posted) → ((message : Posted) → o ≡ Some message → Q i message) → EachSlot slots → EachSlot (set slots i o)
  slot_set slots i o now all k message at =
      ⊎_elim
      (λ (is : k ≡ i).
      ⊎_elim
      (λ (within : i < length slots).
      subst (λ (j : ℕ). Q j message) (sym is) (now message (sym (get_or-set_same slots i o None within) ∙ ap (λ (j : ℕ). get_or (set slots i o) j None) (sym is) ∙ at)))
      (λ (past : length slots ≤ i).
      absurd (let none : None ≡ Some message = sym (get_or_past (set slots i o) k None (subst (λ (j : ℕ). length (set slots i o) ≤ j) (sym is) (subst (λ (n : ℕ). n ≤ i) (sym (length-set slots i o)) past))) ∙ at in cc))
      (cases_lt i (length slots)))
      (λ (apart : k ≢ i). all k message (sym (get_or-set_other slots i k o None apart) ∙ at))
      (cases_eq k i)

  -- what is true of the rank that stands there
  here_next : (c : Configuration State) (i : ℕ) (n : Next State) → next_at next_of c i ≡ n → (n ≡ Ends → ⊥) → EachCell c.cells → KeepsNext (P i) (Q i) n
  here_next c i n at some all =
      let here = stands c i n at some in
      subst (KeepsNext (P i) (Q i)) here.2 (keeps i here.0 (all i here.0 here.1))

  past_kept : (k : ℕ) (u : State) (comm : ℕ) (n : Next State) → is_at_barrier comm n ≡ true → KeepsNext (P k) (Q k) n → P k (past_barrier n u)
  past_kept k u comm Ends at on = absurd (cc)
  past_kept k u comm (Goes after) at on = absurd (cc)
  past_kept k u comm (Posts message after) at on = absurd (cc)
  past_kept k u comm (Sends to head bytes after) at on = absurd (cc)
  past_kept k u comm (Recvs from head take refuse) at on = absurd (cc)
  past_kept k u comm (Bars other after) at on = on

  all_past : (c : Configuration State) (comm : ℕ) (test : ℕ → Bool) → all_at_barrier next_of comm test c.cells ≡ true → EachCell c.cells → EachCell (by_rank (λ rank. past_if next_of (test rank)) c.cells)
  all_past c comm test all kept k v at = by_cell (slice_get c.cells k) refl (sym (get-by_rank (λ rank. past_if next_of (test rank)) c.cells k) ∙ at)
    where
      by_test : (u : State) → slice_get c.cells k ≡ Some u → (b : Bool) → test k ≡ b → P k (past_if next_of b u)
      by_test u here true member = past_kept k u comm (next_of u) (stands_there next_of comm test c.cells k u all member here) (keeps k u (kept k u here))
      by_test u here false member = kept k u here

      by_cell : (o : Option State) → slice_get c.cells k ≡ o → option_map (past_if next_of (test k)) o ≡ Some v → P k v
      by_cell None here is = absurd (cc)
      by_cell (Some u) here is = subst (P k) (same_Some (past_if next_of (test k) u) v is) (by_test u here (test k) refl)

  none_said : (i : ℕ) (message : Posted) → None ≡ Some message → Q i message
  none_said i message is = absurd (cc)

  kept_step : (keys : ℕ → ℕ → ℕ) (c d : Configuration State) (i : ℕ) → steps.Takes keys next_of c i d → AllKept c → AllKept d
  kept_step keys c d i (Alone after at made) kept =
      let here = stands c i (Goes after) at (λ e. cc) in
      subst AllKept (sym made) (record { cells = kept_set c.cells i after here.0 here.1 (here_next c i (Goes after) at (λ e. cc) kept.cells) kept.cells; slots = kept.slots })
  kept_step keys c d i (Left message after at slot made) kept =
      let here = stands c i (Posts message after) at (λ e. cc) in
      let now = here_next c i (Posts message after) at (λ e. cc) kept.cells in
      subst AllKept (sym made) (record {
        cells = kept_set c.cells i after here.0 here.1 now.0 kept.cells;
        slots = slot_set c.slots i (Some message) (λ other is. subst (Q i) (same_Some message other is) now.1) kept.slots;
      })
  kept_step keys c d i (Met j head bytes after asked take refuse at slot meets same made) kept =
      let here = stands c i (Sends j head bytes after) at (λ e. cc) in
      let peer = stands c j (Recvs i asked take refuse) meets (λ e. cc) in
      let apart : j ≢ i = λ e. let both : Recvs i asked take refuse ≡ Sends j head bytes after = sym meets ∙ ap (next_at next_of c) e ∙ at in cc in
      subst AllKept (sym made) (record {
        cells = kept_set (set c.cells i after) j (take bytes) peer.0 (cell_other c.cells i after j apart ∙ peer.1) ((here_next c j (Recvs i asked take refuse) meets (λ e. cc) kept.cells).0 bytes)
            (kept_set c.cells i after here.0 here.1 (here_next c i (Sends j head bytes after) at (λ e. cc) kept.cells) kept.cells);
        slots = kept.slots;
      })
  kept_step keys c d i (Fetched j asked take refuse message at slot mine same made) kept =
      let here = stands c i (Recvs j asked take refuse) at (λ e. cc) in
      subst AllKept (sym made) (record {
        cells = kept_set c.cells i (take message.bytes) here.0 here.1 ((here_next c i (Recvs j asked take refuse) at (λ e. cc) kept.cells).0 message.bytes) kept.cells;
        slots = slot_set c.slots j None (none_said j) kept.slots;
      })
  kept_step keys c d i (RefusedPost j asked take refuse message at slot mine same made) kept =
      let here = stands c i (Recvs j asked take refuse) at (λ e. cc) in
      subst AllKept (sym made) (record { cells = kept_set c.cells i (refuse message.head) here.0 here.1 ((here_next c i (Recvs j asked take refuse) at (λ e. cc) kept.cells).1 message.head) kept.cells; slots = kept.slots })
  kept_step keys c d i (RefusedSend j asked take refuse sent bytes after at slot meets same made) kept =
      let here = stands c i (Recvs j asked take refuse) at (λ e. cc) in
      subst AllKept (sym made) (record { cells = kept_set c.cells i (refuse sent) here.0 here.1 ((here_next c i (Recvs j asked take refuse) at (λ e. cc) kept.cells).1 sent) kept.cells; slots = kept.slots })
  kept_step keys c d i (Passed comm after at root all made) kept =
      subst AllKept (sym made) (record { cells = all_past c comm (is_with (keys comm) i) all kept.cells; slots = kept.slots })

  -- so it is wherever steps lead
  pub kept_runs : (keys : ℕ → ℕ → ℕ) (n : ℕ) (c d : Configuration State) → Runs (IsPlainStep keys) (λ e. e ≡ d) n c → AllKept c → AllKept d
  kept_runs keys zero c d same kept = subst AllKept same kept
  kept_runs keys (suc n) c d (a, t, step, rest) kept = kept_runs keys n t d rest (kept_step keys c t a (steps.seen keys next_of c t a step) kept)
