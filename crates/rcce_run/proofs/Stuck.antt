-- Where every look is vain, none of the seven kinds of step is enabled.
use Rattle.std.proofs.Common.{◌≡◌, ⊎_elim, ℕ, ◌<◌, true, false, List, Option, Some, None, sym, ap, ◌∙◌, subst}
use Rattle.std.specs.Option.{option_map}
use Rattle.std.proofs.lemmas.Bool.{eqb-true}
use Rattle.scc_base.specs.Groups.{is_with, root_in}
use Rattle.scc_base.specs.Heads.{MessageHead}
use Rattle.scc_base.specs.Runs.{IsStill}
use Rattle.scc_base.specs.Setups.{SetupView, setup_key, place_of}
use Rattle.scc_base.proofs.GroupFacts.{root_place, with_true}
use Rattle.scc_proto.specs.Passed.{slot_of}
use Rattle.scc_proto.specs.Stages.{Record}
use Rattle.scc_proto.specs.Views.{view_of}
use Rattle.scc_proto.specs.Words.{Memory}
use Rattle.script_machine.specs.declared.posts.Posted.{Posted}
use Rattle.script_machine.specs.Next.{Next, is_at_barrier}
use Rattle.script_machine.specs.Next.Next.{Ends, Goes, Posts, Sends, Recvs, Bars}
use Rattle.plain_meaning.specs.Step.{Configuration, IsStepOf, next_at, slot_at, all_at_barrier}
use Rattle.plain_meaning.proofs.Runs.RunLaws.{stands_there}
use Rattle.plain_meaning.proofs.Runs.StepLaws as steps
use Rattle.plain_meaning.proofs.Runs.StepLaws.Takes.{Alone, Left, Met, Fetched, RefusedPost, RefusedSend, Passed}
use Rattle.chip_run.specs.Waiting.{SlotWaits, RaiseWaits, BarWaits}
use Rattle.rcce_run.specs.Sweep.{Failed, Swept, slots_by, outgoing, HoldsStates}
use Rattle.rcce_run.proofs.Holding.{at_below, stands_below, full_below, slot_held}
use Rattle.chip_run.proofs.Offers.{no_fetch, no_take, post_in_slot, raise_out}
use Rattle.rcce_run.proofs.Still.{no_barrier}

module _ {U : Type 0} (next : U → Next U) (s : SetupView) (memory : Memory) (records : ℕ → Record) (starts states : ℕ → U) (lasts : ℕ → Option Posted) (sw : Swept next s memory records starts states lasts) where
  -- what a rank waits for, by what stands next
  pub failed_at : (k : ℕ) → k < s.nue → (n : Next U) → next (states k) ≡ n → Failed s (view_of s memory) k (records k) n
  failed_at k low n is = subst (Failed s (view_of s memory) k (records k)) is (sw.failed k low)

  -- members that all stand at one barrier
  bars_by : (k comm : ℕ) → (n : Next U) → Failed s (view_of s memory) k (records k) n → is_at_barrier comm n ≡ true → BarWaits s (view_of s memory) k comm (records k)
  bars_by k comm Ends failed is = absurd (cc (is))
  bars_by k comm (Goes after) failed is = absurd (cc (is))
  bars_by k comm (Posts message after) failed is = absurd (cc (is))
  bars_by k comm (Sends to head bytes after) failed is = absurd (cc (is))
  bars_by k comm (Recvs from head take refuse) failed is = absurd (cc (is))
  bars_by k comm (Bars asked after) failed is = subst (λ (c : ℕ). BarWaits s (view_of s memory) k c (records k)) (eqb-true asked comm is) failed

  module _ (c : Configuration U) (holds : HoldsStates s.nue c states (slots_by s records lasts)) (told : (k : ℕ) → option_map outgoing (slots_by s records lasts k) ≡ slot_of s records k) where
    abbrev Slots : ℕ → Option Posted
    Slots = slots_by s records lasts

    stands : (k : ℕ) (n : Next U) → next_at next c k ≡ n → (n ≡ Ends → ⊥) → (k < s.nue) × (next (states k) ≡ n)
    stands k n is some = stands_below s.nue next c states Slots holds k n is some

    -- an empty slot is empty in the records too
    empty_told : (k : ℕ) → k < s.nue → slot_at c k ≡ None → slot_of s records k ≡ None
    empty_told k low is = sym (told k) ∙ ap (option_map outgoing) (sym (slot_held s.nue next c states Slots holds k low) ∙ is)

    no_slot : (k : ℕ) → k < s.nue → slot_at c k ≡ None → SlotWaits (view_of s memory) k (records k) → ⊥
    no_slot k low is waits = let full = post_in_slot s memory records sw.agrees k low waits in let none = empty_told k low is in cc (full, none)

    -- a send and a receive that stand at each other
    no_pair : (i j : ℕ) (head asked : MessageHead) (bytes : List ℕ) (after : U) (take : List ℕ → U) (refuse : MessageHead → U)
        → next_at next c i ≡ Sends j head bytes after → slot_at c i ≡ None → next_at next c j ≡ Recvs i asked take refuse → ⊥
    no_pair i j head asked bytes after take refuse sends free takes =
        let (low, at) = stands i (Sends j head bytes after) sends (λ e. cc (e)) in
        let (below, there) = stands j (Recvs i asked take refuse) takes (λ e. cc (e)) in
        ⊎_elim
        (λ (slot : SlotWaits (view_of s memory) i (records i)). no_slot i low free slot)
        (λ (raise : RaiseWaits s (view_of s memory) i j head (records i)).
        no_take s memory records sw.agrees i j false raise.message raise.chunk (raise_out s memory records sw.agrees i j head raise) (failed_at j below (Recvs i asked take refuse) there))
        (failed_at i low (Sends j head bytes after) at)

    -- a message in a slot, and a receive of it
    no_message : (i j : ℕ) (asked : MessageHead) (take : List ℕ → U) (refuse : MessageHead → U) (message : Posted)
        → next_at next c j ≡ Recvs i asked take refuse → slot_at c i ≡ Some message → message.to ≡ j → ⊥
    no_message i j asked take refuse message takes full mine =
        let (below, there) = stands j (Recvs i asked take refuse) takes (λ e. cc (e)) in
        let (low, at) = full_below s.nue next c states Slots holds i message full in
        no_fetch s memory records sw.agrees i j low (outgoing message) (sym (told i) ∙ ap (option_map outgoing) at) mine (failed_at j below (Recvs i asked take refuse) there)

    no_meeting : (a comm : ℕ) (after : U) → next_at next c a ≡ Bars comm after → root_in (setup_key s comm) a ≡ a → all_at_barrier next comm (is_with (setup_key s comm) a) c.cells ≡ true → ⊥
    no_meeting a comm after bars root all =
        let (low, at) = stands a (Bars comm after) bars (λ e. cc (e)) in
        no_barrier s memory records sw.agrees comm a low (subst (λ (r : ℕ). place_of s comm r ≡ 0) root (root_place (setup_key s comm) a)) (failed_at a low (Bars comm after) at)
        (λ j below same.
        bars_by j comm (next (states j)) (sw.failed j below)
        (stands_there next comm (is_with (setup_key s comm) a) c.cells j (states j) all (with_true (setup_key s comm) a j same) (holds.cells_at j ∙ at_below s.nue j (states j) below)))

    none_taken : (a : ℕ) (d : Configuration U) → steps.Takes (setup_key s) next c a d → ⊥
    none_taken a d (Alone after at made) = let (low, is) = stands a (Goes after) at (λ e. cc (e)) in failed_at a low (Goes after) is
    none_taken a d (Left message after at slot made) =
        let (low, is) = stands a (Posts message after) at (λ e. cc (e)) in no_slot a low slot (failed_at a low (Posts message after) is)
    none_taken a d (Met j head bytes after asked take refuse at slot there same made) = no_pair a j head asked bytes after take refuse at slot there
    none_taken a d (Fetched j asked take refuse message at slot mine same made) = no_message j a asked take refuse message at slot mine
    none_taken a d (RefusedPost j asked take refuse message at slot mine same made) = no_message j a asked take refuse message at slot mine
    none_taken a d (RefusedSend j asked take refuse sent bytes after at slot there same made) = no_pair j a sent asked bytes after take refuse there slot at
    none_taken a d (Passed comm after at root all made) = no_meeting a comm after at root all

    pub still : IsStill (IsStepOf (setup_key s) next) c
    still a d step = none_taken a d (steps.seen (setup_key s) next c d a step)
