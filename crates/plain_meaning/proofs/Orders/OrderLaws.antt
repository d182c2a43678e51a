-- Steps of different owners do not disturb each other: a step reads and changes only the ranks and slots of its owner.
use Rattle.std.proofs.Common.{◌≡◌, ◌≢◌, ℕ, zero, suc, ◌==◌, Bool, true, false, if◌then◌else◌, ◌||◌, List, [], ◌∷◌, length, set, Option, Some, None, refl, sym, ap, ◌∙◌, subst, slice_get, ⊎_elim, arith}
use Rattle.std.specs.Option.{option_map, option_map_or, unwrap_or}
use Rattle.std.proofs.lemmas.Bool.{eqb-true, eq-eqb}
use Rattle.std.proofs.lemmas.Option.{same_Some, unwrap_or-slice_get}
use Rattle.scc_base.specs.Changes.{only, both}
use Rattle.scc_base.specs.Groups.{is_with, root_in}
use Rattle.scc_base.specs.Heads.{MessageHead}
use Rattle.scc_base.proofs.ChangeLaws.{true_or_false}
use Rattle.scc_base.proofs.GroupFacts.{root_once, true_with, with_self}
use Rattle.script_machine.specs.declared.posts.Posted.{Posted}
use Rattle.script_machine.specs.Next.{Next, is_at_barrier}
use Rattle.script_machine.specs.Next.Next.{Ends, Goes, Posts, Sends, Recvs, Bars}
use Rattle.plain_meaning.specs.Step.{Configuration, next_at, slot_at, with_cell, configuration_with_slot, same_head, by_rank, past_if, step_of}
use Rattle.script_machine.proofs.Choices as choices
use Rattle.plain_meaning.proofs.Runs.StepLaws as steps
use Rattle.plain_meaning.proofs.Runs.StepLaws.Takes.{Alone, Left, Met, Fetched, RefusedPost, RefusedSend, Passed}
use Rattle.plain_meaning.proofs.Runs.RunLaws as runs

-- lists with the same elements are the same
pub list_same : {A : Type 0} (xs ys : List A) → ((k : ℕ) → slice_get xs k ≡ slice_get ys k) → xs ≡ ys
list_same [] [] each = refl
list_same [] (y ∷ ys) each = absurd (let e = each 0 in cc)
list_same (x ∷ xs) [] each = absurd (let e = each 0 in cc)
list_same (x ∷ xs) (y ∷ ys) each =
    ap (λ (z : _). z ∷ xs) (same_Some x y (each 0)) ∙ ap (λ (zs : List _). y ∷ zs) (list_same xs ys (λ k. each (suc k)))

pub kept : {A : Type 0} (f : A → A) (o : Option A) → ((x : A) → o ≡ Some x → f x ≡ x) → option_map f o ≡ o
kept f None each = refl
kept f (Some x) each = ap Some (each x refl)

twice : {A : Type 0} (f g : A → A) (o : Option A) → option_map f (option_map g o) ≡ option_map (λ x. f (g x)) o
twice f g None = refl
twice f g (Some x) = refl

pub different : (a b : ℕ) → a ≢ b → (a == b) ≡ false
different a b apart =
    ⊎_elim
    (λ (is : (a == b) ≡ true). absurd (apart (eqb-true a b is)))
    (λ (is : (a == b) ≡ false). is)
    (true_or_false (a == b))

suc_same : (a b : ℕ) → (suc a == suc b) ≡ (a == b)
suc_same a b =
    ⊎_elim
    (λ (is : (a == b) ≡ true). eq-eqb (suc a) (suc b) (ap suc (eqb-true a b is)) ∙ sym is)
    (λ (is : (a == b) ≡ false).
    different (suc a) (suc b) (λ e. let same : a ≡ b = omega (arith, e) in let yes : (a == b) ≡ true = eq-eqb a b same in absurd (cc)) ∙ sym is)
    (true_or_false (a == b))

-- an element of a list with one element written
pub get_set : {A : Type 0} (xs : List A) (i : ℕ) (v : A) (k : ℕ) → slice_get (set xs i v) k ≡ option_map (λ u. if k == i then v else u) (slice_get xs k)
get_set [] i v k = refl
get_set (x ∷ xs) zero v zero = refl
get_set (x ∷ xs) zero v (suc k) =
    sym (kept (λ u. if suc k == 0 then v else u) (slice_get xs k) (λ u is. choices.other (suc k == 0) v u (different (suc k) 0 (λ e. absurd (omega (arith, e))))))
get_set (x ∷ xs) (suc i) v zero = ap Some (sym (choices.other (0 == suc i) v x (different 0 (suc i) (λ e. absurd (omega (arith, e))))))
get_set (x ∷ xs) (suc i) v (suc k) =
    get_set xs i v k ∙ ap (λ (b : Bool). option_map (λ u. if b then v else u) (slice_get xs k)) (sym (suc_same k i))

module _ {U : Type 0} (keys : ℕ → ℕ → ℕ) (next : U → Next U) where
  -- who owns the step in which rank i's message to j is taken or refused, by what stands next at j
  abbrev sender_owner : ℕ → ℕ → MessageHead → Next U → ℕ
  sender_owner i j head (Recvs from asked take refuse) = if same_head head asked then i else j
  sender_owner i j head _ = 0

  -- the same for the receiver j, by the slot of i and what stands next there
  abbrev receiver_owner : ℕ → ℕ → MessageHead → Option Posted → Next U → ℕ
  receiver_owner j i asked (Some message) _ = j
  receiver_owner j i asked None (Sends to head bytes after) = if same_head head asked then i else j
  receiver_owner j i asked None _ = 0

  -- who owns the step that rank k takes part in, if there is one
  abbrev owner_by : Configuration U → ℕ → Next U → ℕ
  owner_by c k Ends = k
  owner_by c k (Goes after) = k
  owner_by c k (Posts message after) = k
  owner_by c k (Sends to head bytes after) = sender_owner k to head (next_at next c to)
  owner_by c k (Recvs from asked take refuse) = receiver_owner k from asked (slot_at c from) (next_at next c from)
  owner_by c k (Bars comm after) = root_in (keys comm) k

  abbrev cell_owner : Configuration U → ℕ → ℕ
  cell_owner c k = owner_by c k (next_at next c k)

  -- and the step that slot k takes part in
  abbrev slot_owner_by : Configuration U → ℕ → Option Posted → Next U → ℕ
  slot_owner_by c k (Some message) _ = message.to
  slot_owner_by c k None (Posts message after) = k
  slot_owner_by c k None (Sends to head bytes after) = sender_owner k to head (next_at next c to)
  slot_owner_by c k None _ = k

  abbrev slot_owner : Configuration U → ℕ → ℕ
  slot_owner c k = slot_owner_by c k (slot_at c k) (next_at next c k)

  -- another configuration with the same ranks and slots in these sets
  record Agrees (cells slots : ℕ → Bool) (c s : Configuration U) : Type 0 where
    ranks : length s.cells ≡ length c.cells
    same_cells : (k : ℕ) → cells k ≡ true → slice_get s.cells k ≡ slice_get c.cells k
    same_slots : (k : ℕ) → slots k ≡ true → slice_get s.slots k ≡ slice_get c.slots k

  -- what a step of rank a reads and changes: sets of ranks and slots that it owns, and that are all it depends on
  record Frame (c : Configuration U) (a : ℕ) : Type 0 where
    cells : ℕ → Bool
    slots : ℕ → Bool
    change : ℕ → U → U
    shift : ℕ → Option Posted → Option Posted
    cell_owned : (k : ℕ) (u : U) → cells k ≡ true → slice_get c.cells k ≡ Some u → cell_owner c k ≡ a
    slot_owned : (k : ℕ) → slots k ≡ true → slot_owner c k ≡ a
    cell_kept : (k : ℕ) (u : U) → cells k ≡ false → change k u ≡ u
    slot_kept : (k : ℕ) (o : Option Posted) → slots k ≡ false → shift k o ≡ o
    moves : (s : Configuration U) → Agrees cells slots c s → (t : Configuration U) × (step_of keys next s a ≡ Some t) × ((k : ℕ) → slice_get t.cells k ≡ option_map (change k) (slice_get s.cells k)) × ((k : ℕ) → slice_get t.slots k ≡ option_map (shift k) (slice_get s.slots k))

  same_next : (c s : Configuration U) (k : ℕ) (n : Next U) → slice_get s.cells k ≡ slice_get c.cells k → next_at next c k ≡ n → next_at next s k ≡ n
  same_next c s k n same is = ap (λ (o : Option U). option_map_or next o Ends) same ∙ is

  same_slot : (c s : Configuration U) (k : ℕ) (o : Option Posted) → slice_get s.slots k ≡ slice_get c.slots k → slot_at c k ≡ o → slot_at s k ≡ o
  same_slot c s k o same is =
      sym (unwrap_or-slice_get s.slots k None) ∙ ap (λ (p : Option (Option Posted)). unwrap_or p None) same ∙ unwrap_or-slice_get c.slots k None ∙ is

  -- the owner of a rank at which this stands next
  owned_one : (c : Configuration U) (i a : ℕ) (n : Next U) → next_at next c i ≡ n → owner_by c i n ≡ a → cell_owner c i ≡ a
  owned_one c i a n stands is = ap (owner_by c i) stands ∙ is

  slot_owned_one : (c : Configuration U) (i a : ℕ) (o : Option Posted) (n : Next U) → slot_at c i ≡ o → next_at next c i ≡ n → slot_owner_by c i o n ≡ a → slot_owner c i ≡ a
  slot_owned_one c i a o n slot stands is =
      ap (λ (p : Option Posted). slot_owner_by c i p (next_at next c i)) slot ∙ ap (slot_owner_by c i o) stands ∙ is

  one_of : (P : ℕ → Type 0) (i : ℕ) → P i → (k : ℕ) → only i k ≡ true → P k
  one_of P i here k is = subst P (sym (eqb-true k i is)) here

  two_of : (P : ℕ → Type 0) (i j : ℕ) → P i → P j → (k : ℕ) → both i j k ≡ true → P k
  two_of P i j here there k is = by (k == i) (k == j) refl refl is
    where
      by : (x y : Bool) → (k == i) ≡ x → (k == j) ≡ y → (x || y) ≡ true → P k
      by true y one two any = subst P (sym (eqb-true k i one)) here
      by false true one two any = subst P (sym (eqb-true k j two)) there
      by false false one two any = absurd (cc)

  -- a rank outside a set is not a rank inside
  outside : (cells : ℕ → Bool) (i : ℕ) → cells i ≡ true → (k : ℕ) → cells k ≡ false → (k == i) ≡ false
  outside cells i inside k out =
      ⊎_elim
      (λ (is : (k == i) ≡ true). absurd (let e : cells k ≡ true = subst (λ (x : ℕ). cells x ≡ true) (sym (eqb-true k i is)) inside in cc))
      (λ (is : (k == i) ≡ false). is)
      (true_or_false (k == i))

  kept_out : {A : Type 0} (cells : ℕ → Bool) (i : ℕ) (v : A) → cells i ≡ true → (k : ℕ) (u : A) → cells k ≡ false → (if k == i then v else u) ≡ u
  kept_out cells i v inside k u out = choices.other (k == i) v u (outside cells i inside k out)

  -- one rank's state is written
  frame_one : (c : Configuration U) (a i : ℕ) (v : U) (cells slots : ℕ → Bool) → cells i ≡ true → ((k : ℕ) → cells k ≡ true → cell_owner c k ≡ a) → ((k : ℕ) → slots k ≡ true → slot_owner c k ≡ a) → ((s : Configuration U) → Agrees cells slots c s → step_of keys next s a ≡ Some (with_cell s i v)) → Frame c a
  frame_one c a i v cells slots inside owned slots_owned answers = record {
    cells = cells;
    slots = slots;
    change = λ k u. if k == i then v else u;
    shift = λ k o. o;
    cell_owned = λ k u is here. owned k is;
    slot_owned = slots_owned;
    cell_kept = kept_out cells i v inside;
    slot_kept = λ k o out. refl;
    moves = λ s agrees. (with_cell s i v, answers s agrees, get_set s.cells i v, λ k. sym (kept (λ o. o) (slice_get s.slots k) (λ o is. refl)));
  }

  -- one rank's state is written, and one slot
  frame_slot : (c : Configuration U) (a i j : ℕ) (v : U) (m : Option Posted) (cells slots : ℕ → Bool) → cells i ≡ true → slots j ≡ true → ((k : ℕ) → cells k ≡ true → cell_owner c k ≡ a) → ((k : ℕ) → slots k ≡ true → slot_owner c k ≡ a) → ((s : Configuration U) → Agrees cells slots c s → step_of keys next s a ≡ Some (configuration_with_slot (with_cell s i v) j m)) → Frame c a
  frame_slot c a i j v m cells slots inside slot_inside owned slots_owned answers = record {
    cells = cells;
    slots = slots;
    change = λ k u. if k == i then v else u;
    shift = λ k o. if k == j then m else o;
    cell_owned = λ k u is here. owned k is;
    slot_owned = slots_owned;
    cell_kept = kept_out cells i v inside;
    slot_kept = kept_out slots j m slot_inside;
    moves = λ s agrees. (configuration_with_slot (with_cell s i v) j m, answers s agrees, get_set s.cells i v, get_set s.slots j m);
  }

  -- two ranks' states are written
  frame_two : (c : Configuration U) (a i j : ℕ) (v w : U) (cells slots : ℕ → Bool) → cells i ≡ true → cells j ≡ true → ((k : ℕ) → cells k ≡ true → cell_owner c k ≡ a) → ((k : ℕ) → slots k ≡ true → slot_owner c k ≡ a) → ((s : Configuration U) → Agrees cells slots c s → step_of keys next s a ≡ Some (with_cell (with_cell s i v) j w)) → Frame c a
  frame_two c a i j v w cells slots inside other_inside owned slots_owned answers = record {
    cells = cells;
    slots = slots;
    change = λ k u. if k == j then w else (if k == i then v else u);
    shift = λ k o. o;
    cell_owned = λ k u is here. owned k is;
    slot_owned = slots_owned;
    cell_kept = λ k u out. kept_out cells j w other_inside k (if k == i then v else u) out ∙ kept_out cells i v inside k u out;
    slot_kept = λ k o out. refl;
    moves = λ s agrees. (with_cell (with_cell s i v) j w, answers s agrees, (λ k. get_set (set s.cells i v) j w k ∙ ap (option_map (λ u. if k == j then w else u)) (get_set s.cells i v k) ∙ twice (λ u. if k == j then w else u) (λ u. if k == i then v else u) (slice_get s.cells k)), λ k. sym (kept (λ o. o) (slice_get s.slots k) (λ o is. refl)));
  }

  -- the communicator of a barrier that stands next
  barrier_owner : (c : Configuration U) (k comm : ℕ) (n : Next U) → is_at_barrier comm n ≡ true → owner_by c k n ≡ root_in (keys comm) k
  barrier_owner c k comm Ends is = absurd (cc)
  barrier_owner c k comm (Goes after) is = absurd (cc)
  barrier_owner c k comm (Posts message after) is = absurd (cc)
  barrier_owner c k comm (Sends to head bytes after) is = absurd (cc)
  barrier_owner c k comm (Recvs from asked take refuse) is = absurd (cc)
  barrier_owner c k comm (Bars asked after) is = ap (λ (x : ℕ). root_in (keys x) k) (eqb-true asked comm is)

  in_both_one : (i j : ℕ) → both i j i ≡ true
  in_both_one i j = ap (λ (b : Bool). b || (i == j)) (eq-eqb i i refl)

  in_both_two : (i j : ℕ) → both i j j ≡ true
  in_both_two i j = by (j == i) (eq-eqb j j refl)
    where
      by : (b : Bool) → (j == j) ≡ true → (b || (j == j)) ≡ true
      by true is = refl
      by false is = is

  frame_kind : (c d : Configuration U) (a : ℕ) → steps.Takes keys next c a d → Frame c a
  frame_kind c d a (Alone after stands made) =
      frame_one c a a after (only a) (λ k. false) (eq-eqb a a refl)
      (one_of (λ k. cell_owner c k ≡ a) a (owned_one c a a (Goes after) stands refl))
      (λ k is. absurd (cc))
      (λ s agrees. steps.answered keys next s (with_cell s a after) a (Alone after (same_next c s a (Goes after) (agrees.same_cells a (eq-eqb a a refl)) stands) refl))
  frame_kind c d a (Left message after stands slot made) =
      frame_slot c a a a after (Some message) (only a) (only a) (eq-eqb a a refl) (eq-eqb a a refl)
      (one_of (λ k. cell_owner c k ≡ a) a (owned_one c a a (Posts message after) stands refl))
      (one_of (λ k. slot_owner c k ≡ a) a (slot_owned_one c a a None (Posts message after) slot stands refl))
      (λ s agrees. steps.answered keys next s (configuration_with_slot (with_cell s a after) a (Some message)) a
      (Left message after (same_next c s a (Posts message after) (agrees.same_cells a (eq-eqb a a refl)) stands) (same_slot c s a None (agrees.same_slots a (eq-eqb a a refl)) slot) refl))
  frame_kind c d a (Met j head bytes after asked take refuse stands slot there same made) =
      let sends : sender_owner a j head (next_at next c j) ≡ a =
      ap (sender_owner a j head) there ∙ choices.chosen (same_head head asked) a j same in
      let receives : receiver_owner j a asked (slot_at c a) (next_at next c a) ≡ a =
      ap (λ (o : Option Posted). receiver_owner j a asked o (next_at next c a)) slot ∙ ap (receiver_owner j a asked None) stands ∙ choices.chosen (same_head head asked) a j same in
      frame_two c a a j after (take bytes) (both a j) (only a) (in_both_one a j) (in_both_two a j)
      (two_of (λ k. cell_owner c k ≡ a) a j (owned_one c a a (Sends j head bytes after) stands sends) (owned_one c j a (Recvs a asked take refuse) there receives))
      (one_of (λ k. slot_owner c k ≡ a) a (slot_owned_one c a a None (Sends j head bytes after) slot stands sends))
      (λ s agrees. steps.answered keys next s (with_cell (with_cell s a after) j (take bytes)) a
      (Met j head bytes after asked take refuse (same_next c s a (Sends j head bytes after) (agrees.same_cells a (in_both_one a j)) stands) (same_slot c s a None (agrees.same_slots a (eq-eqb a a refl)) slot)
      (same_next c s j (Recvs a asked take refuse) (agrees.same_cells j (in_both_two a j)) there) same refl))
  frame_kind c d a (Fetched j asked take refuse message stands slot mine same made) =
      frame_slot c a a j (take message.bytes) None (only a) (only j) (eq-eqb a a refl) (eq-eqb j j refl)
      (one_of (λ k. cell_owner c k ≡ a) a (owned_one c a a (Recvs j asked take refuse) stands (ap (λ (o : Option Posted). receiver_owner a j asked o (next_at next c j)) slot)))
      (one_of (λ k. slot_owner c k ≡ a) j (ap (λ (o : Option Posted). slot_owner_by c j o (next_at next c j)) slot ∙ mine))
      (λ s agrees. steps.answered keys next s (configuration_with_slot (with_cell s a (take message.bytes)) j None) a
      (Fetched j asked take refuse message (same_next c s a (Recvs j asked take refuse) (agrees.same_cells a (eq-eqb a a refl)) stands) (same_slot c s j (Some message) (agrees.same_slots j (eq-eqb j j refl)) slot) mine same refl))
  frame_kind c d a (RefusedPost j asked take refuse message stands slot mine same made) =
      frame_one c a a (refuse message.head) (only a) (only j) (eq-eqb a a refl)
      (one_of (λ k. cell_owner c k ≡ a) a (owned_one c a a (Recvs j asked take refuse) stands (ap (λ (o : Option Posted). receiver_owner a j asked o (next_at next c j)) slot)))
      (one_of (λ k. slot_owner c k ≡ a) j (ap (λ (o : Option Posted). slot_owner_by c j o (next_at next c j)) slot ∙ mine))
      (λ s agrees. steps.answered keys next s (with_cell s a (refuse message.head)) a
      (RefusedPost j asked take refuse message (same_next c s a (Recvs j asked take refuse) (agrees.same_cells a (eq-eqb a a refl)) stands) (same_slot c s j (Some message) (agrees.same_slots j (eq-eqb j j refl)) slot) mine same refl))
  frame_kind c d a (RefusedSend j asked take refuse sent bytes after stands slot there same made) =
      let sends : sender_owner j a sent (next_at next c a) ≡ a =
      ap (sender_owner j a sent) stands ∙ choices.other (same_head sent asked) j a same in
      let receives : receiver_owner a j asked (slot_at c j) (next_at next c j) ≡ a =
      ap (λ (o : Option Posted). receiver_owner a j asked o (next_at next c j)) slot ∙ ap (receiver_owner a j asked None) there ∙ choices.other (same_head sent asked) j a same in
      frame_one c a a (refuse sent) (both a j) (only j) (in_both_one a j)
      (two_of (λ k. cell_owner c k ≡ a) a j (owned_one c a a (Recvs j asked take refuse) stands receives) (owned_one c j a (Sends a sent bytes after) there sends))
      (one_of (λ k. slot_owner c k ≡ a) j (slot_owned_one c j a None (Sends a sent bytes after) slot there sends))
      (λ s agrees. steps.answered keys next s (with_cell s a (refuse sent)) a
      (RefusedSend j asked take refuse sent bytes after (same_next c s a (Recvs j asked take refuse) (agrees.same_cells a (in_both_one a j)) stands) (same_slot c s j None (agrees.same_slots j (eq-eqb j j refl)) slot)
      (same_next c s j (Sends a sent bytes after) (agrees.same_cells j (in_both_two a j)) there) same refl))
  frame_kind c d a (Passed comm after stands root all made) =
      let group : ℕ → Bool = is_with (keys comm) a in
      record {
        cells = group;
        slots = λ k. false;
        change = λ k. past_if next (group k);
        shift = λ k o. o;
        cell_owned = λ k u member here.
            owned_one c k a (next u) (ap (λ (o : Option U). option_map_or next o Ends) here)
            (barrier_owner c k comm (next u) (runs.stands_there next comm group c.cells k u all member here) ∙ root_once (keys comm) k a (true_with (keys comm) a k member) ∙ root);
        slot_owned = λ k is. absurd (cc);
        cell_kept = λ k u out. choices.other (group k) _ u out;
        slot_kept = λ k o out. refl;
        moves = λ s agrees. (
          record s { cells = by_rank (λ rank. past_if next (group rank)) s.cells },
          steps.answered keys next s (record s { cells = by_rank (λ rank. past_if next (group rank)) s.cells }) a
              (Passed comm after (same_next c s a (Bars comm after) (agrees.same_cells a (with_self (keys comm) a)) stands) root
              (runs.stand_there next comm group s.cells (λ k u member here. runs.stands_there next comm group c.cells k u all member (sym (agrees.same_cells k member) ∙ here))) refl),
          (λ k. runs.get-by_rank (λ rank. past_if next (group rank)) s.cells k),
          λ k. sym (kept (λ o. o) (slice_get s.slots k) (λ o is. refl)),
        );
      }

  frame : (c d : Configuration U) (a : ℕ) → step_of keys next c a ≡ Some d → Frame c a
  frame c d a step = frame_kind c d a (steps.seen keys next c d a step)

  -- what a step made, by rank and slot
  made_by : (c t : Configuration U) (a : ℕ) (f : Frame c a) → step_of keys next c a ≡ Some t → ((k : ℕ) → slice_get t.cells k ≡ option_map (f.change k) (slice_get c.cells k)) × ((k : ℕ) → slice_get t.slots k ≡ option_map (f.shift k) (slice_get c.slots k))
  made_by c t a f step =
      let (t', step', cells, slots) = f.moves c (record { ranks = refl; same_cells = λ k is. refl; same_slots = λ k is. refl }) in
      let same : t' ≡ t = same_Some t' t (sym step' ∙ step) in
      subst (λ (x : Configuration U). ((k : ℕ) → slice_get x.cells k ≡ option_map (f.change k) (slice_get c.cells k)) × ((k : ℕ) → slice_get x.slots k ≡ option_map (f.shift k) (slice_get c.slots k))) same (cells, slots)

  -- another owner's step leaves what a step reads
  still_agrees : (c t : Configuration U) (a b : ℕ) (f : Frame c a) (g : Frame c b) → a ≢ b → step_of keys next c a ≡ Some t → Agrees g.cells g.slots c t
  still_agrees c t a b f g apart step =
      let made = made_by c t a f step in
      record {
        ranks = (runs.length-step keys next c t a step).0;
        same_cells = λ k inside. made.0 k ∙ kept (f.change k) (slice_get c.cells k) (λ u here.
            ⊎_elim
            (λ (is : f.cells k ≡ true). absurd (apart (sym (f.cell_owned k u is here) ∙ g.cell_owned k u inside here)))
            (λ (is : f.cells k ≡ false). f.cell_kept k u is)
            (true_or_false (f.cells k)));
        same_slots = λ k inside. made.1 k ∙ kept (f.shift k) (slice_get c.slots k) (λ o here.
            ⊎_elim
            (λ (is : f.slots k ≡ true). absurd (apart (sym (f.slot_owned k is) ∙ g.slot_owned k inside)))
            (λ (is : f.slots k ≡ false). f.slot_kept k o is)
            (true_or_false (f.slots k)));
      }

  commute_at : {A : Type 0} (f g : A → A) (o : Option A) → ((x : A) → o ≡ Some x → f (g x) ≡ g (f x)) → option_map f (option_map g o) ≡ option_map g (option_map f o)
  commute_at f g None each = refl
  commute_at f g (Some x) each = ap Some (each x refl)

  cells_commute : (c : Configuration U) (a b : ℕ) (f : Frame c a) (g : Frame c b) → a ≢ b → (k : ℕ) (u : U) → slice_get c.cells k ≡ Some u → f.change k (g.change k u) ≡ g.change k (f.change k u)
  cells_commute c a b f g apart k u here =
      ⊎_elim
      (λ (is : f.cells k ≡ true).
      ⊎_elim
      (λ (also : g.cells k ≡ true). absurd (apart (sym (f.cell_owned k u is here) ∙ g.cell_owned k u also here)))
      (λ (not_also : g.cells k ≡ false). ap (f.change k) (g.cell_kept k u not_also) ∙ sym (g.cell_kept k (f.change k u) not_also))
      (true_or_false (g.cells k)))
      (λ (is : f.cells k ≡ false). f.cell_kept k (g.change k u) is ∙ ap (g.change k) (sym (f.cell_kept k u is)))
      (true_or_false (f.cells k))

  slots_commute : (c : Configuration U) (a b : ℕ) (f : Frame c a) (g : Frame c b) → a ≢ b → (k : ℕ) (o : Option Posted) → f.shift k (g.shift k o) ≡ g.shift k (f.shift k o)
  slots_commute c a b f g apart k o =
      ⊎_elim
      (λ (is : f.slots k ≡ true).
      ⊎_elim
      (λ (also : g.slots k ≡ true). absurd (apart (sym (f.slot_owned k is) ∙ g.slot_owned k also)))
      (λ (not_also : g.slots k ≡ false). ap (f.shift k) (g.slot_kept k o not_also) ∙ sym (g.slot_kept k (f.shift k o) not_also))
      (true_or_false (g.slots k)))
      (λ (is : f.slots k ≡ false). f.slot_kept k (g.shift k o) is ∙ ap (g.shift k) (sym (f.slot_kept k o is)))
      (true_or_false (f.slots k))

  -- two enabled steps of different owners stay enabled after each other, and commute
  pub either_order : (a b : ℕ) (c t u : Configuration U) → a ≢ b → step_of keys next c a ≡ Some t → step_of keys next c b ≡ Some u → (v : Configuration U) × (step_of keys next t b ≡ Some v) × (step_of keys next u a ≡ Some v)
  either_order a b c t u apart one two =
      let f = frame c t a one in
      let g = frame c u b two in
      let made_t = made_by c t a f one in
      let made_u = made_by c u b g two in
      let (v, step_v, cells_v, slots_v) = g.moves t (still_agrees c t a b f g apart one) in
      let (w, step_w, cells_w, slots_w) = f.moves u (still_agrees c u b a g f (λ e. apart (sym e)) two) in
      let cells : w.cells ≡ v.cells = list_same w.cells v.cells (λ k.
      cells_w k ∙ ap (option_map (f.change k)) (made_u.0 k) ∙ commute_at (f.change k) (g.change k) (slice_get c.cells k) (cells_commute c a b f g apart k)
      ∙ ap (option_map (g.change k)) (sym (made_t.0 k)) ∙ sym (cells_v k)) in
      let slots : w.slots ≡ v.slots = list_same w.slots v.slots (λ k.
      slots_w k ∙ ap (option_map (f.shift k)) (made_u.1 k) ∙ commute_at (f.shift k) (g.shift k) (slice_get c.slots k) (λ o here. slots_commute c a b f g apart k o)
      ∙ ap (option_map (g.shift k)) (sym (made_t.1 k)) ∙ sym (slots_v k)) in
      let same : w ≡ v = λ i. record { cells = cells i; slots = slots i } in
      (v, step_v, step_w ∙ ap Some same)

  -- an owner has at most one step
  pub only_one : (a : ℕ) (c t u : Configuration U) → step_of keys next c a ≡ Some t → step_of keys next c a ≡ Some u → t ≡ u
  only_one a c t u one two = same_Some t u (sym one ∙ two)
