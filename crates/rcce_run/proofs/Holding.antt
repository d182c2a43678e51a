-- Configurations read rank by rank, and how a write changes what they hold.
use Rattle.std.proofs.Common.{◌≡◌, ◌≢◌, ℕ, zero, suc, ◌+◌, ◌<◌, ◌≤◌, ◌==◌, Bool, true, false, nat_lt, if◌then◌else◌, Option, Some, None, refl, sym, ap, ◌∙◌, subst, arith}
use Rattle.std.specs.Option.{option_map, option_map_or, unwrap_or}
use Rattle.std.proofs.lemmas.Bool.Decides.{nat_tests}
use Rattle.std.proofs.lemmas.Option.{same_Some, unwrap_or-slice_get}
use Rattle.scc_proto.specs.Legality.{Outgoing}
use Rattle.scc_proto.specs.Tables.{table_with}
use Rattle.scc_proto.proofs.Tests.{same_or_other}
use Rattle.script_machine.specs.declared.posts.Posted.{Posted}
use Rattle.script_machine.specs.Next.{Next}
use Rattle.script_machine.specs.Next.Next.{Ends}
use Rattle.plain_meaning.specs.Step.{Configuration, next_at, slot_at, with_cell, configuration_with_slot, by_rank}
use Rattle.plain_meaning.proofs.Orders.OrderLaws.{get_set}
use Rattle.plain_meaning.proofs.Runs.RunLaws.{get-by_rank}
use Rattle.rcce_run.specs.Sweep.{outgoing, at_rank, HoldsStates}

pub lt_true : (a b : ℕ) → a < b → nat_lt a b ≡ true
lt_true a b below = grind (arith, nat_tests)

pub lt_false : (a b : ℕ) → b ≤ a → nat_lt a b ≡ false
lt_false a b past = grind (arith, nat_tests)

pub true_lt : (a b : ℕ) → nat_lt a b ≡ true → a < b
true_lt a b t = grind (arith, nat_tests)

pub at_below : {A : Type 0} (nue k : ℕ) (x : A) → k < nue → at_rank nue k x ≡ Some x
at_below nue k x below = ap (λ (b : Bool). if b then Some x else None) (lt_true k nue below)

pub at_past : {A : Type 0} (nue k : ℕ) (x : A) → nue ≤ k → at_rank nue k x ≡ None
at_past nue k x past = ap (λ (b : Bool). if b then Some x else None) (lt_false k nue past)

-- an entry is there for the ranks alone
pub some_at : {A : Type 0} (nue k : ℕ) (x y : A) → at_rank nue k x ≡ Some y → (k < nue) × (x ≡ y)
some_at {A} nue k x y is = by (nat_lt k nue) refl is
  where
    by : (b : Bool) → nat_lt k nue ≡ b → (if b then Some x else None) ≡ Some y → (k < nue) × (x ≡ y)
    by true t e = (true_lt k nue t, same_Some x y e)
    by false t e = absurd (cc (e))

pub at_same : {A : Type 0} (nue k : ℕ) (x y : A) → (k < nue → x ≡ y) → at_rank nue k x ≡ at_rank nue k y
at_same {A} nue k x y same = by (nat_lt k nue) refl
  where
    by : (b : Bool) → nat_lt k nue ≡ b → (if b then Some x else None) ≡ (if b then Some y else None)
    by true t = ap Some (same (true_lt k nue t))
    by false t = refl

-- an entry that a function changes
at_map : {A : Type 0} (f : A → A) (nue k : ℕ) (x : A) → option_map f (at_rank nue k x) ≡ at_rank nue k (f x)
at_map {A} f nue k x = by (nat_lt k nue)
  where
    by : (b : Bool) → option_map f (if b then Some x else None) ≡ (if b then Some (f x) else None)
    by true = refl
    by false = refl

-- what holds of one written entry and of all others holds of all
pub put_each : {A : Type 0} (Q : ℕ → A → Type 0) (f : ℕ → A) (i : ℕ) (x : A) → Q i x → ((k : ℕ) → k ≢ i → Q k (f k)) → (k : ℕ) → Q k (table_with f i x k)
put_each {A} Q f i x here there k = same_or_other (Q k (table_with f i x k)) k i
    (λ t e. subst (λ (b : Bool). Q k (if b then x else f k)) (sym t) (subst (λ (j : ℕ). Q j x) (sym e) here))
    (λ t ne. subst (λ (b : Bool). Q k (if b then x else f k)) (sym t) (there k ne))

-- the same of two families that are written at one place
pub put_both : {A B : Type 0} (Q : ℕ → A → B → Type 0) (f : ℕ → A) (g : ℕ → B) (i : ℕ) (x : A) (y : B) → Q i x y → ((k : ℕ) → k ≢ i → Q k (f k) (g k))
    → (k : ℕ) → Q k (table_with f i x k) (table_with g i y k)
put_both {A} {B} Q f g i x y here there k = same_or_other (Q k (table_with f i x k) (table_with g i y k)) k i
    (λ t e. subst (λ (b : Bool). Q k (if b then x else f k) (if b then y else g k)) (sym t) (subst (λ (j : ℕ). Q j x y) (sym e) here))
    (λ t ne. subst (λ (b : Bool). Q k (if b then x else f k) (if b then y else g k)) (sym t) (there k ne))

-- a full slot, told by its message without the line
pub posted_there : (o : Option Posted) (m : Outgoing) → option_map outgoing o ≡ Some m → (message : Posted) × (o ≡ Some message) × (outgoing message ≡ m)
posted_there None m is = absurd (cc (is))
posted_there (Some message) m is = (message, refl, same_Some (outgoing message) m is)

-- the first n from one family, and all others from another
abbrev pub mixed : {U : Type 0} → (ℕ → U) → (ℕ → U) → ℕ → ℕ → U
mixed heads cells n k = if nat_lt k n then heads k else cells k

pub mixed_here : {U : Type 0} (heads cells : ℕ → U) (n : ℕ) → mixed heads cells n n ≡ cells n
mixed_here heads cells n = ap (λ (b : Bool). if b then heads n else cells n) (lt_false n n (omega arith))

pub mixed_next : {U : Type 0} (heads cells : ℕ → U) (n k : ℕ) → table_with (mixed heads cells n) n (heads n) k ≡ mixed heads cells (suc n) k
mixed_next heads cells n k = same_or_other (table_with (mixed heads cells n) n (heads n) k ≡ mixed heads cells (suc n) k) k n
    (λ t e. ap (λ (b : Bool). if b then heads n else mixed heads cells n k) t ∙ ap heads (sym e)
    ∙ sym (ap (λ (b : Bool). if b then heads k else cells k) (lt_true k (suc n) (omega (arith, e)))))
    (λ t ne. ap (λ (b : Bool). if b then heads n else mixed heads cells n k) t ∙ ap (λ (b : Bool). if b then heads k else cells k) (same_test n k ne))
  where
    same_test : (n k : ℕ) → k ≢ n → nat_lt k n ≡ nat_lt k (suc n)
    same_test n k ne = grind (arith, nat_tests)

module _ {U : Type 0} (nue : ℕ) where
  -- the same states and slots of the ranks
  pub holds_same : (c : Configuration U) (cells others : ℕ → U) (slots more : ℕ → Option Posted) → HoldsStates nue c cells slots
      → ((k : ℕ) → k < nue → cells k ≡ others k) → ((k : ℕ) → k < nue → slots k ≡ more k) → HoldsStates nue c others more
  holds_same c cells others slots more holds same_cells same_slots = record {
    cells_at = λ k. holds.cells_at k ∙ at_same nue k (cells k) (others k) (same_cells k);
    slots_at = λ k. holds.slots_at k ∙ at_same nue k (slots k) (more k) (same_slots k);
  }

  pub holds_cell : (c : Configuration U) (cells : ℕ → U) (slots : ℕ → Option Posted) (i : ℕ) (v : U) → HoldsStates nue c cells slots → HoldsStates nue (with_cell c i v) (table_with cells i v) slots
  holds_cell c cells slots i v holds = record {
    cells_at = λ k.
        get_set c.cells i v k ∙ ap (option_map (λ u. if k == i then v else u)) (holds.cells_at k)
        ∙ at_map (λ u. if k == i then v else u) nue k (cells k);
    slots_at = holds.slots_at;
  }

  pub holds_slot : (c : Configuration U) (cells : ℕ → U) (slots : ℕ → Option Posted) (i : ℕ) (m : Option Posted) → HoldsStates nue c cells slots → HoldsStates nue (configuration_with_slot c i m) cells (table_with slots i m)
  holds_slot c cells slots i m holds = record {
    cells_at = holds.cells_at;
    slots_at = λ k.
        get_set c.slots i m k ∙ ap (option_map (λ o. if k == i then m else o)) (holds.slots_at k)
        ∙ at_map (λ o. if k == i then m else o) nue k (slots k);
  }

  pub holds_all : (c : Configuration U) (cells : ℕ → U) (slots : ℕ → Option Posted) (change : ℕ → U → U) → HoldsStates nue c cells slots
      → HoldsStates nue (record c { cells = by_rank change c.cells }) (λ k. change k (cells k)) slots
  holds_all c cells slots change holds = record {
    cells_at = λ k. get-by_rank change c.cells k ∙ ap (option_map (change k)) (holds.cells_at k) ∙ at_map (change k) nue k (cells k);
    slots_at = holds.slots_at;
  }

  module _ (next : U → Next U) (c : Configuration U) (cells : ℕ → U) (slots : ℕ → Option Posted) (holds : HoldsStates nue c cells slots) where
    -- what stands next at a rank, and what stands in its slot
    pub next_held : (k : ℕ) → k < nue → next_at next c k ≡ next (cells k)
    next_held k below = ap (λ (o : Option U). option_map_or next o Ends) (holds.cells_at k ∙ at_below nue k (cells k) below)

    pub slot_held : (k : ℕ) → k < nue → slot_at c k ≡ slots k
    slot_held k below =
        sym (unwrap_or-slice_get c.slots k None) ∙ ap (λ (o : Option (Option Posted)). unwrap_or o None) (holds.slots_at k ∙ at_below nue k (slots k) below)

    -- a rank at which something stands is one of the ranks
    pub stands_below : (k : ℕ) (n : Next U) → next_at next c k ≡ n → (n ≡ Ends → ⊥) → (k < nue) × (next (cells k) ≡ n)
    stands_below k n is some = by (nat_lt k nue) refl
      where
        by : (b : Bool) → nat_lt k nue ≡ b → (k < nue) × (next (cells k) ≡ n)
        by true t = let below = true_lt k nue t in (below, sym (next_held k below) ∙ is)
        by false t = absurd (some (sym is ∙ ap (λ (o : Option U). option_map_or next o Ends) (holds.cells_at k ∙ ap (λ (b : Bool). if b then Some (cells k) else None) t)))

    -- and so is one whose slot is full
    pub full_below : (k : ℕ) (message : Posted) → slot_at c k ≡ Some message → (k < nue) × (slots k ≡ Some message)
    full_below k message is = by (nat_lt k nue) refl
      where
        by : (b : Bool) → nat_lt k nue ≡ b → (k < nue) × (slots k ≡ Some message)
        by true t = let below = true_lt k nue t in (below, sym (slot_held k below) ∙ is)
        by false t = absurd (let none : slot_at c k ≡ None = sym (unwrap_or-slice_get c.slots k None)
            ∙ ap (λ (o : Option (Option Posted)). unwrap_or o None) (holds.slots_at k ∙ ap (λ (b : Bool). if b then Some (slots k) else None) t) in cc (none, is))

-- what is shown rank after rank, seen from its end
module _ {U : Type 0} (nue : ℕ) (P : Configuration U → Type 0) (cells heads : ℕ → U) (slots : ℕ → Option Posted)
    (one : (n : ℕ) → n < nue → (c : Configuration U) → HoldsStates nue c (mixed heads cells n) slots → ((d : Configuration U) → HoldsStates nue d (mixed heads cells (suc n)) slots → P d) → P c) where
  ranks_from : (m n : ℕ) → m + n ≡ nue → (c : Configuration U) → HoldsStates nue c (mixed heads cells n) slots → ((d : Configuration U) → HoldsStates nue d heads slots → P d) → P c
  ranks_from zero n all c holds finish =
      finish c (holds_same nue c (mixed heads cells n) heads slots slots holds
      (λ k low. ap (λ (b : Bool). if b then heads k else cells k) (lt_true k n (omega (arith, all, low)))) (λ k low. refl))
  ranks_from (suc m) n all c holds finish =
      one n (omega (arith, all)) c holds (λ d held. ranks_from m (suc n) (omega (arith, all)) d held finish)

  pub rank_after_rank : (c : Configuration U) → HoldsStates nue c cells slots → ((d : Configuration U) → HoldsStates nue d heads slots → P d) → P c
  rank_after_rank c holds finish =
      ranks_from nue 0 (omega arith) c
      (holds_same nue c cells (mixed heads cells 0) slots slots holds
      (λ k low. sym (ap (λ (b : Bool). if b then heads k else cells k) (lt_false k 0 (omega arith)))) (λ k low. refl)) finish
