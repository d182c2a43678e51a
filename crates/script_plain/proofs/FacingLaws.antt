-- A step changes what its owner comes to, and what the one comes to that its owner faced: a rank below the owner that heeds
-- neither owns no step then, where it owned none before.
use Rattle.std.proofs.Common.{◌≡◌, ◌≢◌, ℕ, zero, suc, ◌+◌, ◌<◌, ◌≤◌, ◌==◌, Bool, true, false, cond, ◌&&◌, List, ◌++◌, length, get_or, set, Option, Some, None, refl, sym, ap, ◌∙◌, subst, slice_get, ⊎_elim, arith}
use Rattle.std.specs.Option.{option_map_or, option_or, unwrap_or}
use Rattle.std.specs.Prelude.{is_some}
use Rattle.std.proofs.lemmas.Bool.{cases_eq, cases_lt, eq-eqb}
use Rattle.std.proofs.lemmas.List.{length-set}
use Rattle.std.proofs.lemmas.Option.{slice_get-get_or, slice_get_within, unwrap_or-slice_get}
use Rattle.scc_base.specs.Groups.{is_with, root_in}
use Rattle.scc_base.specs.Heads.{MessageHead}
use Rattle.script_machine.specs.declared.facing.Facing.{Facing}
use Rattle.script_machine.specs.declared.facing.Facing.TheVariants as facing
use Rattle.script_plain.specs.declared.matches.Match.{Match}
use Rattle.script_machine.specs.declared.posts.Posted.{Posted}
use Rattle.script_plain.specs.Code.{BringsAt, BringsLowest}
use Rattle.script_plain.specs.Facing.{AreAside, IsAside, IsStillTo, facing_at, heeds}
use Rattle.script_machine.specs.Next.{facing_of, Next, is_at_barrier}
use Rattle.script_machine.specs.Local.{Local, local_next, statement_line}
use Rattle.script_plain.specs.Matches.{messages_brought, lowest_brought}
use Rattle.script_machine.specs.Next.Next.{Ends, Goes, Posts, Sends, Recvs, Bars}
use Rattle.plain_meaning.specs.Step.{Configuration, next_at, slot_at, with_cell, configuration_with_slot, post_step, match_step, receive_step, all_at_barrier, barrier_step, by_rank, past_if, step_by, step_of, lowest, lowest_step}
use Rattle.plain_meaning.proofs.Orders.OrderLaws.{different, get_set, kept}
use Rattle.plain_meaning.proofs.Runs.RunLaws as runs
use Rattle.script_machine.proofs.Choices as choices
use Rattle.plain_meaning.proofs.Runs.StepLaws as steps
use Rattle.plain_meaning.proofs.Runs.StepLaws.Takes.{Alone, Left, Met, Fetched, RefusedPost, RefusedSend, Passed}

-- a write leaves the other elements
set_other : {A : Type 0} (xs : List A) (i : ℕ) (v : A) (k : ℕ) → k ≢ i → slice_get (set xs i v) k ≡ slice_get xs k
set_other xs i v k apart =
    get_set xs i v k ∙ kept (λ u. cond (k == i) v u) (slice_get xs k) (λ u here. choices.other (k == i) v u (different k i apart))

not_same : (a b : ℕ) → (a == b) ≡ false → a ≢ b
not_same a b is e = let yes : (a == b) ≡ true = eq-eqb a b e in absurd (cc)

pub none_came : (o : Option ℕ) → ((n : ℕ) → o ≡ Some n → ⊥) → is_some o ≡ false
none_came None none = refl
none_came (Some n) none = absurd (none n refl)

-- the other rank that a step changes whose owner faced these
abbrev IsOther : ℕ → Facing → ℕ → Type 0
IsOther i facing.Nobody j = j ≡ i
IsOther i (facing.One rank) j = j ≡ rank
IsOther i facing.Group j = ⊥

-- ranks and slots but these two are as before
record Keeps {U : Type 0} (i j : ℕ) (c d : Configuration U) : Type 0 where
  ranks : length d.cells ≡ length c.cells
  cells : (k : ℕ) → k ≢ i → k ≢ j → slice_get d.cells k ≡ slice_get c.cells k
  slots : (k : ℕ) → k ≢ i → k ≢ j → slice_get d.slots k ≡ slice_get c.slots k

module _ {U : Type 0} (keys : ℕ → ℕ → ℕ) (next : U → Next U) where
  keeps_cell : (c : Configuration U) (i j : ℕ) (v : U) → Keeps i j c (with_cell c i v)
  keeps_cell c i j v = record {
    ranks = length-set c.cells i v;
    cells = λ k one two. set_other c.cells i v k one;
    slots = λ k one two. refl;
  }

  keeps_slot : (c : Configuration U) (i j r : ℕ) (v : U) (m : Option Posted) → ((k : ℕ) → k ≢ i → k ≢ j → k ≢ r) → Keeps i j c (configuration_with_slot (with_cell c i v) r m)
  keeps_slot c i j r v m among = record {
    ranks = length-set c.cells i v;
    cells = λ k one two. set_other c.cells i v k one;
    slots = λ k one two. set_other c.slots r m k (among k one two);
  }

  keeps_two : (c : Configuration U) (i j : ℕ) (v w : U) → Keeps i j c (with_cell (with_cell c i v) j w)
  keeps_two c i j v w = record {
    ranks = length-set (set c.cells i v) j w ∙ length-set c.cells i v;
    cells = λ k one two. set_other (set c.cells i v) j w k two ∙ set_other c.cells i v k one;
    slots = λ k one two. refl;
  }

  keeps_by : (c d : Configuration U) (i j : ℕ) → steps.Takes keys next c i d → IsOther i (facing_of (next_at next c i)) j → Keeps i j c d
  keeps_by c d i j (Alone after stands made) is = subst (Keeps i j c) (sym made) (keeps_cell c i j after)
  keeps_by c d i j (Left message after stands slot made) is =
      subst (Keeps i j c) (sym made) (keeps_slot c i j i after (Some message) (λ k one two. one))
  keeps_by c d i j (Met r head bytes after asked take refuse stands slot there same made) is =
      let at : j ≡ r = subst (λ (n : Next U). IsOther i (facing_of n) j) stands is in
      subst (Keeps i j c) (ap (λ (x : ℕ). with_cell (with_cell c i after) x (take bytes)) at ∙ sym made) (keeps_two c i j after (take bytes))
  keeps_by c d i j (Fetched r asked take refuse message stands slot mine same made) is =
      let at : j ≡ r = subst (λ (n : Next U). IsOther i (facing_of n) j) stands is in
      subst (Keeps i j c) (sym made) (keeps_slot c i j r (take message.bytes) None (λ k one two e. two (e ∙ sym at)))
  keeps_by c d i j (RefusedPost r asked take refuse message stands slot mine same made) is =
      subst (Keeps i j c) (sym made) (keeps_cell c i j (refuse message.head))
  keeps_by c d i j (RefusedSend r asked take refuse sent bytes after stands slot there same made) is =
      subst (Keeps i j c) (sym made) (keeps_cell c i j (refuse sent))
  keeps_by c d i j (Passed comm after stands root all made) is =
      absurd (subst (λ (n : Next U). IsOther i (facing_of n) j) stands is)

  none_cond : {A : Type 0} (b : Bool) (x y : A) → cond b (Some x) None ≡ None → cond b (Some y) None ≡ None
  none_cond true x y none = absurd (cc)
  none_cond false x y none = refl

  none_either : {A : Type 0} (b s : Bool) (x y v w : A) → cond b (cond s (Some x) (Some y)) None ≡ None → cond b (cond s (Some v) (Some w)) None ≡ None
  none_either false s x y v w none = refl
  none_either true true x y v w none = absurd (cc)
  none_either true false x y v w none = absurd (cc)

  none_post : (c d : Configuration U) (k : ℕ) (message : Posted) (after : U) (o : Option Posted) → post_step c k message after o ≡ None → post_step d k message after o ≡ None
  none_post c d k message after None none = absurd (cc)
  none_post c d k message after (Some earlier) none = refl

  none_match : (c d : Configuration U) (k to : ℕ) (head : MessageHead) (bytes : List ℕ) (after : U) (o : Option Posted) (m : Next U) → match_step c k to head bytes after o m ≡ None → match_step d k to head bytes after o m ≡ None
  none_match c d k to head bytes after (Some earlier) m none = refl
  none_match c d k to head bytes after None Ends none = refl
  none_match c d k to head bytes after None (Goes on) none = refl
  none_match c d k to head bytes after None (Posts message on) none = refl
  none_match c d k to head bytes after None (Sends other sent more on) none = refl
  none_match c d k to head bytes after None (Recvs from asked take refuse) none = none_cond _ _ _ none
  none_match c d k to head bytes after None (Bars comm on) none = refl

  none_receive : (c d : Configuration U) (k from : ℕ) (asked : MessageHead) (take : List ℕ → U) (refuse : MessageHead → U) (o : Option Posted) (m : Next U) → receive_step c k from asked take refuse o m ≡ None → receive_step d k from asked take refuse o m ≡ None
  none_receive c d k from asked take refuse (Some message) m none = none_either _ _ _ _ _ _ none
  none_receive c d k from asked take refuse None Ends none = refl
  none_receive c d k from asked take refuse None (Goes on) none = refl
  none_receive c d k from asked take refuse None (Posts message on) none = refl
  none_receive c d k from asked take refuse None (Sends to sent bytes on) none = none_cond _ _ _ none
  none_receive c d k from asked take refuse None (Recvs other head more again) none = refl
  none_receive c d k from asked take refuse None (Bars comm on) none = refl

  -- a barrier is heeded where one comes to a barrier
  no_barrier : (n : Next U) (i comm : ℕ) → heeds facing.Group i (facing_of n) ≡ false → is_at_barrier comm n ≡ true → ⊥
  no_barrier Ends i comm aside is = absurd (cc)
  no_barrier (Goes after) i comm aside is = absurd (cc)
  no_barrier (Posts message after) i comm aside is = absurd (cc)
  no_barrier (Sends to head bytes after) i comm aside is = absurd (cc)
  no_barrier (Recvs from head take refuse) i comm aside is = absurd (cc)
  no_barrier (Bars asked after) i comm aside is = absurd (cc)

  -- where all of a group stand at a barrier, each of its ranks does
  at_barrier : (d : Configuration U) (comm : ℕ) (group : ℕ → Bool) (m : ℕ) (u : U) → all_at_barrier next comm group d.cells ≡ true → group m ≡ true → m < length d.cells → is_at_barrier comm (next_at next d m) ≡ true
  at_barrier d comm group m u all member within =
      let here = slice_get-get_or d.cells m u within in
      ap (λ (o : Option U). is_at_barrier comm (option_map_or next o Ends)) here
      ∙ runs.stands_there next comm group d.cells m (get_or d.cells m u) all member here

  all_before : (c d : Configuration U) (i j comm : ℕ) (group : ℕ → Bool) → Keeps i j c d → heeds facing.Group i (facing_of (next_at next d i)) ≡ false → heeds facing.Group j (facing_of (next_at next d j)) ≡ false
      → all_at_barrier next comm group d.cells ≡ true → all_at_barrier next comm group c.cells ≡ true
  all_before c d i j comm group keeps one other all =
      runs.stand_there next comm group c.cells (λ m u member here.
      let within : m < length d.cells = omega (arith, slice_get_within c.cells m u here, keeps.ranks) in
      let there = at_barrier d comm group m u all member within in
      ⊎_elim
      (λ (same : m ≡ i). absurd (no_barrier (next_at next d i) i comm one (subst (λ (x : ℕ). is_at_barrier comm (next_at next d x) ≡ true) same there)))
      (λ (apart : m ≢ i).
      ⊎_elim
      (λ (same : m ≡ j). absurd (no_barrier (next_at next d j) j comm other (subst (λ (x : ℕ). is_at_barrier comm (next_at next d x) ≡ true) same there)))
      (λ (away : m ≢ j). ap (λ (o : Option U). is_at_barrier comm (option_map_or next o Ends)) (sym here ∙ sym (keeps.cells m apart away)) ∙ there)
      (cases_eq m j))
      (cases_eq m i))

  none_barrier : (c d : Configuration U) (i j k comm : ℕ) → Keeps i j c d → heeds facing.Group i (facing_of (next_at next d i)) ≡ false → heeds facing.Group j (facing_of (next_at next d j)) ≡ false
      → barrier_step keys next c k comm ≡ None → barrier_step keys next d k comm ≡ None
  none_barrier c d i j k comm keeps one other none = by ((root_in (keys comm) k == k) && all_at_barrier next comm (is_with (keys comm) k) d.cells) refl
    where
      by : (b : Bool) → ((root_in (keys comm) k == k) && all_at_barrier next comm (is_with (keys comm) k) d.cells) ≡ b → cond b (Some (record d { cells = by_rank (λ rank. past_if next (is_with (keys comm) k rank)) d.cells })) None ≡ None
      by false is = refl
      by true is =
          let parts = choices.both_true (root_in (keys comm) k == k) (all_at_barrier next comm (is_with (keys comm) k) d.cells) is in
          let before : ((root_in (keys comm) k == k) && all_at_barrier next comm (is_with (keys comm) k) c.cells) ≡ true =
          choices.and_of (root_in (keys comm) k == k) (all_at_barrier next comm (is_with (keys comm) k) c.cells) parts.0 (all_before c d i j comm (is_with (keys comm) k) keeps one other parts.1) in
          let enabled : barrier_step keys next c k comm ≡ Some (record c { cells = by_rank (λ rank. past_if next (is_with (keys comm) k rank)) c.cells }) =
          choices.chosen ((root_in (keys comm) k == k) && all_at_barrier next comm (is_with (keys comm) k) c.cells) _ _ before in
          let never : Some (record c { cells = by_rank (λ rank. past_if next (is_with (keys comm) k rank)) c.cells }) ≡ None = sym enabled ∙ none in
          absurd (cc)

  same_next : (i j : ℕ) (c d : Configuration U) → Keeps i j c d → (k : ℕ) → k ≢ i → k ≢ j → next_at next d k ≡ next_at next c k
  same_next i j c d keeps k one two = ap (λ (o : Option U). option_map_or next o Ends) (keeps.cells k one two)

  same_slot : (i j : ℕ) (c d : Configuration U) → Keeps i j c d → (k : ℕ) → k ≢ i → k ≢ j → slot_at d k ≡ slot_at c k
  same_slot i j c d keeps k one two =
      sym (unwrap_or-slice_get d.slots k None) ∙ ap (λ (p : Option (Option Posted)). unwrap_or p None) (keeps.slots k one two) ∙ unwrap_or-slice_get c.slots k None

  still_by : (c d : Configuration U) (i j k : ℕ) (n : Next U) → Keeps i j c d → k ≢ i → k ≢ j → heeds (facing_of n) i (facing_of (next_at next d i)) ≡ false → heeds (facing_of n) j (facing_of (next_at next d j)) ≡ false
      → step_by keys next c k n ≡ None → step_by keys next d k n ≡ None
  still_by c d i j k Ends keeps one two aside other none = refl
  still_by c d i j k (Goes after) keeps one two aside other none = absurd (cc)
  still_by c d i j k (Posts message after) keeps one two aside other none =
      ap (post_step d k message after) (same_slot i j c d keeps k one two) ∙ none_post c d k message after (slot_at c k) none
  still_by c d i j k (Sends to head bytes after) keeps one two aside other none =
      ap (λ (o : Option Posted). match_step d k to head bytes after o (next_at next d to)) (same_slot i j c d keeps k one two)
      ∙ ap (match_step d k to head bytes after (slot_at c k)) (same_next i j c d keeps to (not_same to i aside) (not_same to j other))
      ∙ none_match c d k to head bytes after (slot_at c k) (next_at next c to) none
  still_by c d i j k (Recvs from head take refuse) keeps one two aside other none =
      ap (λ (o : Option Posted). receive_step d k from head take refuse o (next_at next d from)) (same_slot i j c d keeps from (not_same from i aside) (not_same from j other))
      ∙ ap (receive_step d k from head take refuse (slot_at c from)) (same_next i j c d keeps from (not_same from i aside) (not_same from j other))
      ∙ none_receive c d k from head take refuse (slot_at c from) (next_at next c from) none
  still_by c d i j k (Bars comm after) keeps one two aside other none =
      none_barrier c d i j k comm keeps aside other none

-- a rank that is aside owns no step
still_aside : (keys : ℕ → ℕ → ℕ) (c d : Configuration Local) (i j k : ℕ) → step_of keys local_next c i ≡ Some d → IsOther i (facing_at c.cells i) j → k ≢ i → IsAside d.cells i j k → step_of keys local_next c k ≡ None → step_of keys local_next d k ≡ None
still_aside keys c d i j k step is apart aside none =
    let keeps = keeps_by keys local_next c d i j (steps.seen keys local_next c d i step) is in
    let same = same_next keys local_next i j c d keeps k apart aside.apart in
    ap (step_by keys local_next d k) same
    ∙ still_by keys local_next c d i j k (next_at local_next c k) keeps apart aside.apart
    (ap (λ (n : Next Local). heeds (facing_of n) i (facing_at d.cells i)) (sym same) ∙ aside.one)
    (ap (λ (n : Next Local). heeds (facing_of n) j (facing_at d.cells j)) (sym same) ∙ aside.other)
    none

still_for : (keys : ℕ → ℕ → ℕ) (c d : Configuration Local) (i n : ℕ) (faced : Facing) → faced ≡ facing_at c.cells i → step_of keys local_next c i ≡ Some d → IsStillTo keys i c → n ≤ i → AreAside d.cells i faced n → IsStillTo keys n d
still_for keys c d i n facing.Nobody is step still within aside k below =
    still_aside keys c d i i k step (subst (λ (f : Facing). IsOther i f i) is refl) (λ e. absurd (omega (arith, e, below, within))) (aside k below) (still k (omega (arith, below, within)))
still_for keys c d i n (facing.One j) is step still within aside k below =
    still_aside keys c d i j k step (subst (λ (f : Facing). IsOther i f j) is refl) (λ e. absurd (omega (arith, e, below, within))) (aside k below) (still k (omega (arith, below, within)))
still_for keys c d i n facing.Group is step still within aside k below = absurd (omega (arith, below, aside))

module _ (keys : ℕ → ℕ → ℕ) where
  -- after a step none up to there owns one
  pub still_on : (moved : Bool) (c d : Configuration Local) (i n : ℕ) (faced : Facing) (before after : List Match) → moved ≡ true → BringsAt keys moved i c d before after → faced ≡ facing_at c.cells i → IsStillTo keys i c → n ≤ i → AreAside d.cells i faced n → IsStillTo keys n d
  still_on moved c d i n faced before after is step faces still within aside =
      still_for keys c d i n faced faces (subst (λ (b : Bool). BringsAt keys b i c d before after) is step).0 still within aside

  lowest_at : (c d : Configuration Local) (n i k : ℕ) → IsStillTo keys k c → i ≤ k → k < i + n → step_of keys local_next c k ≡ Some d
      → (lowest keys local_next c n i ≡ Some d) × (lowest_brought keys local_next statement_line c n i ≡ messages_brought local_next statement_line c k)
  lowest_at c d zero i k still from below step = absurd (omega (arith, from, below))
  lowest_at c d (suc n) i k still from below step =
      ⊎_elim
      (λ (same : i ≡ k).
      let here : step_of keys local_next c i ≡ Some d = subst (λ (x : ℕ). step_of keys local_next c x ≡ Some d) (sym same) step in (
        ap (λ (o : Option (Configuration Local)). option_or o (lowest keys local_next c n (i + 1))) here,
        ap (λ (o : Option (Configuration Local)). cond (is_some o) (messages_brought local_next statement_line c i) (lowest_brought keys local_next statement_line c n (i + 1))) here ∙ ap (messages_brought local_next statement_line c) same,
      ))
      (λ (apart : i ≢ k).
      let none = still i (omega (arith, from, apart)) in
      let rest = lowest_at c d n (i + 1) k still (omega (arith, from, apart)) (omega (arith, below)) step in (
        ap (λ (o : Option (Configuration Local)). option_or o (lowest keys local_next c n (i + 1))) none ∙ rest.0,
        ap (λ (o : Option (Configuration Local)). cond (is_some o) (messages_brought local_next statement_line c i) (lowest_brought keys local_next statement_line c n (i + 1))) none ∙ rest.1,
      ))
      (cases_eq i k)

  -- the step that is taken is that of the lowest owner
  pub took_lowest : (moved : Bool) (c d : Configuration Local) (i : ℕ) (before after : List Match) → moved ≡ true → BringsAt keys moved i c d before after → IsStillTo keys i c → i < length c.cells → BringsLowest keys true c d before after
  took_lowest moved c d i before after is step still within =
      let taken = subst (λ (b : Bool). BringsAt keys b i c d before after) is step in
      let found = lowest_at c d (length c.cells) 0 i still (omega arith) (omega (arith, within)) taken.0 in
      (found.0, taken.1 ∙ ap (λ (l : List Match). before ++ l) (sym found.1))

  -- a rank that owns none is passed over
  pub passed_by : (moved : Bool) (c d : Configuration Local) (i : ℕ) (before after : List Match) → moved ≡ false → BringsAt keys moved i c d before after → IsStillTo keys i c → (d ≡ c) × (after ≡ before) × IsStillTo keys (i + 1) d
  passed_by moved c d i before after is step still =
      let rested = subst (λ (b : Bool). BringsAt keys b i c d before after) is step in (
        rested.1,
        rested.2,
        subst (IsStillTo keys (i + 1)) (sym rested.1) (λ k below.
            ⊎_elim
            (λ (same : k ≡ i). subst (λ (x : ℕ). step_of keys local_next c x ≡ None) (sym same) rested.0)
            (λ (apart : k ≢ i). still k (omega (arith, below, apart)))
            (cases_eq k i)),
      )

  -- and where none of the ranks owns one, none is enabled
  pub none_lowest : (c : Configuration Local) (n : ℕ) → length c.cells ≤ n → IsStillTo keys n c → lowest_step keys local_next c ≡ None
  none_lowest c n all still = runs.complete keys local_next c (λ k.
      ⊎_elim
      (λ (within : k < length c.cells). still k (omega (arith, within, all)))
      (λ (past : length c.cells ≤ k). runs.past_none keys local_next c k past)
      (cases_lt k (length c.cells)))
