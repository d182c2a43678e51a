-- Laws of runs that take the step with the lowest owner, whatever the state of a rank is.
use Rattle.std.proofs.Common.{◌≡◌, ◌≢◌, ℕ, zero, suc, ◌+◌, ◌<◌, ◌≤◌, Bool, true, false, cond, List, [], ◌∷◌, length, get_or, set, Option, Some, None, refl, sym, ap, ◌∙◌, subst, arith, sum_by, slice_get, ◌⊎◌, inl, inr, ⊎_elim}
use Rattle.std.specs.Option.{option_map, option_map_or, option_or}
use Rattle.std.proofs.lemmas.Bool.{cases_eq, cases_lt}
use Rattle.std.proofs.lemmas.List.{length-set, get_or-set_other, set-set}
use Rattle.std.proofs.lemmas.List.Sums.{sum_by-set, sum_by-cons}
use Rattle.std.proofs.lemmas.Option.{slice_get_within, get_or_from_slice_get, slice_get_past, slice_get-get_or, same_Some}
use Rattle.scc_base.specs.Groups.{is_with}
use Rattle.scc_base.proofs.GroupFacts.{with_self}
use Rattle.script_machine.specs.Next.{Next, is_going, is_at_barrier, past_barrier}
use Rattle.script_machine.specs.Next.Next.{Ends, Goes, Posts, Sends, Recvs, Bars}
use Rattle.plain_meaning.specs.Step.{Configuration, next_at, all_at_barrier, by_rank, past_if, step_by, step_of, lowest, lowest_step, run_on}
use Rattle.plain_meaning.proofs.Runs.Costs.{Lowers}
use Rattle.script_machine.proofs.Choices as choices
use Rattle.plain_meaning.proofs.Runs.StepLaws as steps
use Rattle.plain_meaning.proofs.Runs.StepLaws.Takes.{Alone, Left, Met, Fetched, RefusedPost, RefusedSend, Passed}

neither : {A : Type 0} (o p : Option A) → option_or o p ≡ None → (o ≡ None) × (p ≡ None)
neither None p e = (refl, e)
neither (Some x) p e = absurd (cc)

either : {A : Type 0} (o p : Option A) (x : A) → option_or o p ≡ Some x → (o ≡ Some x) ⊎ (p ≡ Some x)
either None p x e = inr e
either (Some y) p x e = inl e

-- what stands next at a rank that is there
pub there : {U : Type 0} (next : U → Next U) (o : Option U) (n : Next U) → option_map_or next o Ends ≡ n → (n ≡ Ends) ⊎ ((u : U) × (o ≡ Some u) × (next u ≡ n))
there next None n is = inl (sym is)
there next (Some u) n is = inr (u, refl, is)

-- each rank's state by its number
pub get-by_rank : {U : Type 0} (change : ℕ → U → U) (us : List U) (k : ℕ) → slice_get (by_rank change us) k ≡ option_map (change k) (slice_get us k)
get-by_rank change [] k = refl
get-by_rank change (u ∷ us) zero = refl
get-by_rank change (u ∷ us) (suc k) = get-by_rank (λ rank. change (suc rank)) us k

pub length-by_rank : {U : Type 0} (change : ℕ → U → U) (us : List U) → length (by_rank change us) ≡ length us
length-by_rank change [] = refl
length-by_rank change (u ∷ us) = ap suc (length-by_rank (λ rank. change (suc rank)) us)

-- a rank that passes the test stands at the barrier at which all such ranks stand
pub stands_there : {U : Type 0} (next : U → Next U) (comm : ℕ) (test : ℕ → Bool) (us : List U) (k : ℕ) (u : U) → all_at_barrier next comm test us ≡ true → test k ≡ true → slice_get us k ≡ Some u → is_at_barrier comm (next u) ≡ true
stands_there next comm test [] k u all member here = absurd (cc)
stands_there next comm test (v ∷ us) zero u all member here =
    let parts = choices.both_true (cond (test 0) (is_at_barrier comm (next v)) true) _ all in
    let same : v ≡ u = same_Some v u here in
    ap (λ (w : _). is_at_barrier comm (next w)) (sym same) ∙ sym (choices.chosen (test 0) (is_at_barrier comm (next v)) true member) ∙ parts.0
stands_there next comm test (v ∷ us) (suc k) u all member here =
    let parts = choices.both_true (cond (test 0) (is_at_barrier comm (next v)) true) _ all in
    stands_there next comm (λ rank. test (suc rank)) us k u parts.1 member here

pub stand_there : {U : Type 0} (next : U → Next U) (comm : ℕ) (test : ℕ → Bool) (us : List U) → ((k : ℕ) (u : U) → test k ≡ true → slice_get us k ≡ Some u → is_at_barrier comm (next u) ≡ true) → all_at_barrier next comm test us ≡ true
stand_there next comm test [] each = refl
stand_there next comm test (v ∷ us) each =
    choices.and_of (cond (test 0) (is_at_barrier comm (next v)) true) _ (first (test 0) refl) (stand_there next comm (λ rank. test (suc rank)) us (λ k u member here. each (suc k) u member here))
  where
    first : (b : Bool) → test 0 ≡ b → cond b (is_at_barrier comm (next v)) true ≡ true
    first true member = each 0 v member refl
    first false member = refl

-- no step at the lowest owner is no step at all
module _ {U : Type 0} (keys : ℕ → ℕ → ℕ) (next : U → Next U) where
  pub lowest_none : (c : Configuration U) (n i k : ℕ) → lowest keys next c n i ≡ None → i ≤ k → k < i + n → step_of keys next c k ≡ None
  lowest_none c zero i k none from below = absurd (omega arith)
  lowest_none c (suc n) i k none from below =
      let parts = neither (step_of keys next c i) (lowest keys next c n (i + 1)) none in
      ⊎_elim (λ (same : i ≡ k). subst (λ (j : ℕ). step_of keys next c j ≡ None) same parts.0)
      (λ (other : i ≡ k → ⊥). lowest_none c n (i + 1) k parts.1 (omega arith) (omega arith))
      (cases_eq i k)

  -- a rank that is not there has no step
  pub past_none : (c : Configuration U) (k : ℕ) → length c.cells ≤ k → step_of keys next c k ≡ None
  past_none c k past = ap (λ o. step_by keys next c k (option_map_or next o Ends)) (slice_get_past c.cells k past)

  -- where no step is enabled at the lowest owner, no rank owns an enabled step
  pub still : (c : Configuration U) → lowest_step keys next c ≡ None → (k : ℕ) → step_of keys next c k ≡ None
  still c none k =
      ⊎_elim (λ (within : k < length c.cells). lowest_none c (length c.cells) 0 k none (omega arith) (omega arith))
      (λ (past : length c.cells ≤ k). past_none c k past)
      (cases_lt k (length c.cells))

  none_by : (c : Configuration U) (n i : ℕ) → ((k : ℕ) → step_of keys next c k ≡ None) → lowest keys next c n i ≡ None
  none_by c zero i none = refl
  none_by c (suc n) i none = ap (λ o. option_or o (lowest keys next c n (i + 1))) (none i) ∙ none_by c n (i + 1) none

  -- and where no rank owns one, none is enabled at the lowest owner
  pub complete : (c : Configuration U) → ((k : ℕ) → step_of keys next c k ≡ None) → lowest_step keys next c ≡ None
  complete c none = none_by c (length c.cells) 0 none

  goes_not : (c : Configuration U) (i : ℕ) (n : Next U) → step_by keys next c i n ≡ None → is_going n ≡ false
  goes_not c i Ends none = refl
  goes_not c i (Goes after) none = absurd (cc)
  goes_not c i (Posts message after) none = refl
  goes_not c i (Sends to head bytes after) none = refl
  goes_not c i (Recvs from head take refuse) none = refl
  goes_not c i (Bars comm after) none = refl

  -- where no step is enabled, no rank goes on by itself
  pub none_going : (c : Configuration U) (i : ℕ) (u : U) → lowest_step keys next c ≡ None → slice_get c.cells i ≡ Some u → is_going (next u) ≡ false
  none_going c i u none here =
      goes_not c i (next u) (sym (ap (λ o. step_by keys next c i (option_map_or next o Ends)) here) ∙ still c none i)

  lowest_some : (c d : Configuration U) (n i : ℕ) → lowest keys next c n i ≡ Some d → (k : ℕ) × (step_of keys next c k ≡ Some d)
  lowest_some c d zero i e = absurd (cc)
  lowest_some c d (suc n) i e =
      ⊎_elim (λ (here : step_of keys next c i ≡ Some d). (i, here))
      (λ (past : lowest keys next c n (i + 1) ≡ Some d). lowest_some c d n (i + 1) past)
      (either (step_of keys next c i) (lowest keys next c n (i + 1)) d e)

  -- the step with the lowest owner is a step of its owner
  pub sound : (c d : Configuration U) → lowest_step keys next c ≡ Some d → (k : ℕ) × (step_of keys next c k ≡ Some d)
  sound c d e = lowest_some c d (length c.cells) 0 e

  -- a rank that owns no step is passed over
  pub lowest_skips : (c : Configuration U) (n m i : ℕ) → n ≡ suc m → step_of keys next c i ≡ None → lowest keys next c n i ≡ lowest keys next c m (i + 1)
  lowest_skips c n m i more none =
      ap (λ (k : ℕ). lowest keys next c k i) more ∙ ap (λ o. option_or o (lowest keys next c m (i + 1))) none

  cells_length : (c d : Configuration U) (i : ℕ) → steps.Takes keys next c i d → length d.cells ≡ length c.cells
  cells_length c d i (Alone after stands made) = rw made (length-set c.cells i after)
  cells_length c d i (Left message after stands slot made) = rw made (length-set c.cells i after)
  cells_length c d i (Met j head bytes after asked take refuse stands slot there same made) =
      rw made (length-set (set c.cells i after) j (take bytes) ∙ length-set c.cells i after)
  cells_length c d i (Fetched j asked take refuse message stands slot mine same made) = rw made (length-set c.cells i (take message.bytes))
  cells_length c d i (RefusedPost j asked take refuse message stands slot mine same made) = rw made (length-set c.cells i (refuse message.head))
  cells_length c d i (RefusedSend j asked take refuse sent bytes after stands slot there same made) = rw made (length-set c.cells i (refuse sent))
  cells_length c d i (Passed comm after stands root all made) = rw made (length-by_rank _ c.cells)

  slots_length : (c d : Configuration U) (i : ℕ) → steps.Takes keys next c i d → length d.slots ≡ length c.slots
  slots_length c d i (Alone after stands made) = rw made refl
  slots_length c d i (Left message after stands slot made) = rw made (length-set c.slots i (Some message))
  slots_length c d i (Met j head bytes after asked take refuse stands slot there same made) = rw made refl
  slots_length c d i (Fetched j asked take refuse message stands slot mine same made) = rw made (length-set c.slots j None)
  slots_length c d i (RefusedPost j asked take refuse message stands slot mine same made) = rw made refl
  slots_length c d i (RefusedSend j asked take refuse sent bytes after stands slot there same made) = rw made refl
  slots_length c d i (Passed comm after stands root all made) = rw made refl

  -- a step keeps the ranks and the slots
  pub length-step : (c d : Configuration U) (i : ℕ) → step_of keys next c i ≡ Some d → (length d.cells ≡ length c.cells) × (length d.slots ≡ length c.slots)
  length-step c d i step =
      let kind = steps.seen keys next c d i step in (cells_length c d i kind, slots_length c d i kind)

  run_length_by : (n : ℕ) (c : Configuration U) (o : Option (Configuration U)) → lowest_step keys next c ≡ o → ((d : Configuration U) → length (run_on keys next n d).cells ≡ length d.cells) → length (option_map_or (run_on keys next n) o c).cells ≡ length c.cells
  run_length_by n c None e rest = refl
  run_length_by n c (Some d) e rest = let owned = sound c d e in rest d ∙ (length-step c d owned.0 owned.1).0

  -- a run keeps the ranks
  pub length-run_on : (n : ℕ) (c : Configuration U) → length (run_on keys next n c).cells ≡ length c.cells
  length-run_on zero c = refl
  length-run_on (suc n) c = run_length_by n c (lowest_step keys next c) refl (length-run_on n)

-- a step in which one rank's state changes to one that has less left
falls_at : {U : Type 0} (cost : U → ℕ) (c : List U) (i : ℕ) (u v : U) → slice_get c i ≡ Some u → cost v < cost u → sum_by cost (set c i v) < sum_by cost c
falls_at cost c i u v here less =
    let within : i < length c = slice_get_within c i u here in
    let was : get_or c i u ≡ u = get_or_from_slice_get c i u u here in
    omega (arith, sum_by-set cost c i v u within, ap cost was)

-- a write elsewhere leaves an element as it was
get_other : {U : Type 0} (c : List U) (i j : ℕ) (v w : U) → j ≢ i → slice_get c j ≡ Some w → slice_get (set c i v) j ≡ Some w
get_other c i j v w apart here =
    let within : j < length c = slice_get_within c j w here in
    let kept : j < length (set c i v) = omega (arith, length-set c i v) in
    slice_get-get_or (set c i v) j w kept ∙ ap Some (get_or-set_other c i j v w apart ∙ get_or_from_slice_get c j w w here)

-- two ranks' states change to ones that have less left
falls_at_both : {U : Type 0} (cost : U → ℕ) (c : List U) (i j : ℕ) (u w v x : U) → slice_get c i ≡ Some u → slice_get c j ≡ Some w → cost v < cost u → cost x < cost w → sum_by cost (set (set c i v) j x) < sum_by cost c
falls_at_both cost c i j u w v x at_i at_j less_i less_j =
    ⊎_elim (λ (same : j ≡ i).
    let there : slice_get c i ≡ Some w = subst (λ (k : ℕ). slice_get c k ≡ Some w) same at_j in
    let once : set (set c i v) j x ≡ set c i x = ap (λ (k : ℕ). set (set c i v) k x) same ∙ set-set c i v x in
    rw once (falls_at cost c i w x there less_j))
    (λ (apart : j ≡ i → ⊥).
    let first : sum_by cost (set c i v) < sum_by cost c = falls_at cost c i u v at_i less_i in
    let second : sum_by cost (set (set c i v) j x) < sum_by cost (set c i v) =
    falls_at cost (set c i v) j w x (get_other c i j v w apart at_j) less_j in
    omega (arith, first, second))
    (cases_eq j i)

-- no rank has more left, and one has less
kept_sum : {U : Type 0} (cost : U → ℕ) (change : ℕ → U → U) (us : List U) → ((k : ℕ) (u : U) → cost (change k u) ≤ cost u) → sum_by cost (by_rank change us) ≤ sum_by cost us
kept_sum cost change [] each = omega arith
kept_sum cost change (u ∷ us) each =
    let rest = kept_sum cost (λ rank. change (suc rank)) us (λ k v. each (suc k) v) in
    let first = each 0 u in
    omega (arith, rest, first, sum_by-cons cost (change 0 u) (by_rank (λ rank. change (suc rank)) us), sum_by-cons cost u us)

less_sum : {U : Type 0} (cost : U → ℕ) (change : ℕ → U → U) (us : List U) (i : ℕ) (v : U) → ((k : ℕ) (u : U) → cost (change k u) ≤ cost u) → slice_get us i ≡ Some v → cost (change i v) < cost v → sum_by cost (by_rank change us) < sum_by cost us
less_sum cost change [] i v each here less = absurd (cc)
less_sum cost change (u ∷ us) zero v each here less =
    let rest = kept_sum cost (λ rank. change (suc rank)) us (λ k w. each (suc k) w) in
    let same : u ≡ v = same_Some u v here in
    let first : cost (change 0 u) < cost u = rw same less in
    omega (arith, rest, first, sum_by-cons cost (change 0 u) (by_rank (λ rank. change (suc rank)) us), sum_by-cons cost u us)
less_sum cost change (u ∷ us) (suc i) v each here less =
    let rest = less_sum cost (λ rank. change (suc rank)) us i v (λ k w. each (suc k) w) here less in
    let first = each 0 u in
    omega (arith, rest, first, sum_by-cons cost (change 0 u) (by_rank (λ rank. change (suc rank)) us), sum_by-cons cost u us)

module _ {U : Type 0} (keys : ℕ → ℕ → ℕ) (next : U → Next U) (cost : U → ℕ) (lowers : (u : U) → Lowers cost (cost u) (next u)) where
  -- a rank that stands at something is there, and less is left after it
  standing : (c : Configuration U) (i : ℕ) (n : Next U) → next_at next c i ≡ n → (n ≡ Ends → ⊥) → (u : U) × (slice_get c.cells i ≡ Some u) × Lowers cost (cost u) n
  standing c i n stands is_some =
      ⊎_elim (λ (ends : n ≡ Ends). absurd (is_some ends))
      (λ (here : (u : U) × (slice_get c.cells i ≡ Some u) × (next u ≡ n)). (here.0, here.1, subst (Lowers cost (cost here.0)) here.2 (lowers here.0)))
      (there next (slice_get c.cells i) n stands)

  past_kept : (b : Bool) (u : U) (n : Next U) → Lowers cost (cost u) n → cost (cond b (past_barrier n u) u) ≤ cost u
  past_kept false u n low = omega arith
  past_kept true u Ends low = omega arith
  past_kept true u (Goes after) low = omega arith
  past_kept true u (Posts message after) low = omega arith
  past_kept true u (Sends to head bytes after) low = omega arith
  past_kept true u (Recvs from head take refuse) low = omega arith
  past_kept true u (Bars comm after) low = omega (arith, low)

  falls_kind : (c d : Configuration U) (i : ℕ) → steps.Takes keys next c i d → sum_by cost d.cells < sum_by cost c.cells
  falls_kind c d i (Alone after stands made) =
      let here = standing c i (Goes after) stands (λ e. cc) in
      rw made (falls_at cost c.cells i here.0 after here.1 here.2)
  falls_kind c d i (Left message after stands slot made) =
      let here = standing c i (Posts message after) stands (λ e. cc) in
      rw made (falls_at cost c.cells i here.0 after here.1 here.2)
  falls_kind c d i (Met j head bytes after asked take refuse stands slot meets same made) =
      let here = standing c i (Sends j head bytes after) stands (λ e. cc) in
      let peer = standing c j (Recvs i asked take refuse) meets (λ e. cc) in
      rw made (falls_at_both cost c.cells i j here.0 peer.0 after (take bytes) here.1 peer.1 here.2 (peer.2.0 bytes))
  falls_kind c d i (Fetched j asked take refuse message stands slot mine same made) =
      let here = standing c i (Recvs j asked take refuse) stands (λ e. cc) in
      rw made (falls_at cost c.cells i here.0 (take message.bytes) here.1 (here.2.0 message.bytes))
  falls_kind c d i (RefusedPost j asked take refuse message stands slot mine same made) =
      let here = standing c i (Recvs j asked take refuse) stands (λ e. cc) in
      rw made (falls_at cost c.cells i here.0 (refuse message.head) here.1 (here.2.1 message.head))
  falls_kind c d i (RefusedSend j asked take refuse sent bytes after stands slot meets same made) =
      let here = standing c i (Recvs j asked take refuse) stands (λ e. cc) in
      rw made (falls_at cost c.cells i here.0 (refuse sent) here.1 (here.2.1 sent))
  falls_kind c d i (Passed comm after stands root all made) =
      let group : ℕ → Bool = is_with (keys comm) i in
      let here = ⊎_elim (λ (ends : Bars comm after ≡ Ends). absurd (cc)) (λ (h : (u : U) × (slice_get c.cells i ≡ Some u) × (next u ≡ Bars comm after)). h) (there next (slice_get c.cells i) (Bars comm after) stands) in
      let low : Lowers cost (cost here.0) (Bars comm after) = subst (Lowers cost (cost here.0)) here.2 (lowers here.0) in
      let passes : past_if next (group i) here.0 ≡ after = choices.chosen (group i) (past_barrier (next here.0) here.0) here.0 (with_self (keys comm) i) ∙ ap (λ (n : Next U). past_barrier n here.0) here.2 in
      rw made (less_sum cost (λ rank. past_if next (group rank)) c.cells i here.0 (λ k u. past_kept (group k) u (next u) (lowers u)) here.1 (rw passes low))

  -- each step lowers what is left
  pub falls : (c d : Configuration U) (i : ℕ) → step_of keys next c i ≡ Some d → sum_by cost d.cells < sum_by cost c.cells
  falls c d i step = falls_kind c d i (steps.seen keys next c d i step)

  pub falls_lowest : (c d : Configuration U) → lowest_step keys next c ≡ Some d → sum_by cost d.cells < sum_by cost c.cells
  falls_lowest c d step = let owned = sound keys next c d step in falls c d owned.0 owned.1

  stopped_by : (n : ℕ) (c : Configuration U) (o : Option (Configuration U)) → lowest_step keys next c ≡ o → sum_by cost c.cells ≤ suc n → ((d : Configuration U) → sum_by cost d.cells ≤ n → lowest_step keys next (run_on keys next n d) ≡ None) → lowest_step keys next (option_map_or (run_on keys next n) o c) ≡ None
  stopped_by n c None e enough rest = e
  stopped_by n c (Some d) e enough rest = rest d (omega (arith, falls_lowest c d e))

  -- where nothing is left, no step is enabled
  none_left : (c : Configuration U) (o : Option (Configuration U)) → sum_by cost c.cells ≤ 0 → lowest_step keys next c ≡ o → lowest_step keys next c ≡ None
  none_left c None none e = e
  none_left c (Some d) none e = absurd (omega (arith, falls_lowest c d e))

  -- as many steps as are left come to an end
  pub stopped : (n : ℕ) (c : Configuration U) → sum_by cost c.cells ≤ n → lowest_step keys next (run_on keys next n c) ≡ None
  stopped zero c enough = none_left c (lowest_step keys next c) enough refl
  stopped (suc n) c enough = stopped_by n c (lowest_step keys next c) refl enough (stopped n)

  same_by : (n m : ℕ) (c : Configuration U) (o : Option (Configuration U)) → lowest_step keys next c ≡ o → sum_by cost c.cells ≤ suc n → sum_by cost c.cells ≤ suc m → ((d : Configuration U) → sum_by cost d.cells ≤ n → sum_by cost d.cells ≤ m → run_on keys next n d ≡ run_on keys next m d) → option_map_or (run_on keys next n) o c ≡ option_map_or (run_on keys next m) o c
  same_by n m c None e fits other rest = refl
  same_by n m c (Some d) e fits other rest =
      let less : sum_by cost d.cells < sum_by cost c.cells = falls_lowest c d e in
      rest d (omega (arith, less)) (omega (arith, less))

  -- more steps than are left change nothing
  pub no_more : (n : ℕ) (c : Configuration U) → lowest_step keys next c ≡ None → run_on keys next n c ≡ c
  no_more zero c none = refl
  no_more (suc n) c none = ap (λ (o : Option (Configuration U)). option_map_or (run_on keys next n) o c) none

  -- any two numbers of steps that are enough come to one end
  pub enough : (n m : ℕ) (c : Configuration U) → sum_by cost c.cells ≤ n → sum_by cost c.cells ≤ m → run_on keys next n c ≡ run_on keys next m c
  enough zero m c fits other = sym (no_more m c (none_left c (lowest_step keys next c) fits refl))
  enough (suc n) zero c fits other = no_more (suc n) c (none_left c (lowest_step keys next c) other refl)
  enough (suc n) (suc m) c fits other = same_by n m c (lowest_step keys next c) refl fits other (enough n m)
