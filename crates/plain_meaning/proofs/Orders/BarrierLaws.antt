-- The members of a group finish its barriers together.
use Rattle.std.proofs.Common.{◌≡◌, ◌≢◌, ℕ, zero, suc, ◌+◌, ◌==◌, Bool, true, false, cond, if◌then◌else◌, ◌&&◌, List, [], ◌∷◌, ◌++◌, set, Option, Some, None, refl, sym, ap, ◌∙◌, subst, arith, slice_get, ⊎_elim}
use Rattle.std.specs.List.{count_by, range_with_len}
use Rattle.std.specs.Option.{option_map}
use Rattle.std.proofs.lemmas.Bool.{eqb-true}
use Rattle.std.proofs.lemmas.Grind.{common_steps}
use Rattle.std.proofs.lemmas.Option.{same_Some, slice_get-map}
use Rattle.scc_base.specs.Calls.{DataCall}
use Rattle.scc_base.specs.Calls.DataCall.{Send, Recv, Post, Bar}
use Rattle.scc_base.specs.Groups.{is_with}
use Rattle.scc_base.specs.Heads.{MessageHead}
use Rattle.scc_base.specs.Runs.{EndsAt, Runs}
use Rattle.scc_base.proofs.Confluence.{other_end}
use Rattle.script_rules.specs.Script.{Script}
use Rattle.plain_meaning.specs.Barriers.{AreMet, finished_barriers, is_barrier}
use Rattle.script_machine.specs.Local.{Local, local_next, local_start}
use Rattle.plain_meaning.specs.Meaning.{IsPlainStep, State, keys_of, next_of, plain_end, next_with_calls, start_of, steps_left}
use Rattle.script_machine.specs.Next.{Next, is_at_barrier, past_barrier}
use Rattle.script_machine.specs.Next.Next.{Ends, Goes, Posts, Sends, Recvs, Bars}
use Rattle.plain_meaning.specs.Step.{Configuration, next_at, all_at_barrier, by_rank, past_if, step_of}
use Rattle.plain_meaning.proofs.Orders.EndLaws.{reached}
use Rattle.plain_meaning.proofs.Orders.OrderLaws.{different, get_set}
use Rattle.plain_meaning.proofs.Runs.PlainLaws.{plain_end_still}
use Rattle.plain_meaning.proofs.Runs.RunLaws.{get-by_rank, stands_there, there}
use Rattle.script_machine.proofs.Choices as choices
use Rattle.plain_meaning.proofs.Runs.StepLaws as steps
use Rattle.plain_meaning.proofs.Runs.StepLaws.Takes.{Alone, Left, Met, Fetched, RefusedPost, RefusedSend, Passed}

abbrev pub one_if : Bool → ℕ
one_if b = cond b 1 0

-- whatever comes next, a count of finished barriers rises at a barrier of the communicator and nowhere else
abbrev pub Counts : {U : Type 0} → (U → ℕ) → ℕ → ℕ → Next U → Type 0
Counts count comm m Ends = Unit {0}
Counts count comm m (Goes after) = count after ≡ m
Counts count comm m (Posts message after) = count after ≡ m
Counts count comm m (Sends to head bytes after) = count after ≡ m
Counts count comm m (Recvs from head take refuse) = ((bytes : List ℕ) → count (take bytes) ≡ m) × ((sent : MessageHead) → count (refuse sent) ≡ m)
Counts count comm m (Bars asked after) = count after ≡ m + one_if (asked == comm)

and_true : (b : Bool) → (b && true) ≡ b
and_true true = refl
and_true false = refl

and_false : (b : Bool) → (b && false) ≡ false
and_false true = refl
and_false false = refl

module _ {U : Type 0} (keys : ℕ → ℕ → ℕ) (next : U → Next U) (count : ℕ → U → ℕ) (counts : (comm : ℕ) (u : U) → Counts (count comm) comm (count comm u) (next u)) where
  -- each rank's count rises by the same for all members of a group
  record Rises (c d : Configuration U) : Type 0 where
    rise : ℕ → ℕ → ℕ
    grouped : (comm k j : ℕ) → keys comm k ≡ keys comm j → rise comm k ≡ rise comm j
    counted : (comm k : ℕ) (v : U) → slice_get d.cells k ≡ Some v → (u : U) × (slice_get c.cells k ≡ Some u) × (count comm v ≡ count comm u + rise comm k)

  set_counted : (us : List U) (i : ℕ) (v w : U) → slice_get us i ≡ Some w → ((comm : ℕ) → count comm v ≡ count comm w) → (comm k : ℕ) (x : U) → slice_get (set us i v) k ≡ Some x → (u : U) × (slice_get us k ≡ Some u) × (count comm x ≡ count comm u + 0)
  set_counted us i v w here same comm k x is = by (slice_get us k) refl (sym (get_set us i v k) ∙ is)
    where
      written : (u : U) → slice_get us k ≡ Some u → (b : Bool) → (k == i) ≡ b → (if b then v else u) ≡ x → count comm x ≡ count comm u + 0
      written u at true equals new =
          let was : w ≡ u = same_Some w u (sym here ∙ ap (slice_get us) (sym (eqb-true k i equals)) ∙ at) in
          let now : count comm x ≡ count comm u = ap (count comm) (sym new) ∙ same comm ∙ ap (count comm) was in
          omega (arith, now)
      written u at false differs new = let now : count comm x ≡ count comm u = ap (count comm) (sym new) in omega (arith, now)

      by : (o : Option U) → slice_get us k ≡ o → option_map (λ u. if k == i then v else u) o ≡ Some x → (u : U) × (slice_get us k ≡ Some u) × (count comm x ≡ count comm u + 0)
      by None at new = absurd (cc)
      by (Some u) at new = (u, at, written u at (k == i) refl (same_Some (if k == i then v else u) x new))

  -- what stands at a rank, and its count
  standing : (c : Configuration U) (i : ℕ) (n : Next U) → next_at next c i ≡ n → (n ≡ Ends → ⊥) → (u : U) × (slice_get c.cells i ≡ Some u) × ((comm : ℕ) → Counts (count comm) comm (count comm u) n)
  standing c i n stands is_some =
      ⊎_elim
      (λ (ends : n ≡ Ends). absurd (is_some ends))
      (λ (here : (u : U) × (slice_get c.cells i ≡ Some u) × (next u ≡ n)).
      (here.0, here.1, λ comm. subst (Counts (count comm) comm (count comm here.0)) here.2 (counts comm here.0)))
      (there next (slice_get c.cells i) n stands)

  flat : (c d : Configuration U) → ((comm k : ℕ) (v : U) → slice_get d.cells k ≡ Some v → (u : U) × (slice_get c.cells k ≡ Some u) × (count comm v ≡ count comm u + 0)) → Rises c d
  flat c d each = record { rise = λ comm k. 0; grouped = λ comm k j same. refl; counted = each }

  passed_counts : (asked comm m : ℕ) (u : U) (n : Next U) → Counts (count comm) comm m n → is_at_barrier asked n ≡ true → count comm (past_barrier n u) ≡ m + one_if (asked == comm)
  passed_counts asked comm m u Ends low is = absurd (cc)
  passed_counts asked comm m u (Goes after) low is = absurd (cc)
  passed_counts asked comm m u (Posts message after) low is = absurd (cc)
  passed_counts asked comm m u (Sends to head bytes after) low is = absurd (cc)
  passed_counts asked comm m u (Recvs from head take refuse) low is = absurd (cc)
  passed_counts asked comm m u (Bars other after) low is =
      low ∙ ap (λ (x : ℕ). m + one_if (x == comm)) (eqb-true other asked is)

  barrier_rises : (c d : Configuration U) (i asked : ℕ) → all_at_barrier next asked (is_with (keys asked) i) c.cells ≡ true → d ≡ record c { cells = by_rank (λ rank. past_if next (is_with (keys asked) i rank)) c.cells } → Rises c d
  barrier_rises c d i asked all made = record {
    rise = λ comm k. one_if ((asked == comm) && is_with (keys asked) i k);
    grouped = λ comm k j same. by_comm comm k j same (asked == comm) refl;
    counted = λ comm k v is. by_cell comm k v (slice_get c.cells k) refl (sym (get-by_rank (λ rank. past_if next (is_with (keys asked) i rank)) c.cells k) ∙ ap (λ (x : Configuration U). slice_get x.cells k) (sym made) ∙ is);
  }
    where
      by_comm : (comm k j : ℕ) → keys comm k ≡ keys comm j → (b : Bool) → (asked == comm) ≡ b → one_if (b && is_with (keys asked) i k) ≡ one_if (b && is_with (keys asked) i j)
      by_comm comm k j same true is =
          let here : keys asked k ≡ keys asked j = subst (λ (x : ℕ). keys x k ≡ keys x j) (sym (eqb-true asked comm is)) same in
          ap (λ (x : ℕ). one_if (x == keys asked i)) here
      by_comm comm k j same false is = refl

      member : (comm k : ℕ) (u : U) → slice_get c.cells k ≡ Some u → (b : Bool) → is_with (keys asked) i k ≡ b → count comm (past_if next b u) ≡ count comm u + one_if ((asked == comm) && b)
      member comm k u at true is =
          passed_counts asked comm (count comm u) u (next u) (counts comm u) (stands_there next asked (is_with (keys asked) i) c.cells k u all is at)
          ∙ ap (λ (b : Bool). count comm u + one_if b) (sym (and_true (asked == comm)))
      member comm k u at false is =
          let none : one_if ((asked == comm) && false) ≡ 0 = ap (λ (b : Bool). one_if b) (and_false (asked == comm)) in omega (arith, none)

      by_cell : (comm k : ℕ) (v : U) (o : Option U) → slice_get c.cells k ≡ o → option_map (past_if next (is_with (keys asked) i k)) o ≡ Some v → (u : U) × (slice_get c.cells k ≡ Some u) × (count comm v ≡ count comm u + one_if ((asked == comm) && is_with (keys asked) i k))
      by_cell comm k v None at is = absurd (cc)
      by_cell comm k v (Some u) at is =
          (u, at, ap (count comm) (sym (same_Some (past_if next (is_with (keys asked) i k) u) v is)) ∙ member comm k u at (is_with (keys asked) i k) refl)

  rises : (c d : Configuration U) (i : ℕ) → steps.Takes keys next c i d → Rises c d
  rises c d i (Alone after stands made) =
      let here = standing c i (Goes after) stands (λ e. cc) in
      subst (Rises c) (sym made) (flat c _ (set_counted c.cells i after here.0 here.1 here.2))
  rises c d i (Left message after stands slot made) =
      let here = standing c i (Posts message after) stands (λ e. cc) in
      subst (Rises c) (sym made) (flat c _ (set_counted c.cells i after here.0 here.1 here.2))
  rises c d i (Met j head bytes after asked take refuse stands slot meets same made) =
      let here = standing c i (Sends j head bytes after) stands (λ e. cc) in
      let peer = standing c j (Recvs i asked take refuse) meets (λ e. cc) in
      let apart : j ≢ i = λ e. let both : Recvs i asked take refuse ≡ Sends j head bytes after = sym meets ∙ ap (next_at next c) e ∙ stands in cc in
      let left : slice_get (set c.cells i after) j ≡ Some peer.0 =
      get_set c.cells i after j ∙ ap (option_map (λ u. if j == i then after else u)) peer.1 ∙ ap Some (choices.other (j == i) after peer.0 (different j i apart)) in
      subst (Rises c) (sym made) (flat c _ (λ comm k v is.
      let (u, at, first) = set_counted (set c.cells i after) j (take bytes) peer.0 left (λ x. (peer.2 x).0 bytes) comm k v is in
      let (w, was, second) = set_counted c.cells i after here.0 here.1 here.2 comm k u at in
      (w, was, omega (arith, first, second))))
  rises c d i (Fetched j asked take refuse message stands slot mine same made) =
      let here = standing c i (Recvs j asked take refuse) stands (λ e. cc) in
      subst (Rises c) (sym made) (flat c _ (set_counted c.cells i (take message.bytes) here.0 here.1 (λ comm. (here.2 comm).0 message.bytes)))
  rises c d i (RefusedPost j asked take refuse message stands slot mine same made) =
      let here = standing c i (Recvs j asked take refuse) stands (λ e. cc) in
      subst (Rises c) (sym made) (flat c _ (set_counted c.cells i (refuse message.head) here.0 here.1 (λ comm. (here.2 comm).1 message.head)))
  rises c d i (RefusedSend j asked take refuse sent bytes after stands slot meets same made) =
      let here = standing c i (Recvs j asked take refuse) stands (λ e. cc) in
      subst (Rises c) (sym made) (flat c _ (set_counted c.cells i (refuse sent) here.0 here.1 (λ comm. (here.2 comm).1 sent)))
  rises c d i (Passed comm after stands root all made) = barrier_rises c d i comm all made

  -- all members of a group have one count
  abbrev AreEven : Configuration U → Type 0
  AreEven c = (comm k j : ℕ) (u v : U) → slice_get c.cells k ≡ Some u → slice_get c.cells j ≡ Some v → keys comm k ≡ keys comm j → count comm u ≡ count comm v

  even_after : (c d : Configuration U) → Rises c d → AreEven c → AreEven d
  even_after c d up even comm k j v w at_k at_j same =
      let (u, was, one) = up.counted comm k v at_k in
      let (x, were, two) = up.counted comm j w at_j in
      let before : count comm u ≡ count comm x = even comm k j u x was were same in
      let by : up.rise comm k ≡ up.rise comm j = up.grouped comm k j same in
      omega (arith, one, two, before, by)

  even_runs : (n : ℕ) (c d : Configuration U) → Runs (λ a x y. step_of keys next x a ≡ Some y) (λ e. e ≡ d) n c → AreEven c → AreEven d
  even_runs zero c d same even = subst AreEven same even
  even_runs (suc n) c d (a, t, step, rest) even =
      even_runs n t d rest (even_after c t (rises c t a (steps.seen keys next c t a step)) even)

-- one call more
one_call : (comm : ℕ) (calls : List DataCall) (call : DataCall) → count_by (is_barrier comm) (calls ++ call ∷ []) ≡ count_by (is_barrier comm) calls + one_if (is_barrier comm call)
one_call comm calls call = grind (arith, common_steps)

recorded_counts : (comm : ℕ) (calls : List DataCall) (n : Next Local) → Counts (finished_barriers comm) comm (count_by (is_barrier comm) calls) (next_with_calls calls n)
recorded_counts comm calls Ends = tt
recorded_counts comm calls (Goes after) = refl
recorded_counts comm calls (Posts message after) = one_call comm calls (Post message.to message.head message.bytes) ∙ omega arith
recorded_counts comm calls (Sends to head bytes after) = one_call comm calls (Send to head bytes) ∙ omega arith
recorded_counts comm calls (Recvs from head take refuse) = ((λ bytes. one_call comm calls (Recv from head bytes) ∙ omega arith), λ sent. refl)
recorded_counts comm calls (Bars asked after) = one_call comm calls (Bar asked)

state_counts : (comm : ℕ) (u : State) → Counts (finished_barriers comm) comm (finished_barriers comm u) (next_of u)
state_counts comm u = recorded_counts comm u.matched (local_next u.local)

-- at the start no barrier is finished
start_by : (script : Script) (comm k : ℕ) (u : State) → slice_get (start_of script).cells k ≡ Some u → finished_barriers comm u ≡ 0
start_by script comm k u here =
    by (slice_get (range_with_len 0 script.nue) k)
    (sym (slice_get-map (λ (rank : ℕ). record { local = local_start script rank; matched = [] }) (range_with_len 0 script.nue) k) ∙ here)
  where
    by : (o : Option ℕ) → option_map (λ (rank : ℕ). record { local = local_start script rank; matched = [] }) o ≡ Some u → finished_barriers comm u ≡ 0
    by None is = absurd (cc)
    by (Some rank) is = ap (finished_barriers comm) (sym (same_Some (record { local = local_start script rank; matched = [] }) u is))

start_even : (script : Script) (comm k j : ℕ) (u v : State) → slice_get (start_of script).cells k ≡ Some u → slice_get (start_of script).cells j ≡ Some v → keys_of script comm k ≡ keys_of script comm j → finished_barriers comm u ≡ finished_barriers comm v
start_even script comm k j u v at_k at_j same = start_by script comm k u at_k ∙ sym (start_by script comm j v at_j)

-- wherever steps lead from the start
pub met : (script : Script) (n : ℕ) (c : Configuration State) → Runs (IsPlainStep (keys_of script)) (λ e. e ≡ c) n (start_of script) → AreMet (keys_of script) c
met script n c run comm i j u v at_i at_j same =
    let even = even_runs (keys_of script) next_of finished_barriers state_counts n (start_of script) c run (start_even script) in
    let one = even comm i j u v at_i at_j same in
    omega (arith, one)

-- and so at the plain end
pub plain_end_met : (script : Script) → AreMet (keys_of script) (plain_end script)
plain_end_met script =
    let (n, run) = reached (keys_of script) next_of (steps_left (start_of script)) (start_of script) (plain_end_still script) in
    met script n (plain_end script) (other_end (IsPlainStep (keys_of script)) (EndsAt (IsPlainStep (keys_of script)) (plain_end script)) (λ e. e ≡ plain_end script) (λ s end. end.0) n (start_of script) run)
