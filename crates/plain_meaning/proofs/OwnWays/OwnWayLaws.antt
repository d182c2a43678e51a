-- Each rank's calls are those of its own way from the start.
use Rattle.std.proofs.Common.{◌≡◌, ◌≢◌, ℕ, zero, suc, ◌+◌, Bool, true, false, List, [], ◌∷◌, ◌++◌, set, Option, Some, None, refl, sym, ap, ◌∙◌, subst, arith, slice_get, ◌⊎◌, inl, inr, ⊎_elim}
use Rattle.std.specs.List.{range_with_len}
use Rattle.std.specs.Option.{option_map}
use Rattle.std.proofs.lemmas.Bool.{cases_eq}
use Rattle.std.proofs.lemmas.Option.{same_Some, slice_get-map}
use Rattle.scc_base.specs.Groups.{is_with}
use Rattle.scc_base.specs.Heads.{MessageHead}
use Rattle.scc_base.specs.Runs.{Runs}
use Rattle.script_rules.specs.Script.{Script}
use Rattle.plain_meaning.specs.Collectives.{AreOwnWays, gone_by, gone_through, start_of_rank}
use Rattle.scc_base.specs.Calls.{DataCall}
use Rattle.script_machine.specs.Program.{Act, Prim}
use Rattle.script_machine.specs.Local.{Local, local_next, next_by_act, next_by_prim, prim_by_standing}
use Rattle.plain_meaning.specs.Meaning.{IsPlainStep, State, keys_of, next_of, next_with_calls, start_of}
use Rattle.script_machine.specs.Next.{Next, is_at_barrier, past_barrier}
use Rattle.script_machine.specs.Next.Next.{Ends, Goes, Posts, Sends, Recvs, Bars}
use Rattle.plain_meaning.specs.Step.{Configuration, next_at, all_at_barrier, by_rank, past_if}
use Rattle.plain_meaning.proofs.Collectives.CollectivePaths.{through_both}
use Rattle.plain_meaning.proofs.Messages.MessageLaws.{Logs, cell_other, cell_there, logs}
use Rattle.plain_meaning.proofs.Runs.RunLaws.{get-by_rank, stands_there, there}
use Rattle.script_machine.proofs.StoppedLaws.{StopsAt, stopped_ends, stops_next}
use Rattle.plain_meaning.proofs.Runs.StepLaws as steps
use Rattle.plain_meaning.proofs.Runs.StepLaws.Takes.{Alone, Left, Met, Fetched, RefusedPost, RefusedSend, Passed}

-- a rank has done the calls of a state, and as much of its program is left
abbrev pub IsAsFar : State → State → Type 0
IsAsFar u v = (u.matched ≡ v.matched) × (u.local.left ≡ v.local.left)

-- a rank has gone its own way from where it started, up to a mismatch
abbrev pub IsOwn : State → State → Type 0
IsOwn start u = ((path : List (List ℕ)) × (u ≡ gone_through path start)) ⊎ ((next_of u ≡ Ends) × (path : List (List ℕ)) × IsAsFar u (gone_through path start))

-- one step more
own_more : (start u : State) (bytes : List ℕ) (n : Next State) → next_of u ≡ n → (n ≡ Ends → ⊥) → IsOwn start u → IsOwn start (gone_by bytes u n)
own_more start u bytes n is goes (inl (path, same)) =
    inl (path ++ bytes ∷ [], ap (gone_by bytes u) (sym is) ∙ ap (λ (v : State). gone_by bytes v (next_of v)) same ∙ sym (through_both path (bytes ∷ []) start))
own_more start u bytes n is goes (inr (ends, path, same)) = absurd (goes (sym is ∙ ends))

-- a rank that refuses a message stops
abbrev Stops : Next State → Type 0
Stops (Recvs from head take refuse) = (sent : MessageHead) → next_of (refuse sent) ≡ Ends
Stops _ = Unit {0}

stops : (calls : List DataCall) (n : Next Local) → StopsAt n → Stops (next_with_calls calls n)
stops calls Ends each = tt
stops calls (Goes after) each = tt
stops calls (Posts message after) each = tt
stops calls (Sends to head bytes after) each = tt
stops calls (Recvs from head take refuse) each = λ sent. ap (next_with_calls calls) (stopped_ends (refuse sent) (each sent))
stops calls (Bars comm after) each = tt

-- and uses up no primitive
abbrev Stays : List Prim → Next State → Type 0
Stays left (Recvs from head take refuse) = (sent : MessageHead) → (refuse sent).local.left ≡ left
Stays left _ = Unit {0}

stays_act : (u : State) (line : ℕ) (a : Act) → Stays u.local.left (next_with_calls u.matched (next_by_act u.local line a))
stays_act u line (Act.Recv from reg head) = λ sent. refl
stays_act u line (Act.Gather from head sized) = λ sent. refl
stays_act u line _ = tt

stays_prim : (u : State) (o : Option Prim) → Stays u.local.left (next_with_calls u.matched (next_by_prim u.local o))
stays_prim u None = tt
stays_prim u (Some prim) = stays_act u prim.line prim.act

stays_next : (u : State) → Stays u.local.left (next_of u)
unfolding local_next
stays_next u = stays_prim u (prim_by_standing u.local.standing u.local.left)

-- what stands at a rank
pub stands : (c : Configuration State) (i : ℕ) (n : Next State) → next_at next_of c i ≡ n → (n ≡ Ends → ⊥) → (u : State) × (slice_get c.cells i ≡ Some u) × (next_of u ≡ n)
stands c i n at is_some =
    ⊎_elim
    (λ (ends : n ≡ Ends). absurd (is_some ends))
    (λ (here : (u : State) × (slice_get c.cells i ≡ Some u) × (next_of u ≡ n)). here)
    (there next_of (slice_get c.cells i) n at)

own_refused : (start u : State) (from : ℕ) (head : MessageHead) (take : List ℕ → State) (refuse : MessageHead → State) (sent : MessageHead) → next_of u ≡ Recvs from head take refuse → IsOwn start u → IsOwn start (refuse sent)
own_refused start u from head take refuse sent is own =
    inr (subst Stops is (stops u.matched (local_next u.local) (stops_next u.local)) sent, (way own).0, (way own).1)
  where
    same : (refuse sent).matched ≡ u.matched
    same = (subst (Logs u.matched) is (logs u.matched (local_next u.local))).1 sent

    left : (refuse sent).local.left ≡ u.local.left
    left = subst (Stays u.local.left) is (stays_next u) sent

    way : IsOwn start u → (path : List (List ℕ)) × IsAsFar (refuse sent) (gone_through path start)
    way (inl (path, is_there)) = (path, (same ∙ ap (λ (x : State). x.matched) is_there, left ∙ ap (λ (x : State). x.local.left) is_there))
    way (inr (ends, path, is_there)) = (path, (same ∙ is_there.0, left ∙ is_there.1))

module _ (S : ℕ → State) where
  abbrev AllOwn : List State → Type 0
  AllOwn us = (k : ℕ) (u : State) → slice_get us k ≡ Some u → IsOwn (S k) u

  own_set : (us : List State) (i : ℕ) (v w : State) → slice_get us i ≡ Some w → (IsOwn (S i) w → IsOwn (S i) v) → AllOwn us → AllOwn (set us i v)
  own_set us i v w here on all k u at =
      ⊎_elim
      (λ (is : k ≡ i).
      let same : v ≡ u = same_Some v u (sym (cell_there us i v w here) ∙ ap (slice_get (set us i v)) (sym is) ∙ at) in
      subst (λ (x : State). IsOwn (S k) x) same (subst (λ (j : ℕ). IsOwn (S j) v) (sym is) (on (all i w here))))
      (λ (apart : k ≢ i). all k u (sym (cell_other us i v k apart) ∙ at))
      (cases_eq k i)

  past_own : (start u : State) (comm : ℕ) (n : Next State) → next_of u ≡ n → is_at_barrier comm n ≡ true → IsOwn start u → IsOwn start (past_barrier n u)
  past_own start u comm Ends is at own = absurd (cc)
  past_own start u comm (Goes after) is at own = absurd (cc)
  past_own start u comm (Posts message after) is at own = absurd (cc)
  past_own start u comm (Sends to head bytes after) is at own = absurd (cc)
  past_own start u comm (Recvs from head take refuse) is at own = absurd (cc)
  past_own start u comm (Bars other after) is at own = own_more start u [] (Bars other after) is (λ e. cc) own

  own_past : (c : Configuration State) (comm : ℕ) (test : ℕ → Bool) → all_at_barrier next_of comm test c.cells ≡ true → AllOwn c.cells → AllOwn (by_rank (λ rank. past_if next_of (test rank)) c.cells)
  own_past c comm test all own k v at = by_cell (slice_get c.cells k) refl (sym (get-by_rank (λ rank. past_if next_of (test rank)) c.cells k) ∙ at)
    where
      by_test : (u : State) → slice_get c.cells k ≡ Some u → (b : Bool) → test k ≡ b → IsOwn (S k) (past_if next_of b u)
      by_test u here true member = past_own (S k) u comm (next_of u) refl (stands_there next_of comm test c.cells k u all member here) (own k u here)
      by_test u here false member = own k u here

      by_cell : (o : Option State) → slice_get c.cells k ≡ o → option_map (past_if next_of (test k)) o ≡ Some v → IsOwn (S k) v
      by_cell None here is = absurd (cc)
      by_cell (Some u) here is = subst (λ (x : State). IsOwn (S k) x) (same_Some (past_if next_of (test k) u) v is) (by_test u here (test k) refl)

  own_step : (keys : ℕ → ℕ → ℕ) (c d : Configuration State) (i : ℕ) → steps.Takes keys next_of c i d → AllOwn c.cells → AllOwn d.cells
  own_step keys c d i (Alone after at made) own =
      let here = stands c i (Goes after) at (λ e. cc) in
      subst (λ (x : Configuration State). AllOwn x.cells) (sym made) (own_set c.cells i after here.0 here.1 (own_more (S i) here.0 [] (Goes after) here.2 (λ e. cc)) own)
  own_step keys c d i (Left message after at slot made) own =
      let here = stands c i (Posts message after) at (λ e. cc) in
      subst (λ (x : Configuration State). AllOwn x.cells) (sym made) (own_set c.cells i after here.0 here.1 (own_more (S i) here.0 [] (Posts message after) here.2 (λ e. cc)) own)
  own_step keys c d i (Met j head bytes after asked take refuse at slot meets same made) own =
      let here = stands c i (Sends j head bytes after) at (λ e. cc) in
      let peer = stands c j (Recvs i asked take refuse) meets (λ e. cc) in
      let apart : j ≢ i = λ e. let both : Recvs i asked take refuse ≡ Sends j head bytes after = sym meets ∙ ap (next_at next_of c) e ∙ at in cc in
      subst (λ (x : Configuration State). AllOwn x.cells) (sym made)
      (own_set (set c.cells i after) j (take bytes) peer.0 (cell_other c.cells i after j apart ∙ peer.1) (own_more (S j) peer.0 bytes (Recvs i asked take refuse) peer.2 (λ e. cc))
      (own_set c.cells i after here.0 here.1 (own_more (S i) here.0 [] (Sends j head bytes after) here.2 (λ e. cc)) own))
  own_step keys c d i (Fetched j asked take refuse message at slot mine same made) own =
      let here = stands c i (Recvs j asked take refuse) at (λ e. cc) in
      subst (λ (x : Configuration State). AllOwn x.cells) (sym made) (own_set c.cells i (take message.bytes) here.0 here.1 (own_more (S i) here.0 message.bytes (Recvs j asked take refuse) here.2 (λ e. cc)) own)
  own_step keys c d i (RefusedPost j asked take refuse message at slot mine same made) own =
      let here = stands c i (Recvs j asked take refuse) at (λ e. cc) in
      subst (λ (x : Configuration State). AllOwn x.cells) (sym made) (own_set c.cells i (refuse message.head) here.0 here.1 (own_refused (S i) here.0 j asked take refuse message.head here.2) own)
  own_step keys c d i (RefusedSend j asked take refuse sent bytes after at slot meets same made) own =
      let here = stands c i (Recvs j asked take refuse) at (λ e. cc) in
      subst (λ (x : Configuration State). AllOwn x.cells) (sym made) (own_set c.cells i (refuse sent) here.0 here.1 (own_refused (S i) here.0 j asked take refuse sent here.2) own)
  own_step keys c d i (Passed comm after at root all made) own =
      subst (λ (x : Configuration State). AllOwn x.cells) (sym made) (own_past c comm (is_with (keys comm) i) all own)

  pub own_runs : (keys : ℕ → ℕ → ℕ) (n : ℕ) (c d : Configuration State) → Runs (IsPlainStep keys) (λ e. e ≡ d) n c → AllOwn c.cells → AllOwn d.cells
  own_runs keys zero c d same own = subst (λ (x : Configuration State). AllOwn x.cells) same own
  own_runs keys (suc n) c d (a, t, step, rest) own = own_runs keys n t d rest (own_step keys c t a (steps.seen keys next_of c t a step) own)

-- the k-th of numbers in a row
range_at : (a n k x : ℕ) → slice_get (range_with_len a n) k ≡ Some x → x ≡ a + k
range_at a zero k x at = absurd (cc)
range_at a (suc n) zero x at = let is : a ≡ x = same_Some a x at in omega (arith, is)
range_at a (suc n) (suc k) x at = let rest = range_at (a + 1) n k x at in omega (arith, rest)

-- at the start all is as it started
pub start_cell : (script : Script) (k : ℕ) (u : State) → slice_get (start_of script).cells k ≡ Some u → start_of_rank script k ≡ u
start_cell script k u at =
    by (slice_get (range_with_len 0 script.nue) k) refl
    (sym (slice_get-map (start_of_rank script) (range_with_len 0 script.nue) k) ∙ at)
  where
    by : (o : Option ℕ) → slice_get (range_with_len 0 script.nue) k ≡ o → option_map (start_of_rank script) o ≡ Some u → start_of_rank script k ≡ u
    by None there is = absurd (cc)
    by (Some rank) there is =
        ap (start_of_rank script) (let is = range_at 0 script.nue k rank there in omega (arith, is)) ∙ same_Some (start_of_rank script rank) u is

-- wherever steps lead from the start
pub own_as_far : (script : Script) (n : ℕ) (c : Configuration State) → Runs (IsPlainStep (keys_of script)) (λ e. e ≡ c) n (start_of script) → (rank : ℕ) (u : State) → slice_get c.cells rank ≡ Some u
    → (path : List (List ℕ)) × IsAsFar u (gone_through path (start_of_rank script rank))
own_as_far script n c run rank u at =
    ⊎_elim
    (λ (own : (path : List (List ℕ)) × (u ≡ gone_through path (start_of_rank script rank))). (own.0, (ap (λ (x : State). x.matched) own.1, ap (λ (x : State). x.local.left) own.1)))
    (λ (own : (next_of u ≡ Ends) × (path : List (List ℕ)) × IsAsFar u (gone_through path (start_of_rank script rank))). (own.1, own.2))
    (own_runs (start_of_rank script) (keys_of script) n (start_of script) c run (λ k v there. inl ([], sym (start_cell script k v there))) rank u at)

pub own_ways : (script : Script) (n : ℕ) (c : Configuration State) → Runs (IsPlainStep (keys_of script)) (λ e. e ≡ c) n (start_of script) → AreOwnWays script c
own_ways script n c run rank u at = let own = own_as_far script n c run rank u at in (own.0, own.1.0)
