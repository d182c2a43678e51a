-- A run seen through a view of the states is the run of what is seen.
use Rattle.std.proofs.Common.{◌≡◌, ℕ, zero, suc, ◌+◌, ◌==◌, Bool, true, false, cond, ◌&&◌, List, [], ◌∷◌, length, map, Option, Some, None, refl, sym, ap, ◌∙◌, sum_by, slice_get}
use Rattle.std.specs.Option.{option_map, option_map_or, option_or}
use Rattle.std.proofs.lemmas.List.{length-map, map-set}
use Rattle.std.proofs.lemmas.List.Sums.{sum_by-cons}
use Rattle.std.proofs.lemmas.Option.{slice_get-map}
use Rattle.scc_base.specs.Groups.{is_with, root_in}
use Rattle.scc_base.specs.Heads.{MessageHead}
use Rattle.script_machine.specs.declared.posts.Posted.{Posted}
use Rattle.script_machine.specs.Next.{Next, is_at_barrier, past_barrier}
use Rattle.script_machine.specs.Next.Next.{Ends, Goes, Posts, Sends, Recvs, Bars}
use Rattle.plain_meaning.specs.Step.{Configuration, next_at, slot_at, with_cell, configuration_with_slot, post_step, match_step, receive_step, barrier_step, all_at_barrier, by_rank, past_if, step_by, step_of, lowest, lowest_step, run_on}
use Rattle.plain_meaning.proofs.Runs.Costs.{next_map}

pub sum_by-map : {U V : Type 0} (cost : V → ℕ) (f : U → V) (c : List U) → sum_by cost (map f c) ≡ sum_by (λ u. cost (f u)) c
sum_by-map cost f [] = refl
sum_by-map cost f (u ∷ c) =
    sum_by-cons cost (f u) (map f c) ∙ ap (λ (n : ℕ). cost (f u) + n) (sum_by-map cost f c) ∙ sym (sum_by-cons (λ v. cost (f v)) u c)

abbrev made_of : {U : Type 0} → List U → List (Option Posted) → Configuration U
made_of cells slots = record { cells = cells; slots = slots }

-- a configuration whose states are seen through a view
abbrev pub view_of : {U V : Type 0} → (U → V) → Configuration U → Configuration V
view_of f c = record { cells = map f c.cells; slots = c.slots }

given-map : {A B : Type 0} (f : A → B) (b : Bool) (x : B) (y : A) → x ≡ f y → cond b (Some x) None ≡ option_map f (cond b (Some y) None)
given-map f true x y e = ap Some e
given-map f false x y e = refl

choice-map : {A B : Type 0} (f : A → B) (b t : Bool) (x v : B) (y w : A) → x ≡ f y → v ≡ f w → cond b (cond t (Some x) (Some v)) None ≡ option_map f (cond b (cond t (Some y) (Some w)) None)
choice-map f true true x v y w e h = ap Some e
choice-map f true false x v y w e h = ap Some h
choice-map f false t x v y w e h = refl

map_or : {A B : Type 0} (f : A → B) (o p : Option A) → option_or (option_map f o) (option_map f p) ≡ option_map f (option_or o p)
map_or f None p = refl
map_or f (Some x) p = refl

module _ {U V : Type 0} (f : U → V) (keys : ℕ → ℕ → ℕ) (next : U → Next U) (seen : V → Next V) (sees : (u : U) → seen (f u) ≡ next_map f (next u)) where
  seen_by : (o : Option U) → option_map_or seen (option_map f o) Ends ≡ next_map f (option_map_or next o Ends)
  seen_by None = refl
  seen_by (Some u) = sees u

  pub next_at-map : (c : Configuration U) (i : ℕ) → next_at seen (view_of f c) i ≡ next_map f (next_at next c i)
  next_at-map c i = ap (λ o. option_map_or seen o Ends) (slice_get-map f c.cells i) ∙ seen_by (slice_get c.cells i)

  with_cell-map : (c : Configuration U) (i : ℕ) (u : U) → with_cell (view_of f c) i (f u) ≡ view_of f (with_cell c i u)
  with_cell-map c i u = ap (λ (us : List V). made_of us c.slots) (sym (map-set f c.cells i u))

  with_cells-map : (c : Configuration U) (i j : ℕ) (u v : U) → with_cell (with_cell (view_of f c) i (f u)) j (f v) ≡ view_of f (with_cell (with_cell c i u) j v)
  with_cells-map c i j u v = ap (λ (d : Configuration V). with_cell d j (f v)) (with_cell-map c i u) ∙ with_cell-map (with_cell c i u) j v

  with_both-map : (c : Configuration U) (i j : ℕ) (u : U) (o : Option Posted) → configuration_with_slot (with_cell (view_of f c) i (f u)) j o ≡ view_of f (configuration_with_slot (with_cell c i u) j o)
  with_both-map c i j u o = ap (λ (d : Configuration V). configuration_with_slot d j o) (with_cell-map c i u)

  post-map : (c : Configuration U) (i : ℕ) (message : Posted) (u : U) (o : Option Posted) → post_step (view_of f c) i message (f u) o ≡ option_map (view_of f) (post_step c i message u o)
  post-map c i message u None = ap Some (with_both-map c i i u (Some message))
  post-map c i message u (Some earlier) = refl

  match-map : (c : Configuration U) (i j : ℕ) (head : MessageHead) (bytes : List ℕ) (v : U) (o : Option Posted) (m : Next U) → match_step (view_of f c) i j head bytes (f v) o (next_map f m) ≡ option_map (view_of f) (match_step c i j head bytes v o m)
  match-map c i j head bytes v (Some earlier) m = refl
  match-map c i j head bytes v None Ends = refl
  match-map c i j head bytes v None (Goes after) = refl
  match-map c i j head bytes v None (Posts message after) = refl
  match-map c i j head bytes v None (Sends to sent more after) = refl
  match-map c i j head bytes v None (Recvs from asked take refuse) =
      given-map (view_of f) _ _ _ (with_cells-map c i j v (take bytes))
  match-map c i j head bytes v None (Bars comm after) = refl

  receive-map : (c : Configuration U) (j i : ℕ) (asked : MessageHead) (take : List ℕ → U) (refuse : MessageHead → U) (o : Option Posted) (m : Next U) → receive_step (view_of f c) j i asked (λ bytes. f (take bytes)) (λ sent. f (refuse sent)) o (next_map f m) ≡ option_map (view_of f) (receive_step c j i asked take refuse o m)
  receive-map c j i asked take refuse (Some message) m =
      choice-map (view_of f) _ _ _ _ _ _ (with_both-map c j i (take message.bytes) None) (with_cell-map c j (refuse message.head))
  receive-map c j i asked take refuse None Ends = refl
  receive-map c j i asked take refuse None (Goes after) = refl
  receive-map c j i asked take refuse None (Posts message after) = refl
  receive-map c j i asked take refuse None (Sends to head bytes after) =
      given-map (view_of f) _ _ _ (with_cell-map c j (refuse head))
  receive-map c j i asked take refuse None (Recvs from head more again) = refl
  receive-map c j i asked take refuse None (Bars comm after) = refl

  at_barrier_by : (comm : ℕ) (n : Next U) → is_at_barrier comm (next_map f n) ≡ is_at_barrier comm n
  at_barrier_by comm Ends = refl
  at_barrier_by comm (Goes after) = refl
  at_barrier_by comm (Posts message after) = refl
  at_barrier_by comm (Sends to head bytes after) = refl
  at_barrier_by comm (Recvs from head take refuse) = refl
  at_barrier_by comm (Bars asked after) = refl

  all_at_barrier-map : (comm : ℕ) (test : ℕ → Bool) (us : List U) → all_at_barrier seen comm test (map f us) ≡ all_at_barrier next comm test us
  all_at_barrier-map comm test [] = refl
  all_at_barrier-map comm test (u ∷ us) =
      ap (λ (b : Bool). cond (test 0) b true && all_at_barrier seen comm (λ rank. test (suc rank)) (map f us)) (ap (is_at_barrier comm) (sees u) ∙ at_barrier_by comm (next u))
      ∙ ap (λ (b : Bool). cond (test 0) (is_at_barrier comm (next u)) true && b) (all_at_barrier-map comm (λ rank. test (suc rank)) us)

  past_by : (u : U) (n : Next U) → past_barrier (next_map f n) (f u) ≡ f (past_barrier n u)
  past_by u Ends = refl
  past_by u (Goes after) = refl
  past_by u (Posts message after) = refl
  past_by u (Sends to head bytes after) = refl
  past_by u (Recvs from head take refuse) = refl
  past_by u (Bars asked after) = refl

  past_if-map : (b : Bool) (u : U) → past_if seen b (f u) ≡ f (past_if next b u)
  past_if-map true u = ap (λ (n : Next V). past_barrier n (f u)) (sees u) ∙ past_by u (next u)
  past_if-map false u = refl

  past-map : (test : ℕ → Bool) (us : List U) → by_rank (λ rank. past_if seen (test rank)) (map f us) ≡ map f (by_rank (λ rank. past_if next (test rank)) us)
  past-map test [] = refl
  past-map test (u ∷ us) =
      ap (λ (v : V). v ∷ by_rank (λ rank. past_if seen (test (suc rank))) (map f us)) (past_if-map (test 0) u)
      ∙ ap (λ (vs : List V). f (past_if next (test 0) u) ∷ vs) (past-map (λ rank. test (suc rank)) us)

  barrier-map : (c : Configuration U) (i comm : ℕ) → barrier_step keys seen (view_of f c) i comm ≡ option_map (view_of f) (barrier_step keys next c i comm)
  barrier-map c i comm =
      let group : ℕ → Bool = is_with (keys comm) i in
      ap (λ (b : Bool). cond ((root_in (keys comm) i == i) && b) (Some (made_of (by_rank (λ rank. past_if seen (group rank)) (map f c.cells)) c.slots)) None) (all_at_barrier-map comm group c.cells)
      ∙ given-map (view_of f) ((root_in (keys comm) i == i) && all_at_barrier next comm group c.cells) _ _ (ap (λ (us : List V). made_of us c.slots) (past-map group c.cells))

  step_by-map : (c : Configuration U) (i : ℕ) (n : Next U) → step_by keys seen (view_of f c) i (next_map f n) ≡ option_map (view_of f) (step_by keys next c i n)
  step_by-map c i Ends = refl
  step_by-map c i (Goes after) = ap Some (with_cell-map c i after)
  step_by-map c i (Posts message after) = post-map c i message after (slot_at c i)
  step_by-map c i (Sends to head bytes after) =
      ap (λ (m : Next V). match_step (view_of f c) i to head bytes (f after) (slot_at c i) m) (next_at-map c to) ∙ match-map c i to head bytes after (slot_at c i) (next_at next c to)
  step_by-map c i (Recvs from head take refuse) =
      ap (λ (m : Next V). receive_step (view_of f c) i from head (λ bytes. f (take bytes)) (λ sent. f (refuse sent)) (slot_at c from) m) (next_at-map c from) ∙ receive-map c i from head take refuse (slot_at c from) (next_at next c from)
  step_by-map c i (Bars comm after) = barrier-map c i comm

  pub step_of-map : (c : Configuration U) (i : ℕ) → step_of keys seen (view_of f c) i ≡ option_map (view_of f) (step_of keys next c i)
  step_of-map c i = ap (λ (n : Next V). step_by keys seen (view_of f c) i n) (next_at-map c i) ∙ step_by-map c i (next_at next c i)

  lowest-map : (c : Configuration U) (n i : ℕ) → lowest keys seen (view_of f c) n i ≡ option_map (view_of f) (lowest keys next c n i)
  lowest-map c zero i = refl
  lowest-map c (suc n) i =
      ap (λ (o : Option (Configuration V)). option_or o (lowest keys seen (view_of f c) n (i + 1))) (step_of-map c i)
      ∙ ap (λ (o : Option (Configuration V)). option_or (option_map (view_of f) (step_of keys next c i)) o) (lowest-map c n (i + 1))
      ∙ map_or (view_of f) (step_of keys next c i) (lowest keys next c n (i + 1))

  pub lowest_step-map : (c : Configuration U) → lowest_step keys seen (view_of f c) ≡ option_map (view_of f) (lowest_step keys next c)
  lowest_step-map c =
      ap (λ (n : ℕ). lowest keys seen (view_of f c) n 0) (length-map c.cells f) ∙ lowest-map c (length c.cells) 0

  run_by-map : (n : ℕ) (c : Configuration U) (o : Option (Configuration U)) → ((d : Configuration U) → run_on keys seen n (view_of f d) ≡ view_of f (run_on keys next n d)) → option_map_or (run_on keys seen n) (option_map (view_of f) o) (view_of f c) ≡ view_of f (option_map_or (run_on keys next n) o c)
  run_by-map n c None rest = refl
  run_by-map n c (Some d) rest = rest d

  pub run_on-map : (n : ℕ) (c : Configuration U) → run_on keys seen n (view_of f c) ≡ view_of f (run_on keys next n c)
  run_on-map zero c = refl
  run_on-map (suc n) c =
      ap (λ (o : Option (Configuration V)). option_map_or (run_on keys seen n) o (view_of f c)) (lowest_step-map c)
      ∙ run_by-map n c (lowest_step keys next c) (run_on-map n)
