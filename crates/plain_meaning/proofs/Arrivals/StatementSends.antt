-- Which statement makes a message of a collective call: one of its kind, and no more than one.
use Rattle.std.proofs.Common.{◌≡◌, ℕ, ◌≤◌, ◌==◌, Bool, true, false, cond, ◌&&◌, List, [], ◌∷◌, ◌++◌, map, refl, sym, ap, ◌∙◌, subst, arith, ◌⊎◌, inl, inr}
use Rattle.std.specs.Prelude.{slice_index}
use Rattle.std.proofs.lemmas.Bool.{eqb-true}
use Rattle.scc_base.specs.Heads.{MessageHead, kind_number}
use Rattle.scc_base.specs.Setups.{SetupView, members_of, place_of}
use Rattle.scc_base.specs.declared.kinds.Kind.TheVariants as kind_of
use Rattle.groups.specs.Collectives.{comm_of, fold_each, head_of_kind, other_steps, others_of, root_place, root_steps}
use Rattle.groups.specs.declared.collectives.Coll.{Coll}
use Rattle.groups.specs.declared.collectives.Coll.TheVariants as coll
use Rattle.groups.specs.declared.collectives.Step.TheVariants as step
use Rattle.groups.specs.declared.operations.Op.{Op}
use Rattle.groups.specs.declared.operations.Ty.{Ty}
use Rattle.script_rules.specs.declared.script.Stmt.{Stmt}
use Rattle.script_rules.specs.declared.script.Stmt.TheVariants as stmt
use Rattle.script_machine.specs.declared.prims.Operands.{Operands}
use Rattle.script_machine.specs.declared.prims.Source.TheVariants as source_of
use Rattle.script_machine.specs.Program.{Act, acts_of, can_call, parts_of}
use Rattle.script_machine.specs.Program.Act.{Send, Begin, Finish}
use Rattle.plain_meaning.proofs.Collectives.CollectiveGroups.{bcast_parts, folds_parts, gathers, others_apart}
use Rattle.plain_meaning.proofs.Arrivals.MessageCounts.{gathers_send_none, has_kind, most_if, none_if, sends_once, sends_other, sent_in, total_both, total_of}
use Rattle.plain_meaning.proofs.Collectives.BroadcastLaws.{bcast_operands}
use Rattle.plain_meaning.proofs.Collectives.ReductionLaws.{all_down_parts, down_sends}
use Rattle.plain_meaning.proofs.Collectives.ReductionPaths.{fold_operands}

-- what a call makes for a rank: nothing, the root's part or another's
module _ (s : SetupView) (rank : ℕ) (c : Coll) (o : Operands) where
  abbrev pub root_part : List Act
  root_part = parts_of o (root_steps c (others_of s (comm_of c) rank (root_place c)))

  abbrev pub other_part : List Act
  other_part = parts_of o (other_steps c (slice_index (members_of s (comm_of c) rank) (root_place c)))

  abbrev pub part_by : Bool → Bool → List Act
  part_by can at = parts_of o (cond can (cond at (root_steps c (others_of s (comm_of c) rank (root_place c))) (other_steps c (slice_index (members_of s (comm_of c) rank) (root_place c)))) [])

  pub by_part : (P : List Act → Type 0) → P []
      → (can_call s rank c ≡ true → place_of s (comm_of c) rank ≡ root_place c → P root_part)
      → (can_call s rank c ≡ true → P other_part)
      → P (part_by (can_call s rank c) (place_of s (comm_of c) rank == root_place c))
  by_part P none root other = by (can_call s rank c) (place_of s (comm_of c) rank == root_place c) refl refl
    where
      by : (can at : Bool) → can_call s rank c ≡ can → (place_of s (comm_of c) rank == root_place c) ≡ at → P (part_by can at)
      by true true is there = root is (eqb-true (place_of s (comm_of c) rank) (root_place c) there)
      by true false is there = other is
      by false at is there = none

-- the folds of a root send nothing
module _ (kind comm to : ℕ) (op : Op) (ty : Ty) (dst src : ℕ) where
  reduce_root_none : (head : MessageHead) (list : List ℕ) → total_of (sent_in kind comm to) (parts_of (fold_operands op ty dst src) (step.Begin ∷ fold_each head list ++ step.Finish ∷ [])) ≡ 0
  reduce_root_none head list =
      ap (λ (l : List Act). total_of (sent_in kind comm to) (Begin src ∷ l)) (folds_parts (fold_operands op ty dst src) true head list (step.Finish ∷ []))
      ∙ (let both = total_both (sent_in kind comm to) (gathers (fold_operands op ty dst src) head list) (Finish dst ∷ []) in
      let none = gathers_send_none kind comm (fold_operands op ty dst src) head to list in
      omega (arith, both, none))

  all_root_sends : (other : ℕ) (list : List ℕ)
      → total_of (sent_in kind comm to) (parts_of (fold_operands op ty dst src) (root_steps (coll.Allreduce other 0) list))
      ≡ total_of (sent_in kind comm to) (map (λ x. Send x (head_of_kind kind_of.AllDown other 0) source_of.Accumulator) list)
  all_root_sends other list =
      ap (λ (l : List Act). total_of (sent_in kind comm to) (Begin src ∷ l)) (all_down_parts other dst src op ty list)
      ∙ (let both = total_both (sent_in kind comm to) (gathers (fold_operands op ty dst src) (head_of_kind kind_of.AllUp other 0) list) (down_sends other dst list) in
      let none = gathers_send_none kind comm (fold_operands op ty dst src) (head_of_kind kind_of.AllUp other 0) to list in
      let more = total_both (sent_in kind comm to) (map (λ (x : ℕ). Send x (head_of_kind kind_of.AllDown other 0) source_of.Accumulator) list) (Finish dst ∷ []) in
      omega (arith, both, none, more))

-- messages of other kinds, or of other communicators
module _ (s : SetupView) (kind comm to rank : ℕ) where
  pub quiet_bcast : (other place reg len : ℕ) → has_kind kind comm (head_of_kind kind_of.Bcast other len) ≡ false → total_of (sent_in kind comm to) (acts_of s rank (stmt.Bcast other place reg len)) ≡ 0
  quiet_bcast other place reg len odd =
      by_part s rank (coll.Bcast other place len) (bcast_operands reg) (λ acts. total_of (sent_in kind comm to) acts ≡ 0) refl
      (λ can at. ap (total_of (sent_in kind comm to)) (bcast_parts (bcast_operands reg) (head_of_kind kind_of.Bcast other len) (others_of s other rank place))
      ∙ sends_other kind comm to (head_of_kind kind_of.Bcast other len) (source_of.Own reg) odd (others_of s other rank place))
      (λ can. refl)

  pub quiet_reduce : (other place dst src : ℕ) (op : Op) (ty : Ty) → has_kind kind comm (head_of_kind kind_of.Reduce other 0) ≡ false → total_of (sent_in kind comm to) (acts_of s rank (stmt.Reduce other place op ty dst src)) ≡ 0
  quiet_reduce other place dst src op ty odd =
      by_part s rank (coll.Reduce other place 0) (fold_operands op ty dst src) (λ acts. total_of (sent_in kind comm to) acts ≡ 0) refl
      (λ can at. reduce_root_none kind comm to op ty dst src (head_of_kind kind_of.Reduce other 0) (others_of s other rank place))
      (λ can. sends_other kind comm to (head_of_kind kind_of.Reduce other 0) (source_of.Own src) odd (slice_index (members_of s other rank) place ∷ []))

  pub quiet_allreduce : (other dst src : ℕ) (op : Op) (ty : Ty) → has_kind kind comm (head_of_kind kind_of.AllUp other 0) ≡ false → has_kind kind comm (head_of_kind kind_of.AllDown other 0) ≡ false → total_of (sent_in kind comm to) (acts_of s rank (stmt.Allreduce other op ty dst src)) ≡ 0
  quiet_allreduce other dst src op ty odd down =
      by_part s rank (coll.Allreduce other 0) (fold_operands op ty dst src) (λ acts. total_of (sent_in kind comm to) acts ≡ 0) refl
      (λ can at. all_root_sends kind comm to op ty dst src other (others_of s other rank 0)
      ∙ sends_other kind comm to (head_of_kind kind_of.AllDown other 0) source_of.Accumulator down (others_of s other rank 0))
      (λ can. sends_other kind comm to (head_of_kind kind_of.AllUp other 0) (source_of.Own src) odd (slice_index (members_of s other rank) 0 ∷ []))

-- a rank that is the root of a broadcast of a communicator
pub record IsBcastOf (s : SetupView) (rank comm : ℕ) (statement : Stmt) : Type 0 where
  pub place : ℕ
  pub reg : ℕ
  pub len : ℕ
  pub is : statement ≡ stmt.Bcast comm place reg len
  pub callable : can_call s rank (coll.Bcast comm place len) ≡ true
  pub at : place_of s comm rank ≡ place

-- one that gives its part in a reduction to this root
pub record IsReduceOf (s : SetupView) (rank comm root : ℕ) (statement : Stmt) : Type 0 where
  pub place : ℕ
  pub op : Op
  pub ty : Ty
  pub dst : ℕ
  pub src : ℕ
  pub is : statement ≡ stmt.Reduce comm place op ty dst src
  pub callable : can_call s rank (coll.Reduce comm place 0) ≡ true
  pub at : slice_index (members_of s comm rank) place ≡ root

-- one that gives its part in such a call
pub record IsCallOf (s : SetupView) (rank : ℕ) (call : Op → Ty → ℕ → ℕ → Stmt) (c : Coll) (statement : Stmt) : Type 0 where
  pub op : Op
  pub ty : Ty
  pub dst : ℕ
  pub src : ℕ
  pub is : statement ≡ call op ty dst src
  pub callable : can_call s rank c ≡ true

abbrev pub IsAllreduceOf : SetupView → ℕ → ℕ → Stmt → Type 0
IsAllreduceOf s rank comm statement = IsCallOf s rank (stmt.Allreduce comm) (coll.Allreduce comm 0) statement

-- none, or at most one, by such a statement
abbrev pub MakesOne : ℕ → Type 0 → Type 0
MakesOne n Such = (n ≡ 0) ⊎ ((n ≤ 1) × Such)

module _ (s : SetupView) (rank comm to : ℕ) where
  pub bcast_makes : (statement : Stmt) → MakesOne (total_of (sent_in (kind_number kind_of.Bcast) comm to) (acts_of s rank statement)) (IsBcastOf s rank comm statement)
  bcast_makes (stmt.Bcast other place reg len) = by (other == comm) refl
    where
      K : ℕ
      K = kind_number kind_of.Bcast

      by : (same : Bool) → (other == comm) ≡ same → MakesOne (total_of (sent_in K comm to) (acts_of s rank (stmt.Bcast other place reg len))) (IsBcastOf s rank comm (stmt.Bcast other place reg len))
      by false odd = inl (quiet_bcast s K comm to rank other place reg len odd)
      by true same =
          by_part s rank (coll.Bcast other place len) (bcast_operands reg) (λ acts. MakesOne (total_of (sent_in K comm to) acts) (IsBcastOf s rank comm (stmt.Bcast other place reg len))) (inl refl)
          (λ can at. inr (
            subst (λ (acts : List Act). total_of (sent_in K comm to) acts ≤ 1) (sym (bcast_parts (bcast_operands reg) (head_of_kind kind_of.Bcast other len) (others_of s other rank place)))
                (sends_once K comm to (head_of_kind kind_of.Bcast other len) (source_of.Own reg) (others_of s other rank place) (others_apart s other place rank)),
            subst (λ (x : ℕ). IsBcastOf s rank x (stmt.Bcast other place reg len)) (eqb-true other comm same) (record { place = place; reg = reg; len = len; is = refl; callable = can; at = at }),
          ))
          (λ can. inl refl)
  bcast_makes (stmt.Reduce other place op ty dst src) = inl (quiet_reduce s (kind_number kind_of.Bcast) comm to rank other place dst src op ty refl)
  bcast_makes (stmt.Allreduce other op ty dst src) = inl (quiet_allreduce s (kind_number kind_of.Bcast) comm to rank other dst src op ty refl refl)
  bcast_makes _ = inl refl

  pub reduce_makes : (statement : Stmt) → MakesOne (total_of (sent_in (kind_number kind_of.Reduce) comm to) (acts_of s rank statement)) (IsReduceOf s rank comm to statement)
  reduce_makes (stmt.Reduce other place op ty dst src) = by (other == comm) (slice_index (members_of s other rank) place == to) refl refl
    where
      K : ℕ
      K = kind_number kind_of.Reduce

      by : (same there : Bool) → (other == comm) ≡ same → (slice_index (members_of s other rank) place == to) ≡ there → MakesOne (total_of (sent_in K comm to) (acts_of s rank (stmt.Reduce other place op ty dst src))) (IsReduceOf s rank comm to (stmt.Reduce other place op ty dst src))
      by false there odd at = inl (quiet_reduce s K comm to rank other place dst src op ty odd)
      by true there same at =
          by_part s rank (coll.Reduce other place 0) (fold_operands op ty dst src) (λ acts. MakesOne (total_of (sent_in K comm to) acts) (IsReduceOf s rank comm to (stmt.Reduce other place op ty dst src))) (inl refl)
          (λ can is_root. inl (reduce_root_none K comm to op ty dst src (head_of_kind kind_of.Reduce other 0) (others_of s other rank place)))
          (λ can. to_root there at can)
        where
          to_root : (there : Bool) → (slice_index (members_of s other rank) place == to) ≡ there → can_call s rank (coll.Reduce other place 0) ≡ true
              → MakesOne (total_of (sent_in K comm to) (Send (slice_index (members_of s other rank) place) (head_of_kind kind_of.Reduce other 0) (source_of.Own src) ∷ [])) (IsReduceOf s rank comm to (stmt.Reduce other place op ty dst src))
          to_root true at can = inr (
            (let one = most_if (has_kind K comm (head_of_kind kind_of.Reduce other 0) && (slice_index (members_of s other rank) place == to)) in omega (arith, one)),
            subst (λ (x : ℕ). IsReduceOf s rank x to (stmt.Reduce other place op ty dst src)) (eqb-true other comm same)
                (record { place = place; op = op; ty = ty; dst = dst; src = src; is = refl; callable = can; at = eqb-true (slice_index (members_of s other rank) place) to at }),
          )
          to_root false at can = inl (let none = none_if (has_kind K comm (head_of_kind kind_of.Reduce other 0)) (slice_index (members_of s other rank) place == to) at in omega (arith, none))
  reduce_makes (stmt.Bcast other place reg len) = inl (quiet_bcast s (kind_number kind_of.Reduce) comm to rank other place reg len refl)
  reduce_makes (stmt.Allreduce other op ty dst src) = inl (quiet_allreduce s (kind_number kind_of.Reduce) comm to rank other dst src op ty refl refl)
  reduce_makes _ = inl refl

  pub all_up_makes : (statement : Stmt) → MakesOne (total_of (sent_in (kind_number kind_of.AllUp) comm to) (acts_of s rank statement)) (IsAllreduceOf s rank comm statement)
  all_up_makes (stmt.Allreduce other op ty dst src) = by (other == comm) refl
    where
      K : ℕ
      K = kind_number kind_of.AllUp

      by : (same : Bool) → (other == comm) ≡ same → MakesOne (total_of (sent_in K comm to) (acts_of s rank (stmt.Allreduce other op ty dst src))) (IsAllreduceOf s rank comm (stmt.Allreduce other op ty dst src))
      by false odd = inl (quiet_allreduce s K comm to rank other dst src op ty odd refl)
      by true same =
          by_part s rank (coll.Allreduce other 0) (fold_operands op ty dst src) (λ acts. MakesOne (total_of (sent_in K comm to) acts) (IsAllreduceOf s rank comm (stmt.Allreduce other op ty dst src))) (inl refl)
          (λ can at. inl (all_root_sends K comm to op ty dst src other (others_of s other rank 0)
          ∙ sends_other K comm to (head_of_kind kind_of.AllDown other 0) source_of.Accumulator refl (others_of s other rank 0)))
          (λ can. inr (
            (let one = most_if (has_kind K comm (head_of_kind kind_of.AllUp other 0) && (slice_index (members_of s other rank) 0 == to)) in omega (arith, one)),
            subst (λ (x : ℕ). IsAllreduceOf s rank x (stmt.Allreduce other op ty dst src)) (eqb-true other comm same) (record { op = op; ty = ty; dst = dst; src = src; is = refl; callable = can }),
          ))
  all_up_makes (stmt.Bcast other place reg len) = inl (quiet_bcast s (kind_number kind_of.AllUp) comm to rank other place reg len refl)
  all_up_makes (stmt.Reduce other place op ty dst src) = inl (quiet_reduce s (kind_number kind_of.AllUp) comm to rank other place dst src op ty refl)
  all_up_makes _ = inl refl

  pub all_down_makes : (statement : Stmt) → MakesOne (total_of (sent_in (kind_number kind_of.AllDown) comm to) (acts_of s rank statement)) (IsAllreduceOf s rank comm statement)
  all_down_makes (stmt.Allreduce other op ty dst src) = by (other == comm) refl
    where
      K : ℕ
      K = kind_number kind_of.AllDown

      by : (same : Bool) → (other == comm) ≡ same → MakesOne (total_of (sent_in K comm to) (acts_of s rank (stmt.Allreduce other op ty dst src))) (IsAllreduceOf s rank comm (stmt.Allreduce other op ty dst src))
      by false odd = inl (quiet_allreduce s K comm to rank other dst src op ty refl odd)
      by true same =
          by_part s rank (coll.Allreduce other 0) (fold_operands op ty dst src) (λ acts. MakesOne (total_of (sent_in K comm to) acts) (IsAllreduceOf s rank comm (stmt.Allreduce other op ty dst src))) (inl refl)
          (λ can at. inr (
            subst (λ (n : ℕ). n ≤ 1) (sym (all_root_sends K comm to op ty dst src other (others_of s other rank 0)))
                (sends_once K comm to (head_of_kind kind_of.AllDown other 0) source_of.Accumulator (others_of s other rank 0) (others_apart s other 0 rank)),
            subst (λ (x : ℕ). IsAllreduceOf s rank x (stmt.Allreduce other op ty dst src)) (eqb-true other comm same) (record { op = op; ty = ty; dst = dst; src = src; is = refl; callable = can }),
          ))
          (λ can. inl refl)
  all_down_makes (stmt.Bcast other place reg len) = inl (quiet_bcast s (kind_number kind_of.AllDown) comm to rank other place reg len refl)
  all_down_makes (stmt.Reduce other place op ty dst src) = inl (quiet_reduce s (kind_number kind_of.AllDown) comm to rank other place dst src op ty refl)
  all_down_makes _ = inl refl
