-- By whichever messages a rank's collective calls are counted, the number is the same.
use Rattle.std.proofs.Common.{◌≡◌, ◌≢◌, ℕ, ◌+◌, ◌==◌, Bool, true, false, ◌&&◌, List, [], ◌∷◌, ◌++◌, map, refl, sym, ap, ◌∙◌, subst, arith, inl, inr}
use Rattle.std.specs.Prelude.{slice_index}
use Rattle.std.proofs.lemmas.Bool.{eq-eqb, eqb-true}
use Rattle.scc_base.specs.Heads.{MessageHead, kind_number}
use Rattle.scc_base.specs.Setups.{SetupView, members_of, place_of}
use Rattle.scc_base.specs.declared.kinds.Kind.TheVariants as kind_of
use Rattle.groups.specs.Collectives.{fold_each, head_of_kind, others_of, root_steps, send_each}
use Rattle.groups.specs.declared.collectives.Coll.TheVariants as coll
use Rattle.groups.specs.declared.collectives.Step.TheVariants as step
use Rattle.groups.specs.declared.operations.Op.{Op}
use Rattle.groups.specs.declared.operations.Ty.{Ty}
use Rattle.script_rules.specs.Script.{Script}
use Rattle.script_rules.specs.declared.script.Stmt.{Stmt}
use Rattle.script_rules.specs.declared.script.Stmt.TheVariants as stmt
use Rattle.script_machine.specs.declared.prims.Operands.{Operands}
use Rattle.script_machine.specs.declared.prims.Source.{Source}
use Rattle.script_machine.specs.declared.prims.Source.TheVariants as source_of
use Rattle.script_machine.specs.declared.prims.Standing.TheVariants as standing
use Rattle.plain_meaning.specs.Collectives.{AreCountedAlike, IsOther, MadeByItems, StandsAtStatement, gone_by, gone_through, start_of_rank}
use Rattle.plain_meaning.specs.Collectives.MadeByItems.{Done, Then}
use Rattle.plain_meaning.specs.Meaning.{State, next_of}
use Rattle.script_machine.specs.Program.{Act, Prim, acts_of, parts_of, program_of, setup_of}
use Rattle.script_machine.specs.Program.Act.{Send, Begin, Finish}
use Rattle.plain_meaning.proofs.Collectives.BroadcastLaws.{bcast_operands}
use Rattle.plain_meaning.proofs.Collectives.CollectiveGroups.{AreApart, Each, bcast_parts, folds_parts, gathers, is_in_others, others_apart}
use Rattle.plain_meaning.proofs.Collectives.CollectivePaths.{Facing, IsIn}
use Rattle.plain_meaning.proofs.Arrivals.MessageCounts.{Counts, gathers_send_none, got_in, got_so_far, has_kind, none_if, one_counted, one_if, receipts_counted, sends_apart, sends_counted, sends_other, sent_in, sent_so_far, total_both, total_of}
use Rattle.plain_meaning.proofs.Orders.OrderLaws.{different}
use Rattle.plain_meaning.proofs.OwnWays.ProgramLaws.{past_act, program_made, stays}
use Rattle.plain_meaning.proofs.Collectives.ReductionLaws.{all_down_parts, down_sends}
use Rattle.plain_meaning.proofs.Collectives.ReductionPaths.{fold_operands}
use Rattle.plain_meaning.proofs.Arrivals.StatementSends.{by_part, quiet_allreduce, quiet_bcast, quiet_reduce}
use Rattle.script_machine.proofs.Choices as choices

-- what is left adds
abbrev total_left : (Act → ℕ) → List Prim → ℕ
total_left adds [] = 0
total_left adds (prim ∷ prims) = adds prim.act + total_left adds prims

left_both : (adds : Act → ℕ) (line : ℕ) (acts : List Act) (rest : List Prim) → total_left adds (map (λ act. record { line = line; act = act }) acts ++ rest) ≡ total_of adds acts + total_left adds rest
left_both adds line [] rest = omega arith
left_both adds line (a ∷ acts) rest = let more = left_both adds line acts rest in omega (arith, more)

-- what a rank has done and what is left together stay as they are
conserved_by : (measure : State → ℕ) (adds : Act → ℕ) → Counts measure adds → (bytes : List ℕ) (path : List (List ℕ)) (u : State) (left : List Prim) → u.local.standing ≡ standing.Running → u.local.left ≡ left
    → ((v : State) → v.local.standing ≡ standing.Running → measure (gone_through path v) + total_left adds (gone_through path v).local.left ≡ measure v + total_left adds v.local.left)
    → measure (gone_through (bytes ∷ path) u) + total_left adds (gone_through (bytes ∷ path) u).local.left ≡ measure u + total_left adds u.local.left
conserved_by measure adds counts bytes path u [] running none on = ap (λ (v : State). measure v + total_left adds v.local.left) (stays (bytes ∷ path) u running none)
conserved_by measure adds counts bytes path u (prim ∷ rest) running is on =
    let facing : Facing prim.line (prim.act ∷ []) rest u = record { running = running; left = is } in
    let one = one_counted measure adds counts prim.line [] rest prim.act [] bytes u facing in
    let further = past_act prim.line rest prim.act [] bytes u facing in
    let more = on (gone_by bytes u (next_of u)) further.running in
    let before : total_left adds u.local.left ≡ adds prim.act + total_left adds rest = ap (total_left adds) is in
    let after : total_left adds (gone_by bytes u (next_of u)).local.left ≡ total_left adds rest = ap (total_left adds) further.left in
    omega (arith, one, more, before, after)

conserved : (measure : State → ℕ) (adds : Act → ℕ) → Counts measure adds → (path : List (List ℕ)) (u : State) → u.local.standing ≡ standing.Running
    → measure (gone_through path u) + total_left adds (gone_through path u).local.left ≡ measure u + total_left adds u.local.left
conserved measure adds counts [] u running = refl
conserved measure adds counts (bytes ∷ path) u running = conserved_by measure adds counts bytes path u u.local.left running refl (conserved measure adds counts path)

-- two counts to which each statement of a rank adds the same are equal wherever it stands at one
module _ (script : Script) (rank : ℕ) (f g : State → ℕ) (a b : Act → ℕ) (by_f : Counts f a) (by_g : Counts g b) (same : (statement : Stmt) → total_of a (acts_of (setup_of script) rank statement) ≡ total_of b (acts_of (setup_of script) rank statement)) where
  made_alike : (prims : List Prim) → MadeByItems (setup_of script) rank script.items prims → total_left a prims ≡ total_left b prims
  made_alike prims Done = refl
  made_alike prims (Then item is rest more) =
      let one = same item.stmt in
      let others = made_alike rest more in
      let first = left_both a item.line (acts_of (setup_of script) rank item.stmt) rest in
      let second = left_both b item.line (acts_of (setup_of script) rank item.stmt) rest in
      first ∙ (omega (arith, one, others)) ∙ sym second

  alike : f (start_of_rank script rank) ≡ g (start_of_rank script rank) → (statement : Stmt) (u : State) → StandsAtStatement script rank statement u → f u ≡ g u
  alike start statement u stood =
      let one = conserved f a by_f stood.way (start_of_rank script rank) refl in
      let two = conserved g b by_g stood.way (start_of_rank script rank) refl in
      let all = made_alike (program_of script rank) (program_made script rank) in
      let rest = made_alike stood.rest stood.afterwards in
      let here = same statement in
      let first : total_left a u.local.left ≡ total_of a (acts_of (setup_of script) rank statement) + total_left a stood.rest = ap (total_left a) stood.next ∙ left_both a stood.item.line (acts_of (setup_of script) rank statement) stood.rest in
      let second : total_left b u.local.left ≡ total_of b (acts_of (setup_of script) rank statement) + total_left b stood.rest = ap (total_left b) stood.next ∙ left_both b stood.item.line (acts_of (setup_of script) rank statement) stood.rest in
      let now_f : f u + total_left a u.local.left ≡ f (start_of_rank script rank) + total_left a (program_of script rank) = ap (λ (v : State). f v + total_left a v.local.left) stood.reached ∙ one in
      let now_g : g u + total_left b u.local.left ≡ g (start_of_rank script rank) + total_left b (program_of script rank) = ap (λ (v : State). g v + total_left b v.local.left) stood.reached ∙ two in
      omega (arith, start, all, rest, here, first, second, now_f, now_g)

-- one of a list with no two equal
apart_in : (x y : ℕ) (list : List ℕ) → Each (λ z. x ≢ z) list → IsIn y list → x ≢ y
apart_in x y [] apart within = absurd within
apart_in x y (z ∷ list) apart (inl is) = λ e. apart.0 (e ∙ sym is)
apart_in x y (z ∷ list) apart (inr within) = apart_in x y list apart.1 within

one_here : (passes : Bool) (x y : ℕ) → passes ≡ true → x ≡ y → one_if (passes && (x == y)) ≡ 1
one_here passes x y is same = ap one_if (choices.and_of passes (x == y) is (eq-eqb x y same))

-- a send to each of a list, and a receive from each
module _ (kind comm : ℕ) (head : MessageHead) where
  sends_exactly : (to : ℕ) (source : Source) → has_kind kind comm head ≡ true → (list : List ℕ) → AreApart list → IsIn to list → total_of (sent_in kind comm to) (map (λ x. Send x head source) list) ≡ 1
  sends_exactly to source mine [] apart within = absurd within
  sends_exactly to source mine (x ∷ list) apart (inl is) =
      let one = one_here (has_kind kind comm head) x to mine is in
      let none = sends_apart kind comm to head source x is list apart.0 in
      omega (arith, one, none)
  sends_exactly to source mine (x ∷ list) apart (inr within) =
      let none = none_if (has_kind kind comm head) (x == to) (different x to (apart_in x to list apart.0 within)) in
      let more = sends_exactly to source mine list apart.1 within in
      omega (arith, none, more)

  sends_get_none : (from : ℕ) (source : Source) (list : List ℕ) → total_of (got_in kind comm from) (map (λ x. Send x head source) list) ≡ 0
  sends_get_none from source [] = refl
  sends_get_none from source (x ∷ list) = let more = sends_get_none from source list in omega (arith, more)

  module _ (o : Operands) where
    gets_other : (from : ℕ) → has_kind kind comm head ≡ false → (list : List ℕ) → total_of (got_in kind comm from) (gathers o head list) ≡ 0
    gets_other from odd [] = refl
    gets_other from odd (x ∷ list) =
        let one : one_if (has_kind kind comm head && (x == from)) ≡ 0 = ap (λ (b : Bool). one_if (b && (x == from))) odd in
        let more = gets_other from odd list in
        omega (arith, one, more)

    gets_apart : (from x : ℕ) → x ≡ from → (list : List ℕ) → Each (λ y. x ≢ y) list → total_of (got_in kind comm from) (gathers o head list) ≡ 0
    gets_apart from x is [] apart = refl
    gets_apart from x is (y ∷ list) apart =
        let one = none_if (has_kind kind comm head) (y == from) (different y from (λ e. apart.0 (is ∙ sym e))) in
        let more = gets_apart from x is list apart.1 in
        omega (arith, one, more)

    gets_exactly : (from : ℕ) → has_kind kind comm head ≡ true → (list : List ℕ) → AreApart list → IsIn from list → total_of (got_in kind comm from) (gathers o head list) ≡ 1
    gets_exactly from mine [] apart within = absurd within
    gets_exactly from mine (x ∷ list) apart (inl is) =
        let one = one_here (has_kind kind comm head) x from mine is in
        let none = gets_apart from x is list apart.0 in
        omega (arith, one, none)
    gets_exactly from mine (x ∷ list) apart (inr within) =
        let none = none_if (has_kind kind comm head) (x == from) (different x from (apart_in x from list apart.0 within)) in
        let more = gets_exactly from mine list apart.1 within in
        omega (arith, none, more)

-- what the roots of reductions add
module _ (adds : Act → ℕ) (op : Op) (ty : Ty) (dst src : ℕ) (begins : adds (Begin src) ≡ 0) (finishes : adds (Finish dst) ≡ 0) where
  reduce_root_adds : (head : MessageHead) (list : List ℕ) → total_of adds (parts_of (fold_operands op ty dst src) (step.Begin ∷ fold_each head list ++ step.Finish ∷ [])) ≡ total_of adds (gathers (fold_operands op ty dst src) head list)
  reduce_root_adds head list =
      ap (λ (l : List Act). total_of adds (Begin src ∷ l)) (folds_parts (fold_operands op ty dst src) true head list (step.Finish ∷ []))
      ∙ (let both = total_both adds (gathers (fold_operands op ty dst src) head list) (Finish dst ∷ []) in omega (arith, both, begins, finishes))

  all_root_adds : (other : ℕ) (list : List ℕ)
      → total_of adds (parts_of (fold_operands op ty dst src) (root_steps (coll.Allreduce other 0) list))
      ≡ total_of adds (gathers (fold_operands op ty dst src) (head_of_kind kind_of.AllUp other 0) list) + total_of adds (map (λ x. Send x (head_of_kind kind_of.AllDown other 0) source_of.Accumulator) list)
  all_root_adds other list =
      ap (λ (l : List Act). total_of adds (Begin src ∷ l)) (all_down_parts other dst src op ty list)
      ∙ (let both = total_both adds (gathers (fold_operands op ty dst src) (head_of_kind kind_of.AllUp other 0) list) (down_sends other dst list) in
      let more = total_both adds (map (λ (x : ℕ). Send x (head_of_kind kind_of.AllDown other 0) source_of.Accumulator) list) (Finish dst ∷ []) in
      omega (arith, both, more, begins, finishes))

-- one of the others is one of those to whom the root sends
in_root_others : (s : SetupView) (comm place root to other at : ℕ) → IsOther s comm place root to → other ≡ comm → place_of s other root ≡ at → IsIn to (others_of s other root at)
in_root_others s comm place root to other at is same here =
    subst (λ (x : ℕ). place_of s x root ≡ at → IsIn to (others_of s x root at)) (sym same)
    (λ (there : place_of s comm root ≡ at). subst (λ (p : ℕ). IsIn to (others_of s comm root p)) (sym is.placed.placed ∙ there) (is_in_others s comm place root to is)) here

-- nothing is received of a broadcast but its own messages
module _ (s : SetupView) (kind comm from rank : ℕ) where
  gets_no_bcast : (other place reg len : ℕ) → has_kind kind comm (head_of_kind kind_of.Bcast other len) ≡ false → total_of (got_in kind comm from) (acts_of s rank (stmt.Bcast other place reg len)) ≡ 0
  gets_no_bcast other place reg len odd =
      by_part s rank (coll.Bcast other place len) (bcast_operands reg) (λ acts. total_of (got_in kind comm from) acts ≡ 0) refl
      (λ can at. ap (total_of (got_in kind comm from)) (bcast_parts (bcast_operands reg) (head_of_kind kind_of.Bcast other len) (others_of s other rank place))
      ∙ sends_get_none kind comm (head_of_kind kind_of.Bcast other len) from (source_of.Own reg) (others_of s other rank place))
      (λ can. let one : one_if (has_kind kind comm (head_of_kind kind_of.Bcast other len) && (slice_index (members_of s other rank) place == from)) ≡ 0 =
      ap (λ (b : Bool). one_if (b && (slice_index (members_of s other rank) place == from))) odd in
      omega (arith, one))

  gets_no_reduce : (other place dst src : ℕ) (op : Op) (ty : Ty) → has_kind kind comm (head_of_kind kind_of.Reduce other 0) ≡ false → total_of (got_in kind comm from) (acts_of s rank (stmt.Reduce other place op ty dst src)) ≡ 0
  gets_no_reduce other place dst src op ty odd =
      by_part s rank (coll.Reduce other place 0) (fold_operands op ty dst src) (λ acts. total_of (got_in kind comm from) acts ≡ 0) refl
      (λ can at. reduce_root_adds (got_in kind comm from) op ty dst src refl refl (head_of_kind kind_of.Reduce other 0) (others_of s other rank place)
      ∙ gets_other kind comm (head_of_kind kind_of.Reduce other 0) (fold_operands op ty dst src) from odd (others_of s other rank place))
      (λ can. refl)

-- broadcasts: the root sends to each of the others
module _ (s : SetupView) (comm place root one two : ℕ) (first : IsOther s comm place root one) (second : IsOther s comm place root two) where
  bcasts_alike : (statement : Stmt) → total_of (sent_in (kind_number kind_of.Bcast) comm one) (acts_of s root statement) ≡ total_of (sent_in (kind_number kind_of.Bcast) comm two) (acts_of s root statement)
  bcasts_alike (stmt.Bcast other at reg len) = by (other == comm) refl
    where
      K : ℕ
      K = kind_number kind_of.Bcast

      each : (to : ℕ) → IsOther s comm place root to → (other == comm) ≡ true → place_of s other root ≡ at → total_of (sent_in K comm to) (parts_of (bcast_operands reg) (send_each (head_of_kind kind_of.Bcast other len) (others_of s other root at))) ≡ 1
      each to is same here =
          ap (total_of (sent_in K comm to)) (bcast_parts (bcast_operands reg) (head_of_kind kind_of.Bcast other len) (others_of s other root at))
          ∙ sends_exactly K comm (head_of_kind kind_of.Bcast other len) to (source_of.Own reg) same (others_of s other root at) (others_apart s other at root)
          (in_root_others s comm place root to other at is (eqb-true other comm same) here)

      by : (same : Bool) → (other == comm) ≡ same → total_of (sent_in K comm one) (acts_of s root (stmt.Bcast other at reg len)) ≡ total_of (sent_in K comm two) (acts_of s root (stmt.Bcast other at reg len))
      by false odd = quiet_bcast s K comm one root other at reg len odd ∙ sym (quiet_bcast s K comm two root other at reg len odd)
      by true same =
          by_part s root (coll.Bcast other at len) (bcast_operands reg) (λ acts. total_of (sent_in K comm one) acts ≡ total_of (sent_in K comm two) acts) refl
          (λ can here. each one first same here ∙ sym (each two second same here)) (λ can. refl)
  bcasts_alike (stmt.Reduce other at op ty dst src) = quiet_reduce s (kind_number kind_of.Bcast) comm one root other at dst src op ty refl ∙ sym (quiet_reduce s (kind_number kind_of.Bcast) comm two root other at dst src op ty refl)
  bcasts_alike (stmt.Allreduce other op ty dst src) = quiet_allreduce s (kind_number kind_of.Bcast) comm one root other dst src op ty refl refl ∙ sym (quiet_allreduce s (kind_number kind_of.Bcast) comm two root other dst src op ty refl refl)
  bcasts_alike _ = refl

  -- reductions: the root receives from each of the others
  reduces_alike : (statement : Stmt) → total_of (got_in (kind_number kind_of.Reduce) comm one) (acts_of s root statement) ≡ total_of (got_in (kind_number kind_of.Reduce) comm two) (acts_of s root statement)
  reduces_alike (stmt.Reduce other at op ty dst src) = by (other == comm) refl
    where
      K : ℕ
      K = kind_number kind_of.Reduce

      each : (from : ℕ) → IsOther s comm place root from → (other == comm) ≡ true → place_of s other root ≡ at → total_of (got_in K comm from) (parts_of (fold_operands op ty dst src) (root_steps (coll.Reduce other at 0) (others_of s other root at))) ≡ 1
      each from is same here =
          reduce_root_adds (got_in K comm from) op ty dst src refl refl (head_of_kind kind_of.Reduce other 0) (others_of s other root at)
          ∙ gets_exactly K comm (head_of_kind kind_of.Reduce other 0) (fold_operands op ty dst src) from same (others_of s other root at) (others_apart s other at root)
          (in_root_others s comm place root from other at is (eqb-true other comm same) here)

      by : (same : Bool) → (other == comm) ≡ same → total_of (got_in K comm one) (acts_of s root (stmt.Reduce other at op ty dst src)) ≡ total_of (got_in K comm two) (acts_of s root (stmt.Reduce other at op ty dst src))
      by false odd = gets_no_reduce s K comm one root other at dst src op ty odd ∙ sym (gets_no_reduce s K comm two root other at dst src op ty odd)
      by true same =
          by_part s root (coll.Reduce other at 0) (fold_operands op ty dst src) (λ acts. total_of (got_in K comm one) acts ≡ total_of (got_in K comm two) acts) refl
          (λ can here. each one first same here ∙ sym (each two second same here)) (λ can. refl)
  reduces_alike (stmt.Bcast other at reg len) = gets_no_bcast s (kind_number kind_of.Reduce) comm one root other at reg len refl ∙ sym (gets_no_bcast s (kind_number kind_of.Reduce) comm two root other at reg len refl)
  reduces_alike (stmt.Allreduce other op ty dst src) = none one ∙ sym (none two)
    where
      K : ℕ
      K = kind_number kind_of.Reduce

      none : (from : ℕ) → total_of (got_in K comm from) (acts_of s root (stmt.Allreduce other op ty dst src)) ≡ 0
      none from =
          by_part s root (coll.Allreduce other 0) (fold_operands op ty dst src) (λ acts. total_of (got_in K comm from) acts ≡ 0) refl
          (λ can here. all_root_adds (got_in K comm from) op ty dst src refl refl other (others_of s other root 0)
          ∙ (let gets = gets_other K comm (head_of_kind kind_of.AllUp other 0) (fold_operands op ty dst src) from refl (others_of s other root 0) in
          let sends = sends_get_none K comm (head_of_kind kind_of.AllDown other 0) from source_of.Accumulator (others_of s other root 0) in
          omega (arith, gets, sends)))
          (λ can. refl)
  reduces_alike _ = refl

-- reductions to all: member 0 receives from each of the others, and sends to each
module _ (s : SetupView) (comm root one two : ℕ) (first : IsOther s comm 0 root one) (second : IsOther s comm 0 root two) where
  all_alike : (statement : Stmt) → total_of (got_in (kind_number kind_of.AllUp) comm one) (acts_of s root statement) ≡ total_of (sent_in (kind_number kind_of.AllDown) comm two) (acts_of s root statement)
  all_alike (stmt.Allreduce other op ty dst src) =
      by_part s root (coll.Allreduce other 0) (fold_operands op ty dst src) (λ acts. total_of (got_in U comm one) acts ≡ total_of (sent_in D comm two) acts) refl
      (λ can here. all_root_adds (got_in U comm one) op ty dst src refl refl other others
      ∙ (let sends = sends_get_none U comm (head_of_kind kind_of.AllDown other 0) one source_of.Accumulator others in
      let gets = gathers_send_none D comm o (head_of_kind kind_of.AllUp other 0) two others in
      let both = by (other == comm) refl here in
      omega (arith, sends, gets, both))
      ∙ sym (all_root_adds (sent_in D comm two) op ty dst src refl refl other others))
      (λ can. refl)
    where
      U : ℕ
      U = kind_number kind_of.AllUp

      D : ℕ
      D = kind_number kind_of.AllDown

      o : Operands
      o = fold_operands op ty dst src

      others : List ℕ
      others = others_of s other root 0

      by : (same : Bool) → (other == comm) ≡ same → place_of s other root ≡ 0
          → total_of (got_in U comm one) (gathers o (head_of_kind kind_of.AllUp other 0) others) ≡ total_of (sent_in D comm two) (map (λ x. Send x (head_of_kind kind_of.AllDown other 0) source_of.Accumulator) others)
      by false odd here =
          gets_other U comm (head_of_kind kind_of.AllUp other 0) o one odd others
          ∙ sym (sends_other D comm two (head_of_kind kind_of.AllDown other 0) source_of.Accumulator odd others)
      by true same here =
          gets_exactly U comm (head_of_kind kind_of.AllUp other 0) o one same others (others_apart s other 0 root) (in_root_others s comm 0 root one other 0 first (eqb-true other comm same) here)
          ∙ sym (sends_exactly D comm (head_of_kind kind_of.AllDown other 0) two source_of.Accumulator same others (others_apart s other 0 root) (in_root_others s comm 0 root two other 0 second (eqb-true other comm same) here))
  all_alike (stmt.Bcast other at reg len) = gets_no_bcast s (kind_number kind_of.AllUp) comm one root other at reg len refl ∙ sym (quiet_bcast s (kind_number kind_of.AllDown) comm two root other at reg len refl)
  all_alike (stmt.Reduce other at op ty dst src) = gets_no_reduce s (kind_number kind_of.AllUp) comm one root other at dst src op ty refl ∙ sym (quiet_reduce s (kind_number kind_of.AllDown) comm two root other at dst src op ty refl)
  all_alike _ = refl

-- and each of the others sends to member 0, and receives from it
told_alike : (s : SetupView) (comm root rank : ℕ) (statement : Stmt) → total_of (sent_in (kind_number kind_of.AllUp) comm root) (acts_of s rank statement) ≡ total_of (got_in (kind_number kind_of.AllDown) comm root) (acts_of s rank statement)
told_alike s comm root rank (stmt.Allreduce other op ty dst src) =
    by_part s rank (coll.Allreduce other 0) o (λ acts. total_of (sent_in U comm root) acts ≡ total_of (got_in D comm root) acts) refl
    (λ can here. all_root_adds (sent_in U comm root) op ty dst src refl refl other others
    ∙ (let one = gathers_send_none U comm o (head_of_kind kind_of.AllUp other 0) root others in
    let two = sends_other U comm root (head_of_kind kind_of.AllDown other 0) source_of.Accumulator refl others in
    let three = gets_other D comm (head_of_kind kind_of.AllUp other 0) o root refl others in
    let four = sends_get_none D comm (head_of_kind kind_of.AllDown other 0) root source_of.Accumulator others in
    omega (arith, one, two, three, four))
    ∙ sym (all_root_adds (got_in D comm root) op ty dst src refl refl other others))
    (λ can. omega arith)
  where
    U : ℕ
    U = kind_number kind_of.AllUp

    D : ℕ
    D = kind_number kind_of.AllDown

    o : Operands
    o = fold_operands op ty dst src

    others : List ℕ
    others = others_of s other rank 0
told_alike s comm root rank (stmt.Bcast other at reg len) = quiet_bcast s (kind_number kind_of.AllUp) comm root rank other at reg len refl ∙ sym (gets_no_bcast s (kind_number kind_of.AllDown) comm root rank other at reg len refl)
told_alike s comm root rank (stmt.Reduce other at op ty dst src) = quiet_reduce s (kind_number kind_of.AllUp) comm root rank other at dst src op ty refl ∙ sym (gets_no_reduce s (kind_number kind_of.AllDown) comm root rank other at dst src op ty refl)
told_alike s comm root rank _ = refl

pub counted : (script : Script) → AreCountedAlike script
counted script = record {
  broadcasts = λ comm place root one two statement u first second stood.
      let K = kind_number kind_of.Bcast in
      alike script root (sent_so_far K comm one) (sent_so_far K comm two) (sent_in K comm one) (sent_in K comm two) (sends_counted K comm one refl) (sends_counted K comm two refl)
      (bcasts_alike (setup_of script) comm place root one two first second) refl statement u stood;
  reductions = λ comm place root one two statement u first second stood.
      let K = kind_number kind_of.Reduce in
      alike script root (got_so_far K comm one) (got_so_far K comm two) (got_in K comm one) (got_in K comm two) (receipts_counted K comm one) (receipts_counted K comm two)
      (reduces_alike (setup_of script) comm place root one two first second) refl statement u stood;
  reductions_to_all = λ comm root one two statement u first second stood.
      let U = kind_number kind_of.AllUp in
      let D = kind_number kind_of.AllDown in
      alike script root (got_so_far U comm one) (sent_so_far D comm two) (got_in U comm one) (sent_in D comm two) (receipts_counted U comm one) (sends_counted D comm two refl)
      (all_alike (setup_of script) comm root one two first second) refl statement u stood;
  told = λ comm root rank statement u is stood.
      let U = kind_number kind_of.AllUp in
      let D = kind_number kind_of.AllDown in
      alike script rank (sent_so_far U comm root) (got_so_far D comm root) (sent_in U comm root) (got_in D comm root) (sends_counted U comm root refl) (receipts_counted D comm root)
      (told_alike (setup_of script) comm root rank) refl statement u stood;
}
