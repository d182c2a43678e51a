-- The program of a rank keeps the lengths of its registers, where its statements do.
use Rattle.std.proofs.Common.{◌≡◌, ◌≢◌, ℕ, ◌+◌, ◌%◌, ◌==◌, Bool, true, false, cond, List, [], ◌∷◌, ◌++◌, map, Option, Some, None, refl, sym, ap, ◌∙◌, subst, slice_get, append_assoc}
use Rattle.std.specs.Prelude.{pos, slice_index}
use Rattle.std.proofs.lemmas.Bool.{eqb-true, eqb-false}
use Rattle.std.proofs.lemmas.List.FromFn.{length-map-range_with_len}
use Rattle.groups.specs.Collectives.{comm_of, fold_each, head_of_kind, other_steps, others_of, root_place, root_steps, send_each, steps_of}
use Rattle.groups.specs.declared.collectives.Coll.{Coll}
use Rattle.groups.specs.declared.collectives.Coll.TheVariants as coll
use Rattle.groups.specs.declared.collectives.Step.{Step}
use Rattle.groups.specs.declared.collectives.Step.TheVariants as step
use Rattle.groups.specs.declared.operations.Op.TheVariants as op_of
use Rattle.groups.specs.declared.operations.Ty.TheVariants as ty_of
use Rattle.groups.proofs.FoldLemmas.{bytes_length}
use Rattle.scc_base.specs.Heads.{MessageHead}
use Rattle.scc_base.specs.Setups.{SetupView, members_of, place_of}
use Rattle.scc_base.specs.declared.kinds.Kind.TheVariants as kind
use Rattle.script_rules.specs.Script.{has_rank}
use Rattle.script_rules.specs.declared.script.Item.{Item}
use Rattle.script_rules.specs.declared.script.Stmt.{Stmt}
use Rattle.script_rules.specs.declared.script.Stmt.TheVariants as stmt
use Rattle.script_machine.proofs.ProgramLengths.LengthLemmas.{Reckons}
use Rattle.script_machine.specs.declared.prims.Operands.{Operands}
use Rattle.script_machine.specs.Program.{Act, Prim, acts_of, begins, call_steps, can_call, part_of, parts_of, prims_of, unrolled_items}
use Rattle.plain_meaning.specs.Kept.{Keeps, folding, gathering}
use Rattle.plain_meaning.proofs.Collectives.ReductionPaths.{fold_operands}
use Rattle.script_machine.proofs.Walks.UnrolledLaws.{hold_program}

module _ (had : ℕ → Option ℕ) where
  -- whatever stands in the accumulator and in the received bytes
  abbrev KeepsAlways : List Prim → Type 0
  KeepsAlways prims = (acc got : Option ℕ) → Keeps had acc got prims

  keeps_both : (one two : List Prim) (acc got : Option ℕ) → Keeps had acc got one → KeepsAlways two → Keeps had acc got (one ++ two)
  keeps_both [] two acc got first second = second acc got
  keeps_both (prim ∷ one) two acc got first second = (first.0, keeps_both one two (folding had acc prim.act) (gathering had got prim.act) first.1 second)

  always_both : (one two : List Prim) → KeepsAlways one → KeepsAlways two → KeepsAlways (one ++ two)
  always_both one two first second acc got = keeps_both one two acc got (first acc got) second

  -- the acts of one line
  abbrev KeepsActs : ℕ → Option ℕ → Option ℕ → List Act → Type 0
  KeepsActs line acc got acts = Keeps had acc got (map (λ act. record { line = line; act = act }) acts)

  module _ (line : ℕ) (o : Operands) (begun : Bool) (head : MessageHead) where
    keeps_send_each : (list : List ℕ) (acc got : Option ℕ) → KeepsActs line acc got (map (part_of o begun) (send_each head list))
    keeps_send_each [] acc got = tt
    keeps_send_each (to ∷ list) acc got = (tt, keeps_send_each list acc got)

    keeps_sends : (list : List ℕ) (more : List Step) (acc got : Option ℕ) → KeepsActs line acc got (map (part_of o begun) more) → KeepsActs line acc got (map (part_of o begun) (send_each head list ++ more))
    keeps_sends [] more acc got rest = rest
    keeps_sends (to ∷ list) more acc got rest = (tt, keeps_sends list more acc got rest)

    keeps_folds : (list : List ℕ) (more : List Step) (acc got : Option ℕ) → ((next : Option ℕ) → KeepsActs line acc next (map (part_of o begun) more)) → KeepsActs line acc got (map (part_of o begun) (fold_each head list ++ more))
    keeps_folds [] more acc got rest = rest got
    keeps_folds (from ∷ list) more acc got rest = (tt, (tt, keeps_folds list more acc (gathering had got (Act.Gather from head o.sized)) rest))

  -- a collective call keeps them where the steps of the root and those of the others do
  keeps_call : (s : SetupView) (rank line : ℕ) (c : Coll) (o : Operands) (acc got : Option ℕ)
      → (place_of s (comm_of c) rank ≡ root_place c → (list : List ℕ) → KeepsActs line acc got (parts_of o (root_steps c list)))
      → (place_of s (comm_of c) rank ≢ root_place c → (root : ℕ) → KeepsActs line acc got (parts_of o (other_steps c root)))
      → KeepsActs line acc got (parts_of o (call_steps s rank c))
  keeps_call s rank line c o acc got as_root as_other = by_call (can_call s rank c)
    where
      by_place : (b : Bool) → (place_of s (comm_of c) rank == root_place c) ≡ b
          → KeepsActs line acc got (parts_of o (cond b (root_steps c (others_of s (comm_of c) rank (root_place c))) (other_steps c (slice_index (members_of s (comm_of c) rank) (root_place c)))))
      by_place true is = as_root (eqb-true (place_of s (comm_of c) rank) (root_place c) is) (others_of s (comm_of c) rank (root_place c))
      by_place false is = as_other (eqb-false (place_of s (comm_of c) rank) (root_place c) is) (slice_index (members_of s (comm_of c) rank) (root_place c))

      by_call : (b : Bool) → KeepsActs line acc got (parts_of o (cond b (steps_of s rank c) []))
      by_call true = by_place (place_of s (comm_of c) rank == root_place c) refl
      by_call false = tt

  -- each statement keeps them
  keeps_statement : (s : SetupView) (rank line : ℕ) (statement : Stmt) → Reckons s.comms had rank statement → (acc got : Option ℕ) → KeepsActs line acc got (acts_of s rank statement)
  keeps_statement s rank line (stmt.Bytes reg bytes) is acc got = (is, tt)
  keeps_statement s rank line (stmt.Fill reg len start) is acc got = (is ∙ ap Some (sym (length-map-range_with_len (λ (i : ℕ). (start + i) % 251) 0 len)), tt)
  keeps_statement s rank line (stmt.RankOf reg ty) is acc got = (is ∙ ap Some (sym (bytes_length ty (pos rank))), tt)
  keeps_statement s rank line (stmt.Post peer reg) is acc got = (is, tt)
  keeps_statement s rank line (stmt.Recv peer reg len) is acc got = (is, tt)
  keeps_statement s rank line (stmt.Bcast comm root reg len) is acc got =
      let o : Operands = record { op = op_of.Sum; ty = ty_of.Int; dst = reg; src = reg; sized = None } in
      keeps_call s rank line (coll.Bcast comm root len) o acc got
      (λ at list. keeps_send_each line o (begins (send_each (head_of_kind kind.Bcast comm len) list)) (head_of_kind kind.Bcast comm len) list acc got)
      (λ apart from. (tt, (is apart, tt)))
  keeps_statement s rank line (stmt.Reduce comm root op ty dst src) is acc got =
      let o : Operands = fold_operands op ty dst src in
      keeps_call s rank line (coll.Reduce comm root 0) o acc got
      (λ at list. (tt, keeps_folds line o true (head_of_kind kind.Reduce comm 0) list (step.Finish ∷ []) (had src) got (λ next. (is.1 at, tt))))
      (λ apart from. (tt, tt))
  keeps_statement s rank line (stmt.Allreduce comm op ty dst src) is acc got =
      let o : Operands = fold_operands op ty dst src in
      keeps_call s rank line (coll.Allreduce comm 0) o acc got
      (λ at list. (
        tt,
        subst (λ (l : List Step). KeepsActs line (had src) got (map (part_of o true) l))
            (sym (append_assoc (fold_each (head_of_kind kind.AllUp comm 0) list) (send_each (head_of_kind kind.AllDown comm 0) list) (step.Finish ∷ [])))
            (keeps_folds line o true (head_of_kind kind.AllUp comm 0) list (send_each (head_of_kind kind.AllDown comm 0) list ++ step.Finish ∷ []) (had src) got
            (λ next. keeps_sends line o true (head_of_kind kind.AllDown comm 0) list (step.Finish ∷ []) (had src) next (is.1, tt))),
      ))
      (λ apart from. (tt, (tt, (is.1, tt))))
  keeps_statement s rank line (stmt.Repeat times end) is acc got = tt
  keeps_statement s rank line (stmt.End start) is acc got = tt
  keeps_statement s rank line _ is acc got = (tt, tt)

  keeps_prims : (s : SetupView) (rank : ℕ) (item : Item) → (has_rank item.who rank ≡ true → Reckons s.comms had rank item.stmt) → KeepsAlways (prims_of s rank item)
  keeps_prims s rank item is acc got = by (has_rank item.who rank) refl
    where
      by : (b : Bool) → has_rank item.who rank ≡ b → Keeps had acc got (cond b (map (λ act. record { line = item.line; act = act }) (acts_of s rank item.stmt)) [])
      by true has = keeps_statement s rank item.line item.stmt (is has) acc got
      by false has = tt

  pub keeps_items : (s : SetupView) (rank : ℕ) (items : List Item) → ((k : ℕ) (item : Item) → slice_get items k ≡ Some item → has_rank item.who rank ≡ true → Reckons s.comms had rank item.stmt)
      → (acc got : Option ℕ) → Keeps had acc got (unrolled_items s rank items).here
  keeps_items s rank items each = hold_program KeepsAlways (λ acc got. tt) always_both s rank items (λ k item found. keeps_prims s rank item (each k item found))
