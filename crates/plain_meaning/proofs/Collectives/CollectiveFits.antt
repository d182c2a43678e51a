-- A rank of a script that was read may make each collective call that it comes to, and what it reduces is whole values.
use Rattle.std.proofs.Common.{◌≡◌, ℕ, ◌<◌, ◌%◌, true, ◌++◌, Some, None, length, refl, sym, ap, ◌∙◌, slice_get}
use Rattle.scc_base.specs.Runs.{Runs}
use Rattle.groups.specs.Folds.{bytes_in}
use Rattle.groups.specs.declared.collectives.Coll.{Coll}
use Rattle.groups.specs.declared.collectives.Coll.TheVariants as coll
use Rattle.groups.specs.declared.operations.Op.{Op}
use Rattle.groups.specs.declared.operations.Op.TheVariants as op_of
use Rattle.groups.specs.declared.operations.Ty.{Ty}
use Rattle.groups.specs.declared.operations.Ty.TheVariants as ty_of
use Rattle.script_rules.specs.Script.{Script}
use Rattle.script_rules.specs.Settled.{IsWholeScript}
use Rattle.script_rules.specs.declared.script.Stmt.{Stmt}
use Rattle.script_rules.specs.declared.script.Stmt.TheVariants as stmt
use Rattle.script_machine.specs.declared.prims.Collective.{Collective}
use Rattle.plain_meaning.specs.Collectives.{CameTo, HasDone, StandsAtStatement, gone_through}
use Rattle.script_machine.specs.Local.{register_at}
use Rattle.plain_meaning.specs.Meaning.{IsPlainStep, State, keys_of, start_of}
use Rattle.script_machine.specs.Program.{can_call, collective_of, setup_of}
use Rattle.plain_meaning.specs.Step.{Configuration}
use Rattle.script_machine.proofs.ProgramLengths.CallableLaws.{callable}
use Rattle.plain_meaning.proofs.Collectives.CollectivePaths.{through_both}
use Rattle.plain_meaning.proofs.ProgramLengths.LengthLaws.{rank_within, reduced_to_all_whole, reduced_whole}

-- a rank that stands at a collective call may make it
module _ (script : Script) (whole : IsWholeScript script.nue script.items) (rank : ℕ) (below : rank < script.nue) (u : State) where
  may_call : (statement : Stmt) (call : Collective) → collective_of statement ≡ Some call → StandsAtStatement script rank statement u → can_call (setup_of script) rank call.coll ≡ true
  may_call statement call is stood =
      callable script whole stood.listed.place stood.item rank stood.listed.listed below stood.listed.own call (ap collective_of stood.says ∙ is)

  -- the calls that statements are
  abbrev cast_call : ℕ → ℕ → ℕ → ℕ → Collective
  cast_call comm place reg len = record { coll = coll.Bcast comm place len; operands = record { op = op_of.Sum; ty = ty_of.Int; dst = reg; src = reg; sized = None } }

  abbrev reduce_call : Coll → Op → Ty → ℕ → ℕ → Collective
  reduce_call c op ty dst src = record { coll = c; operands = record { op = op; ty = ty; dst = dst; src = src; sized = Some src } }

  pub may_cast : (comm place reg len : ℕ) → StandsAtStatement script rank (stmt.Bcast comm place reg len) u → can_call (setup_of script) rank (coll.Bcast comm place len) ≡ true
  may_cast comm place reg len stood = may_call (stmt.Bcast comm place reg len) (cast_call comm place reg len) refl stood

  pub may_reduce : (comm place dst src : ℕ) (op : Op) (ty : Ty) → StandsAtStatement script rank (stmt.Reduce comm place op ty dst src) u → can_call (setup_of script) rank (coll.Reduce comm place 0) ≡ true
  may_reduce comm place dst src op ty stood = may_call (stmt.Reduce comm place op ty dst src) (reduce_call (coll.Reduce comm place 0) op ty dst src) refl stood

  pub may_reduce_to_all : (comm dst src : ℕ) (op : Op) (ty : Ty) → StandsAtStatement script rank (stmt.Allreduce comm op ty dst src) u → can_call (setup_of script) rank (coll.Allreduce comm 0) ≡ true
  may_reduce_to_all comm dst src op ty stood = may_call (stmt.Allreduce comm op ty dst src) (reduce_call (coll.Allreduce comm 0) op ty dst src) refl stood

-- who has done a statement came to it
pub came_to : (script : Script) (rank : ℕ) (statement : Stmt) (now before after : State) → HasDone script rank statement now before after → CameTo script rank statement now before
came_to script rank statement now before after done = record {
  stood = done.stood;
  later = done.taken ++ done.later;
  since = done.since ∙ ap (λ (x : State). (gone_through done.later x).matched) done.came ∙ ap (λ (x : State). x.matched) (sym (through_both done.taken done.later before));
}

-- what the laws of collective calls need of a script
pub record AreFit (script : Script) (c : Configuration State) : Type 0 where
  pub casts : (rank : ℕ) (u begun : State) (comm place reg len : ℕ) → slice_get c.cells rank ≡ Some u → StandsAtStatement script rank (stmt.Bcast comm place reg len) begun
      → can_call (setup_of script) rank (coll.Bcast comm place len) ≡ true
  pub reduces : (rank : ℕ) (u begun : State) (comm place dst src : ℕ) (op : Op) (ty : Ty) → slice_get c.cells rank ≡ Some u → StandsAtStatement script rank (stmt.Reduce comm place op ty dst src) begun
      → can_call (setup_of script) rank (coll.Reduce comm place 0) ≡ true
  pub reduces_to_all : (rank : ℕ) (u begun : State) (comm dst src : ℕ) (op : Op) (ty : Ty) → slice_get c.cells rank ≡ Some u → StandsAtStatement script rank (stmt.Allreduce comm op ty dst src) begun
      → can_call (setup_of script) rank (coll.Allreduce comm 0) ≡ true
  pub width : (rank : ℕ) (u begun : State) (comm place dst src : ℕ) (op : Op) (ty : Ty) → slice_get c.cells rank ≡ Some u → CameTo script rank (stmt.Reduce comm place op ty dst src) u begun
      → length (register_at begun.local src) % bytes_in ty ≡ 0
  pub width_to_all : (rank : ℕ) (u begun : State) (comm dst src : ℕ) (op : Op) (ty : Ty) → slice_get c.cells rank ≡ Some u → CameTo script rank (stmt.Allreduce comm op ty dst src) u begun
      → length (register_at begun.local src) % bytes_in ty ≡ 0

pub are_fit : (script : Script) → IsWholeScript script.nue script.items → (n : ℕ) (c : Configuration State) → Runs (IsPlainStep (keys_of script)) (λ e. e ≡ c) n (start_of script) → AreFit script c
are_fit script whole n c run = record {
  casts = λ rank u begun comm place reg len there stood. may_cast script whole rank (rank_within script whole n c run rank u there) begun comm place reg len stood;
  reduces = λ rank u begun comm place dst src op ty there stood. may_reduce script whole rank (rank_within script whole n c run rank u there) begun comm place dst src op ty stood;
  reduces_to_all = λ rank u begun comm dst src op ty there stood. may_reduce_to_all script whole rank (rank_within script whole n c run rank u there) begun comm dst src op ty stood;
  width = λ rank u begun comm place dst src op ty there came.
      reduced_whole script whole n c run rank u there came.stood.way came.later begun came.stood.reached came.since came.stood.listed.place came.stood.item came.stood.listed.listed came.stood.listed.own
      comm place dst src op ty came.stood.says;
  width_to_all = λ rank u begun comm dst src op ty there came.
      reduced_to_all_whole script whole n c run rank u there came.stood.way came.later begun came.stood.reached came.since came.stood.listed.place came.stood.item came.stood.listed.listed came.stood.listed.own
      comm dst src op ty came.stood.says;
}
