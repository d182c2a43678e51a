-- What the statements of a script make for a rank, one statement after another, and the rank's own way through it.
use Rattle.std.proofs.Common.{◌≡◌, ℕ, ◌<◌, ◌≤◌, Bool, true, false, cond, List, [], ◌∷◌, ◌++◌, length, drop, slice_get, Some, refl, sym, ap, subst, ◌∙◌, arith, append_assoc, ⊎_elim}
use Rattle.std.proofs.lemmas.Bool.{cases_lt}
use Rattle.std.proofs.lemmas.List.{append-nil}
use Rattle.scc_base.specs.Setups.{SetupView}
use Rattle.script_rules.specs.declared.script.Item.{Item}
use Rattle.script_rules.specs.Script.{Script, has_rank}
use Rattle.script_machine.specs.declared.prims.Standing.TheVariants as standing
pub use Rattle.plain_meaning.specs.Collectives.{IsOfRank, MadeByItems, made_by}
use Rattle.plain_meaning.specs.Collectives.MadeByItems.{Done, Then}
use Rattle.plain_meaning.specs.Collectives.{gone_by, gone_through, start_of_rank}
use Rattle.script_machine.specs.Local.{next_by_act, next_by_prim, local_next, prim_by_standing}
use Rattle.plain_meaning.specs.Meaning.{State, next_of, next_with_calls}
use Rattle.script_machine.specs.Next.{Next}
use Rattle.script_machine.specs.Next.Next.{Ends}
use Rattle.script_machine.specs.Program.{Act, Prim, acts_of, prims_of, program_of, setup_of}
use Rattle.plain_meaning.proofs.Collectives.CollectivePaths.{Facing, faced, past, through_both}
use Rattle.plain_meaning.proofs.Collectives.ReductionPaths.{split_at}
use Rattle.script_machine.proofs.Walks.UnrolledLaws.{hold_program}

module _ (s : SetupView) (rank : ℕ) (items : List Item) where
  pub made_both : (a b : List Prim) → MadeByItems s rank items a → MadeByItems s rank items b → MadeByItems s rank items (a ++ b)
  made_both a b Done last = last
  made_both a b (Then item is rest more) last =
      subst (MadeByItems s rank items) (sym (append_assoc (made_by s rank item) rest b)) (Then item is (rest ++ b) (made_both rest b more last))

  made_item : (item : Item) (place : ℕ) → slice_get items place ≡ Some item → MadeByItems s rank items (prims_of s rank item)
  made_item item place listed = by (has_rank item.who rank) refl
    where
      by : (b : Bool) → has_rank item.who rank ≡ b → MadeByItems s rank items (cond b (made_by s rank item) [])
      by true own = subst (MadeByItems s rank items) (append-nil (made_by s rank item)) (Then item (record { place = place; listed = listed; own = own }) [] Done)
      by false other = Done

-- the program of a rank is what its items make
pub program_made : (script : Script) (rank : ℕ) → MadeByItems (setup_of script) rank script.items (program_of script rank)
program_made script rank =
    hold_program (MadeByItems (setup_of script) rank script.items) Done (made_both (setup_of script) rank script.items) (setup_of script) rank script.items
    (λ k item at. made_item (setup_of script) rank script.items item k at)

-- one act on
act_leaves : (bytes : List ℕ) (u : State) (line : ℕ) (a : Act)
    → ((gone_by bytes u (next_with_calls u.matched (next_by_act u.local line a))).local.standing ≡ u.local.standing)
    × ((gone_by bytes u (next_with_calls u.matched (next_by_act u.local line a))).local.left ≡ drop 1 u.local.left)
act_leaves bytes u line (Act.Set reg content) = (refl, refl)
act_leaves bytes u line _ = (refl, refl)

module _ (line : ℕ) (rest : List Prim) where
  -- a rank that faces acts comes past the first of them
  pub past_act : (a : Act) (acts : List Act) (bytes : List ℕ) (u : State) → Facing line (a ∷ acts) rest u → Facing line acts rest (gone_by bytes u (next_of u))
  past_act a acts bytes u facing =
      let leaves = act_leaves bytes u line a in
      subst (λ (n : Next State). Facing line acts rest (gone_by bytes u n)) (sym (faced line rest acts u a facing))
      (past line rest acts u a facing (gone_by bytes u (next_with_calls u.matched (next_by_act u.local line a))) leaves.0 leaves.1)

  -- and past all of them
  pub past_acts : (acts : List Act) (path : List (List ℕ)) (u : State) → length path ≡ length acts → Facing line acts rest u → Facing line [] rest (gone_through path u)
  past_acts [] [] u even facing = facing
  past_acts [] (bytes ∷ path) u even facing = absurd (omega (arith, even))
  past_acts (a ∷ acts) [] u even facing = absurd (omega (arith, even))
  past_acts (a ∷ acts) (bytes ∷ path) u even facing = past_acts acts path (gone_by bytes u (next_of u)) (omega (arith, even)) (past_act a acts bytes u facing)

-- a rank with nothing left stays as it is
nothing_next : (u : State) → u.local.standing ≡ standing.Running → u.local.left ≡ [] → next_of u ≡ Ends
unfolding local_next
nothing_next u running none =
    ap (next_with_calls u.matched) (ap (next_by_prim u.local)
    (ap (λ t. prim_by_standing t u.local.left) running ∙ ap (λ (l : List Prim). slice_get l 0) none))

pub stays : (path : List (List ℕ)) (u : State) → u.local.standing ≡ standing.Running → u.local.left ≡ [] → gone_through path u ≡ u
stays [] u running none = refl
stays (bytes ∷ path) u running none = ap (gone_through path) (ap (gone_by bytes u) (nothing_next u running none)) ∙ stays path u running none

-- what holds of a rank's own way: it does so where the way begins, and each statement of the rank keeps it, as far as the
-- rank comes in it
module _ (s : SetupView) (rank : ℕ) (items : List Item) (P : State → Type 0)
    (kept : (item : Item) (rest : List Prim) (u : State) (path : List (List ℕ)) → IsOfRank items rank item → MadeByItems s rank items rest → Facing item.line (acts_of s rank item.stmt) rest u → length path ≤ length (acts_of s rank item.stmt) → P u → P (gone_through path u)) where
  way_by : (prims : List Prim) (u : State) (path : List (List ℕ)) → MadeByItems s rank items prims → u.local.standing ≡ standing.Running → u.local.left ≡ prims → P u → P (gone_through path u)
  way_by prims u path Done running none holds = subst P (sym (stays path u running none)) holds
  way_by prims u path (Then item is rest more) running left holds =
      ⊎_elim
      (λ (short : length path < length (acts_of s rank item.stmt)). kept item rest u path is more facing (omega (arith, short)) holds)
      (λ (long : length (acts_of s rank item.stmt) ≤ length path).
      let (one, two, whole, even) = split_at (length (acts_of s rank item.stmt)) path long in
      let on = past_acts item.line rest (acts_of s rank item.stmt) one u even facing in
      subst P (sym (ap (λ (p : List (List ℕ)). gone_through p u) whole ∙ through_both one two u))
      (way_by rest (gone_through one u) two more on.running on.left (kept item rest u one is more facing (omega (arith, even)) holds)))
      (cases_lt (length path) (length (acts_of s rank item.stmt)))
    where
      facing : Facing item.line (acts_of s rank item.stmt) rest u
      facing = record { running = running; left = left }

-- from the rank's start
pub along_made_way : (script : Script) (rank : ℕ) (P : State → Type 0)
    → ((item : Item) (rest : List Prim) (u : State) (path : List (List ℕ)) → IsOfRank script.items rank item → MadeByItems (setup_of script) rank script.items rest → Facing item.line (acts_of (setup_of script) rank item.stmt) rest u → length path ≤ length (acts_of (setup_of script) rank item.stmt) → P u → P (gone_through path u))
    → P (start_of_rank script rank) → (path : List (List ℕ)) → P (gone_through path (start_of_rank script rank))
along_made_way script rank P kept holds path =
    way_by (setup_of script) rank script.items P kept (program_of script rank) (start_of_rank script rank) path (program_made script rank) refl refl holds
