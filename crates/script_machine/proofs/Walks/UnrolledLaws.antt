-- A rank's program is made of what its items make: what holds of each of these, and of two lists one behind the other, holds of it.
use Rattle.std.proofs.Common.{◌≡◌, ℕ, zero, suc, ◌-◌, List, [], ◌∷◌, ◌++◌, Some, refl, slice_get}
use Rattle.scc_base.specs.Setups.{SetupView}
use Rattle.script_rules.specs.declared.effect.Nesting.{Nesting}
use Rattle.script_rules.specs.declared.effect.Nesting.TheVariants as nesting
use Rattle.script_rules.specs.declared.script.Item.{Item}
use Rattle.script_machine.specs.Program.{Prim, Unrolled, copies, in_front, nesting_at, prims_of, unrolled_repeat, unrolled_items}

module _ (Holds : List Prim → Type 0) (empty : Holds []) (both : (one two : List Prim) → Holds one → Holds two → Holds (one ++ two)) where
  hold_copies : (n : ℕ) (prims : List Prim) → Holds prims → Holds (copies n prims)
  hold_copies zero prims each = empty
  hold_copies (suc n) prims each = both prims (copies n prims) each (hold_copies n prims each)

  abbrev AllHold : List (List Prim) → Type 0
  AllHold [] = Unit {0}
  AllHold (prims ∷ more) = Holds prims × AllHold more

  record HoldsIn (u : Unrolled Prim) : Type 0 where
    here : Holds u.here
    afterwards : AllHold u.afterwards

  hold_repeated : (times : ℕ) (body : List Prim) (afterwards : List (List Prim)) → Holds body → AllHold afterwards → HoldsIn (unrolled_repeat times body afterwards)
  hold_repeated times body [] one rest = record { here = one; afterwards = tt }
  hold_repeated times body (next ∷ afterwards) one rest = record {
    here = both body (copies (times - 1) body ++ next) one (both (copies (times - 1) body) next (hold_copies (times - 1) body one) rest.0);
    afterwards = rest.1;
  }

  hold_front : (n : Nesting) (prims : List Prim) (u : Unrolled Prim) → Holds prims → HoldsIn u → HoldsIn (in_front n prims u)
  hold_front (nesting.Opens times) prims u each all = hold_repeated times u.here u.afterwards all.here all.afterwards
  hold_front (nesting.Closes start) prims u each all = record { here = each; afterwards = (all.here, all.afterwards) }
  hold_front nesting.Stays prims u each all = record { here = both prims u.here each all.here; afterwards = all.afterwards }

  hold_unrolled : (s : SetupView) (rank : ℕ) (items : List Item) → ((k : ℕ) (item : Item) → slice_get items k ≡ Some item → Holds (prims_of s rank item)) → HoldsIn (unrolled_items s rank items)
  unfolding unrolled_items
  hold_unrolled s rank [] each = record { here = empty; afterwards = tt }
  hold_unrolled s rank (item ∷ items) each =
      hold_front (nesting_at rank item) (prims_of s rank item) (unrolled_items s rank items) (each 0 item refl) (hold_unrolled s rank items (λ k other found. each (suc k) other found))

  -- what comes before the end of the repeat that is open, if one is, and else all of it
  pub hold_program : (s : SetupView) (rank : ℕ) (items : List Item) → ((k : ℕ) (item : Item) → slice_get items k ≡ Some item → Holds (prims_of s rank item)) → Holds (unrolled_items s rank items).here
  hold_program s rank items each = (hold_unrolled s rank items each).here
