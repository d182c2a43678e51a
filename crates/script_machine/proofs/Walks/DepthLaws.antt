-- Laws of the repeats that are open at a place of a script.
use Rattle.std.proofs.Common.{◌≡◌, ℕ, zero, suc, ◌+◌, ◌-◌, ◌<◌, ◌≤◌, ◌⊎◌, inl, inr, List, [], ◌∷◌, length, slice_get, Some, refl, sym, ap, subst, ◌∙◌, arith}
use Rattle.std.proofs.lemmas.Bool.{cases_lt}
use Rattle.scc_base.specs.Setups.{SetupView}
use Rattle.script_rules.specs.declared.script.Item.{Item}
use Rattle.script_rules.specs.declared.effect.Nesting.{Nesting}
use Rattle.script_rules.specs.declared.effect.Nesting.TheVariants as nesting
use Rattle.script_machine.specs.declared.course.Open.{Open}
use Rattle.script_machine.specs.Depths.{AreHeld, HasRoom, IsDeep, depth_after, depth_at, depth_from}
use Rattle.script_machine.specs.Program.{marks_of, nesting_at}
use Rattle.script_machine.specs.Walk.{closed_by, next_pass, repeats_after_begin, repeats_after_marks, passed_to}
use Rattle.script_machine.proofs.Walks.WalkLaws.{closes_by}

module _ (rank : ℕ) where
  from_next : (depth at : ℕ) (items : List Item) (item : Item) → slice_get items at ≡ Some item
      → depth_from rank depth (suc at) items ≡ depth_after (nesting_at rank item) (depth_from rank depth at items)
  from_next depth at [] item here = absurd (cc)
  from_next depth zero (x ∷ items) item here =
      let same : x ≡ item = cc in
      ap (λ (i : Item). depth_after (nesting_at rank i) depth) same
  from_next depth (suc at) (x ∷ items) item here = from_next (depth_after (nesting_at rank x) depth) at items item here

  from_past : (depth at : ℕ) (items : List Item) → length items ≤ at → depth_from rank depth at items ≡ depth_from rank depth (length items) items
  from_past depth zero [] past = refl
  from_past depth (suc at) [] past = refl
  from_past depth zero (x ∷ items) past = absurd (omega (arith, past))
  from_past depth (suc at) (x ∷ items) past = from_past (depth_after (nesting_at rank x) depth) at items (omega (arith, past))

  -- behind an item
  pub depth_next : (items : List Item) (at : ℕ) (item : Item) → slice_get items at ≡ Some item
      → depth_at rank items (at + 1) ≡ depth_after (nesting_at rank item) (depth_at rank items at)
  depth_next items at item here =
      let one : at + 1 ≡ suc at = omega arith in
      ap (depth_at rank items) one ∙ from_next 0 at items item here

  -- past the end all places are one
  pub depth_past : (items : List Item) (at : ℕ) → length items ≤ at → depth_at rank items at ≡ depth_at rank items (length items)
  depth_past items at past = from_past 0 at items past

  -- at the start none is open
  pub deep_start : (items : List Item) (at : ℕ) (repeats : List Open) → repeats ≡ [] → IsDeep rank items at repeats
  deep_start items at repeats none =
      let P : List Open → Type 0 = λ r. IsDeep rank items at r in
      subst P (sym none) (record { here = omega arith; held = tt })

  -- over an item that has no marks
  entered_by : (items : List Item) (at : ℕ) (item : Item) (repeats : List Open) (n : Nesting) → slice_get items at ≡ Some item → nesting_at rank item ≡ n
      → ((place : ℕ) → n ≡ nesting.Closes place → ⊥) → IsDeep rank items at repeats → IsDeep rank items (at + 1) (repeats_after_begin n at repeats)
  entered_by items at item repeats nesting.Stays here is stays deep =
      let next : depth_at rank items (at + 1) ≡ depth_at rank items at = depth_next items at item here ∙ ap (λ (n : Nesting). depth_after n (depth_at rank items at)) is in
      record { here = omega (arith, deep.here, next); held = deep.held }
  entered_by items at item repeats (nesting.Closes start) here is stays deep = absurd (stays start refl)
  entered_by items at item repeats (nesting.Opens times) here is stays deep =
      let next : depth_at rank items (at + 1) ≡ depth_at rank items at + 1 = depth_next items at item here ∙ ap (λ (n : Nesting). depth_after n (depth_at rank items at)) is in
      record { here = omega (arith, deep.here, next); held = (omega (arith, deep.here, next), deep.held) }

  pub deep_entered : (s : SetupView) (items : List Item) (at : ℕ) (item : Item) (before after : List Open) → slice_get items at ≡ Some item → length (marks_of s rank item) ≡ 0
      → after ≡ repeats_after_begin (nesting_at rank item) at before → IsDeep rank items at before → IsDeep rank items (at + 1) after
  deep_entered s items at item before after here none is deep =
      let P : List Open → Type 0 = λ r. IsDeep rank items (at + 1) r in
      let stays : (place : ℕ) → nesting_at rank item ≡ nesting.Closes place → ⊥ = λ place closes. absurd (omega (arith, none, closes_by s rank item place closes)) in
      subst P (sym is) (entered_by items at item before (nesting_at rank item) here refl stays deep)

  -- there is room to enter
  pub room_entered : (s : SetupView) (items : List Item) (at room : ℕ) (item : Item) (repeats : List Open) → slice_get items at ≡ Some item → length (marks_of s rank item) ≡ 0
      → IsDeep rank items at repeats → HasRoom rank items room → length (repeats_after_begin (nesting_at rank item) at repeats) ≤ room
  room_entered s items at room item repeats here none deep fits =
      omega (arith, (deep_entered s items at item repeats (repeats_after_begin (nesting_at rank item) at repeats) here none refl deep).here, fits (at + 1))

  -- behind the end of a pass
  closed_by_deep : (items : List Item) (at start left : ℕ) (repeats : List Open) → length repeats < depth_at rank items start → length repeats ≤ depth_at rank items (at + 1) → AreHeld rank items repeats
      → IsDeep rank items (next_pass at start left) (closed_by start left repeats)
  closed_by_deep items at start zero repeats within here held = record { here = here; held = held }
  closed_by_deep items at start (suc left) repeats within here held = record { here = omega (arith, within); held = (within, held) }

  passed_by : (items : List Item) (at end : ℕ) (item : Item) (repeats : List Open) (n : Nesting) → slice_get items at ≡ Some item → nesting_at rank item ≡ n
      → IsDeep rank items at repeats → IsDeep rank items (passed_to n at end repeats) (repeats_after_marks n repeats)
  passed_by items at end item repeats nesting.Stays here is deep =
      let next : depth_at rank items (at + 1) ≡ depth_at rank items at = depth_next items at item here ∙ ap (λ (n : Nesting). depth_after n (depth_at rank items at)) is in
      record { here = omega (arith, deep.here, next); held = deep.held }
  passed_by items at end item repeats (nesting.Opens times) here is deep =
      let next : depth_at rank items (at + 1) ≡ depth_at rank items at + 1 = depth_next items at item here ∙ ap (λ (n : Nesting). depth_after n (depth_at rank items at)) is in
      record { here = omega (arith, deep.here, next); held = deep.held }
  passed_by items at end item [] (nesting.Closes start) here is deep = record { here = omega arith; held = tt }
  passed_by items at end item (o ∷ repeats) (nesting.Closes start) here is deep =
      let next : depth_at rank items (at + 1) ≡ depth_at rank items at - 1 = depth_next items at item here ∙ ap (λ (n : Nesting). depth_after n (depth_at rank items at)) is in
      closed_by_deep items at o.start o.left repeats deep.held.0 (omega (arith, deep.here, next)) deep.held.1

  pub deep_passed : (items : List Item) (at end to : ℕ) (item : Item) (before after : List Open) → slice_get items at ≡ Some item
      → to ≡ passed_to (nesting_at rank item) at end before → after ≡ repeats_after_marks (nesting_at rank item) before → IsDeep rank items at before → IsDeep rank items to after
  deep_passed items at end to item before after here goes now deep =
      let P : ℕ → Type 0 = λ n. IsDeep rank items n after in
      let Q : List Open → Type 0 = λ r. IsDeep rank items (passed_to (nesting_at rank item) at end before) r in
      subst P (sym goes) (subst Q (sym now) (passed_by items at end item before (nesting_at rank item) here refl deep))

  -- one item changes the depth by at most one
  pub depth_more : (n : Nesting) (depth : ℕ) → depth_after n depth ≤ depth + 1
  depth_more (nesting.Opens times) depth = omega arith
  depth_more (nesting.Closes start) depth = omega arith
  depth_more nesting.Stays depth = omega arith

  -- the greatest depth so far, and one place more
  pub deepest_more : (items : List Item) (at most more : ℕ) → ((place : ℕ) → place ≤ at → depth_at rank items place ≤ most) → most ≤ more → depth_at rank items (at + 1) ≤ more
      → (place : ℕ) → place ≤ at + 1 → depth_at rank items place ≤ more
  deepest_more items at most more so_far wider next place within = by (cases_lt at place)
    where
      by : (at < place) ⊎ (place ≤ at) → depth_at rank items place ≤ more
      by (inr before) = omega (arith, so_far place before, wider)
      by (inl afterwards) =
          let here : place ≡ at + 1 = omega (arith, within, afterwards) in
          omega (arith, next, ap (depth_at rank items) here)

  -- at all places
  pub deepest_end : (items : List Item) (at most : ℕ) → length items ≤ at → ((place : ℕ) → place ≤ at → depth_at rank items place ≤ most) → HasRoom rank items most
  deepest_end items at most past so_far place = by (cases_lt at place)
    where
      by : (at < place) ⊎ (place ≤ at) → depth_at rank items place ≤ most
      by (inr before) = so_far place before
      by (inl afterwards) =
          let end : length items ≤ place = omega (arith, past, afterwards) in
          omega (arith, so_far at (omega arith), depth_past items at past, depth_past items place end)
