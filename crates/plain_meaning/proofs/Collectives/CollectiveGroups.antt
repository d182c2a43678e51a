-- The members of a group that take part in a collective call, and what the call makes for each.
use Rattle.std.proofs.Common.{◌≡◌, ◌≢◌, ℕ, zero, suc, ◌<◌, ◌≤◌, ◌==◌, Bool, true, false, if◌then◌else◌, List, [], ◌∷◌, ◌++◌, map, remove, Some, refl, sym, ap, ◌∙◌, subst, arith, slice_get, inl, inr, ⊎_elim}
use Rattle.std.specs.Prelude.{slice_index}
use Rattle.std.proofs.lemmas.Bool.{cases_lt, eq-eqb}
use Rattle.std.proofs.lemmas.Option.{same_Some, get_or_from_slice_get}
use Rattle.scc_base.specs.Groups.{is_with, list_below}
use Rattle.scc_base.specs.Heads.{MessageHead}
use Rattle.scc_base.specs.Setups.{SetupView, members_of, place_of, setup_key}
use Rattle.scc_base.proofs.GroupFacts.{member_at_place, place_once, true_with}
use Rattle.groups.specs.Collectives.{comm_of, fold_each, other_steps, others_of, root_place, root_steps, send_each, steps_of}
use Rattle.groups.specs.declared.collectives.Coll.{Coll}
use Rattle.groups.specs.declared.collectives.Step.{Step}
use Rattle.groups.proofs.StepLemmas.{get_above, get_below}
use Rattle.script_machine.specs.declared.prims.Operands.{Operands}
use Rattle.script_machine.specs.declared.prims.Source.TheVariants as source_of
use Rattle.plain_meaning.specs.Collectives.{IsOther}
use Rattle.script_machine.specs.Program.{Act, begins, call_steps, can_call, part_of, parts_of}
use Rattle.script_machine.specs.Program.Act.{Send, Gather, Fold}
use Rattle.plain_meaning.proofs.Collectives.CollectivePaths.{IsIn}
use Rattle.plain_meaning.proofs.Orders.OrderLaws.{different}
use Rattle.script_machine.proofs.Choices as choices

-- each of a list, and no two equal
abbrev pub Each : (ℕ → Type 0) → List ℕ → Type 0
Each P [] = Unit {0}
Each P (x ∷ xs) = P x × Each P xs

abbrev pub AreApart : List ℕ → Type 0
AreApart [] = Unit {0}
AreApart (x ∷ xs) = Each (λ y. x ≢ y) xs × AreApart xs

pub each_on : (P Q : ℕ → Type 0) → ((x : ℕ) → P x → Q x) → (xs : List ℕ) → Each P xs → Each Q xs
each_on P Q on [] each = tt
each_on P Q on (x ∷ xs) each = (on x each.0, each_on P Q on xs each.1)

pub each_both : (P Q : ℕ → Type 0) (xs : List ℕ) → Each P xs → Each Q xs → Each (λ x. P x × Q x) xs
each_both P Q [] one two = tt
each_both P Q (x ∷ xs) one two = ((one.0, two.0), each_both P Q xs one.1 two.1)

each_more : (P : ℕ → Type 0) (xs : List ℕ) (y : ℕ) → Each P xs → P y → Each P (xs ++ y ∷ [])
each_more P [] y each last = (last, tt)
each_more P (x ∷ xs) y each last = (each.0, each_more P xs y each.1 last)

each_without : (P : ℕ → Type 0) (xs : List ℕ) (i : ℕ) → Each P xs → Each P (remove xs i)
each_without P [] zero each = tt
each_without P [] (suc i) each = tt
each_without P (x ∷ xs) zero each = each.1
each_without P (x ∷ xs) (suc i) each = (each.0, each_without P xs i each.1)

each_at : (P : ℕ → Type 0) (xs : List ℕ) (i y : ℕ) → Each P xs → slice_get xs i ≡ Some y → P y
each_at P [] i y each at = absurd (cc)
each_at P (x ∷ xs) zero y each at = subst P (same_Some x y at) each.0
each_at P (x ∷ xs) (suc i) y each at = each_at P xs i y each.1 at

apart_more : (xs : List ℕ) (y : ℕ) → AreApart xs → Each (λ x. x ≢ y) xs → AreApart (xs ++ y ∷ [])
apart_more [] y apart new = (tt, tt)
apart_more (x ∷ xs) y apart new = (each_more (λ z. x ≢ z) xs y apart.0 new.0, apart_more xs y apart.1 new.1)

apart_without : (xs : List ℕ) (i : ℕ) → AreApart xs → AreApart (remove xs i)
apart_without [] zero apart = tt
apart_without [] (suc i) apart = tt
apart_without (x ∷ xs) zero apart = apart.1
apart_without (x ∷ xs) (suc i) apart = (each_without (λ y. x ≢ y) xs i apart.0, apart_without xs i apart.1)

gone_without : (xs : List ℕ) (i r : ℕ) → AreApart xs → slice_get xs i ≡ Some r → Each (λ x. x ≢ r) (remove xs i)
gone_without [] zero r apart at = tt
gone_without [] (suc i) r apart at = tt
gone_without (x ∷ xs) zero r apart at =
    let is : x ≡ r = same_Some x r at in
    each_on (λ y. x ≢ y) (λ y. y ≢ r) (λ y odd same. odd (is ∙ sym same)) xs apart.0
gone_without (x ∷ xs) (suc i) r apart at = (each_at (λ y. x ≢ y) xs i r apart.0 at, gone_without xs i r apart.1 at)

-- the numbers below n that pass a test
below_each : (test : ℕ → Bool) (n : ℕ) → Each (λ x. (x < n) × (test x ≡ true)) (list_below test n)
below_each test zero = tt
below_each test (suc n) = by (test n) refl (each_on (λ x. (x < n) × (test x ≡ true)) (λ x. (x < suc n) × (test x ≡ true)) (λ x both. (omega (arith, both.0), both.1)) (list_below test n) (below_each test n))
  where
    by : (b : Bool) → test n ≡ b → Each (λ x. (x < suc n) × (test x ≡ true)) (list_below test n) → Each (λ x. (x < suc n) × (test x ≡ true)) (if b then list_below test n ++ n ∷ [] else list_below test n)
    by true is wider = each_more (λ x. (x < suc n) × (test x ≡ true)) (list_below test n) n wider (omega arith, is)
    by false is wider = wider

below_apart : (test : ℕ → Bool) (n : ℕ) → AreApart (list_below test n)
below_apart test zero = tt
below_apart test (suc n) = by (test n) (below_apart test n)
  where
    by : (b : Bool) → AreApart (list_below test n) → AreApart (if b then list_below test n ++ n ∷ [] else list_below test n)
    by true rest = apart_more (list_below test n) n rest (each_on (λ x. (x < n) × (test x ≡ true)) (λ x. x ≢ n) (λ x both same. absurd (omega (arith, both.0, same))) (list_below test n) (below_each test n))
    by false rest = rest

in_at : (xs : List ℕ) (i y : ℕ) → slice_get xs i ≡ Some y → IsIn y xs
in_at [] i y at = absurd (cc)
in_at (x ∷ xs) zero y at = inl (same_Some x y at)
in_at (x ∷ xs) (suc i) y at = inr (in_at xs i y at)

module _ (s : SetupView) (comm place root : ℕ) where
  -- the others are other members of the root's group, and no two are equal
  pub others_each : root < s.nue → place_of s comm root ≡ place → Each (IsOther s comm place root) (others_of s comm root place)
  others_each below at =
      let there : slice_get (members_of s comm root) place ≡ Some root =
      ap (slice_get (members_of s comm root)) (sym at) ∙ member_at_place s.nue (setup_key s comm) root root refl below in
      let members = each_without (λ x. (x < s.nue) × (is_with (setup_key s comm) root x ≡ true)) (members_of s comm root) place (below_each (is_with (setup_key s comm) root) s.nue) in
      let away = gone_without (members_of s comm root) place root (below_apart (is_with (setup_key s comm) root) s.nue) there in
      each_on (λ x. ((x < s.nue) × (is_with (setup_key s comm) root x ≡ true)) × (x ≢ root)) (IsOther s comm place root)
      (λ x all. record {
        placed = record { below = below; grouped = sym (true_with (setup_key s comm) root x all.0.1); placed = at };
        below = all.0.0;
        apart = all.1;
      })
      (others_of s comm root place)
      (each_both (λ x. (x < s.nue) × (is_with (setup_key s comm) root x ≡ true)) (λ x. x ≢ root) (others_of s comm root place) members away)

  pub others_apart : AreApart (others_of s comm root place)
  others_apart = apart_without (members_of s comm root) place (below_apart (is_with (setup_key s comm) root) s.nue)

  module _ (rank : ℕ) (is : IsOther s comm place root rank) where
    pub other_place : place_of s comm rank ≢ place
    other_place same = is.apart (place_once (setup_key s comm) rank root (sym is.placed.grouped) (same ∙ sym is.placed.placed))

    -- the root, as the others find it
    pub root_found : slice_index (members_of s comm rank) place ≡ root
    root_found =
        get_or_from_slice_get (members_of s comm rank) place root 0
        (ap (slice_get (members_of s comm rank)) (sym is.placed.placed) ∙ member_at_place s.nue (setup_key s comm) rank root is.placed.grouped is.placed.below)

    pub is_in_others : IsIn rank (others_of s comm root place)
    is_in_others =
        ⊎_elim
        (λ (low : place_of s comm rank < place). in_at (others_of s comm root place) (place_of s comm rank) rank (get_below (members_of s comm root) place (place_of s comm rank) rank low at))
        (λ (high : place ≤ place_of s comm rank). above (place_of s comm rank) refl high)
        (cases_lt (place_of s comm rank) place)
      where
        at : slice_get (members_of s comm root) (place_of s comm rank) ≡ Some rank
        at = member_at_place s.nue (setup_key s comm) root rank (sym is.placed.grouped) is.below

        above : (k : ℕ) → place_of s comm rank ≡ k → place ≤ k → IsIn rank (others_of s comm root place)
        above zero has high = absurd (let high_zero : place ≤ 0 = high in other_place (omega (arith, has, high_zero)))
        above (suc k) has high =
            let odd : suc k ≢ place = λ e. other_place (has ∙ e) in
            let low : place ≤ k = omega (arith, high, odd) in
            in_at (others_of s comm root place) k rank (get_above (members_of s comm root) place k rank low (ap (slice_get (members_of s comm root)) (sym has) ∙ at))

-- the steps of the root, and those of the others
pub root_has : (s : SetupView) (c : Coll) (root : ℕ) → can_call s root c ≡ true → place_of s (comm_of c) root ≡ root_place c
    → call_steps s root c ≡ root_steps c (others_of s (comm_of c) root (root_place c))
root_has s c root callable at =
    choices.chosen (can_call s root c) (steps_of s root c) [] callable
    ∙ choices.chosen (place_of s (comm_of c) root == root_place c) _ _ (eq-eqb (place_of s (comm_of c) root) (root_place c) at)

pub other_has : (s : SetupView) (c : Coll) (root rank : ℕ) → can_call s rank c ≡ true → IsOther s (comm_of c) (root_place c) root rank
    → call_steps s rank c ≡ other_steps c root
other_has s c root rank callable is =
    choices.chosen (can_call s rank c) (steps_of s rank c) [] callable
    ∙ choices.other (place_of s (comm_of c) rank == root_place c) _ _ (different (place_of s (comm_of c) rank) (root_place c) (other_place s (comm_of c) (root_place c) root rank is))
    ∙ ap (other_steps c) (root_found s (comm_of c) (root_place c) root rank is)

-- sends of the source to each of the others
sends_begin : (head : MessageHead) (list : List ℕ) → begins (send_each head list) ≡ false
sends_begin head [] = refl
sends_begin head (x ∷ list) = refl

pub sends_parts : (o : Operands) (begun : Bool) (head : MessageHead) (list : List ℕ) → map (part_of o begun) (send_each head list) ≡ map (λ to. Send to head (if begun then source_of.Accumulator else source_of.Own o.src)) list
sends_parts o begun head [] = refl
sends_parts o begun head (x ∷ list) = ap (λ (l : List Act). Send x head (if begun then source_of.Accumulator else source_of.Own o.src) ∷ l) (sends_parts o begun head list)

pub bcast_parts : (o : Operands) (head : MessageHead) (list : List ℕ) → parts_of o (send_each head list) ≡ map (λ to. Send to head (source_of.Own o.src)) list
bcast_parts o head list =
    ap (λ (b : Bool). map (part_of o b) (send_each head list)) (sends_begin head list) ∙ sends_parts o false head list

-- a receive from each of the others, and a fold
abbrev pub gathers : Operands → MessageHead → List ℕ → List Act
gathers o head [] = []
gathers o head (from ∷ list) = Gather from head o.sized ∷ Fold o.op o.ty ∷ gathers o head list

pub folds_parts : (o : Operands) (begun : Bool) (head : MessageHead) (list : List ℕ) (more : List Step) → map (part_of o begun) (fold_each head list ++ more) ≡ gathers o head list ++ map (part_of o begun) more
folds_parts o begun head [] more = refl
folds_parts o begun head (x ∷ list) more = ap (λ (l : List Act). Gather x head o.sized ∷ Fold o.op o.ty ∷ l) (folds_parts o begun head list more)
