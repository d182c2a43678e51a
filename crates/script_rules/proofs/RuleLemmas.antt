-- The rules of the communicators after one more statement.
use Rattle.std.proofs.Common.{◌≡◌, ℕ, zero, suc, ◌<◌, ◌≤◌, Bool, true, false, not, ◌||◌, cond, eqb, ltb, List, [], ◌∷◌, ◌++◌, map, reverse, refl, sym, ap, ◌∙◌, arith, subst, inl, inr, lit<}
use Rattle.std.specs.Prelude.{◌==◌, nat_lt}
use Rattle.std.specs.List.{range_with_len}
use Rattle.std.proofs.Math.Path.{fun_ext}
use Rattle.std.proofs.lemmas.Bool.Decides.{eqb_tells}
use Rattle.std.proofs.lemmas.Bool.{cases_lt, eqb-false, false≢true, ltb-false, ltb-true}
use Rattle.std.proofs.lemmas.List.FromFn.{get_or-map-range_with_len}
use Rattle.std.proofs.lemmas.List.{reverse-append, reverse-reverse}
use Rattle.scc_base.specs.Communicators.{AreRules, IsRule, rule_of}
use Rattle.scc_base.specs.Setups.{SetupView}
use Rattle.scc_base.specs.declared.communicators.CommRule.{CommRule}
use Rattle.scc_base.specs.declared.communicators.CommRule.TheVariants as rule
use Rattle.script_rules.specs.declared.script.Item.{Item}
use Rattle.script_rules.specs.declared.effect.Group.{Group}
use Rattle.script_rules.specs.declared.effect.Group.TheVariants as group
use Rattle.script_rules.specs.Checks.{differs_from, has_no_parent, is_absent, is_badly_split, is_known, is_unknown, last_comm, run_of}
use Rattle.script_rules.specs.Effects.{effect_of, parent_of, split_rule}
use Rattle.script_rules.specs.Script.{first_split, or_rule, rules_of}
use Rattle.script_rules.specs.Tally.{IsSplitMade, IsParted, is_new_split}
use Rattle.script_rules.specs.declared.version.Version.{Version}
use Rattle.script_rules.specs.declared.version.Version.TheVariants as version
use Rattle.scc_base.specs.declared.layouts.Layout.TheVariants as layout
use Rattle.script_rules.proofs.CheckLemmas.{false-left, false-right}

pub past-more : (items : List Item) (item : Item) → reverse (items ++ item ∷ []) ≡ item ∷ reverse items
past-more items item = reverse-append items (item ∷ [])

or_rule-assoc : (a b c : CommRule) → or_rule a (or_rule b c) ≡ or_rule (or_rule a b) c
or_rule-assoc rule.Absent b c = refl
or_rule-assoc rule.World b c = refl
or_rule-assoc (rule.Mod parent k) b c = refl
or_rule-assoc (rule.Div parent k) b c = refl

or_absent : (a : CommRule) → or_rule a rule.Absent ≡ a
or_absent rule.Absent = refl
or_absent rule.World = refl
or_absent (rule.Mod parent k) = refl
or_absent (rule.Div parent k) = refl

pub first_split-more : (items : List Item) (item : Item) (comm : ℕ) → first_split (items ++ item ∷ []) comm ≡ or_rule (first_split items comm) (split_rule (effect_of item.stmt).group comm)
first_split-more [] item comm = or_absent (split_rule (effect_of item.stmt).group comm)
first_split-more (first ∷ items) item comm =
    ap (or_rule (split_rule (effect_of first.stmt).group comm)) (first_split-more items item comm)
    ∙ or_rule-assoc (split_rule (effect_of first.stmt).group comm) (first_split items comm) (split_rule (effect_of item.stmt).group comm)

-- the rule of a communicator but the world is that of its first split
pub split-at : (items : List Item) (comm : ℕ) → 1 ≤ comm → comm < 16 → rule_of (rules_of items) comm ≡ first_split items comm
split-at items zero some below = absurd (omega arith)
split-at items (suc c) some below = get_or-map-range_with_len (first_split items) 1 15 c (suc c) rule.Absent (omega arith) (omega arith)

pub rule-more : (items : List Item) (item : Item) (comm : ℕ) → 1 ≤ comm → comm < 16
    → rule_of (rules_of (items ++ item ∷ [])) comm ≡ or_rule (rule_of (rules_of items) comm) (split_rule (effect_of item.stmt).group comm)
rule-more items item comm some below =
    split-at (items ++ item ∷ []) comm some below ∙ first_split-more items item comm ∙ ap (λ r. or_rule r (split_rule (effect_of item.stmt).group comm)) (sym (split-at items comm some below))

pub or_rule-kept : (a b : CommRule) → (a ≡ rule.Absent → ⊥) → or_rule a b ≡ a
or_rule-kept rule.Absent b there = absurd (there refl)
or_rule-kept rule.World b there = refl
or_rule-kept (rule.Mod parent k) b there = refl
or_rule-kept (rule.Div parent k) b there = refl

-- a rule that is there stays
present-more : (items : List Item) (item : Item) (comm : ℕ) → comm < 16 → (rule_of (rules_of items) comm ≡ rule.Absent → ⊥) → rule_of (rules_of (items ++ item ∷ [])) comm ≡ rule.Absent → ⊥
present-more items item zero below there = there
present-more items item (suc c) below there = λ gone.
    let more = rule-more items item (suc c) (omega arith) below in
    there (sym (or_rule-kept (rule_of (rules_of items) (suc c)) (split_rule (effect_of item.stmt).group (suc c)) there) ∙ sym more ∙ gone)

IsRule-more : (items : List Item) (item : Item) (comm : ℕ) (r : CommRule) → comm < 16 → IsRule (rules_of items) comm r → IsRule (rules_of (items ++ item ∷ [])) comm r
IsRule-more items item comm rule.Absent below is = is
IsRule-more items item comm rule.World below is = is
IsRule-more items item comm (rule.Mod parent k) below is = (is.0, present-more items item parent (omega (arith, is.0)) is.1, is.2, is.3)
IsRule-more items item comm (rule.Div parent k) below is = (is.0, present-more items item parent (omega (arith, is.0)) is.1, is.2, is.3)

rule-made : (comms : List CommRule) (comm : ℕ) (r : CommRule) → IsParted r → parent_of r < comm → (rule_of comms (parent_of r) ≡ rule.Absent → ⊥) → IsRule comms comm r
rule-made comms comm rule.Absent made below there = absurd made
rule-made comms comm rule.World made below there = absurd made
rule-made comms comm (rule.Mod parent k) made below there = (below, there, made.0, made.1)
rule-made comms comm (rule.Div parent k) made below there = (below, there, made.0, made.1)

pub or_rule-either : (P : CommRule → Type 0) (a b : CommRule) → P a → P b → P (or_rule a b)
or_rule-either P rule.Absent b pa pb = pb
or_rule-either P rule.World b pa pb = pa
or_rule-either P (rule.Mod parent k) b pa pb = pa
or_rule-either P (rule.Div parent k) b pa pb = pa

split-made : (comms : List CommRule) (split comm : ℕ) (r : CommRule) → 1 ≤ comm → IsRule comms split r → IsRule comms comm (cond (eqb split comm) r rule.Absent)
split-made comms split comm r some is =
    elim (eqb_tells split comm) [
      | inl same ↦ rw same.0 (subst (λ c. IsRule comms c r) same.1 is)
      | inr other ↦ rw other.0 (λ none. omega (arith, some, none))
    ]

-- the rules after a split that may be made
AreRules-split : (items : List Item) (item : Item) (split : ℕ) (r : CommRule) → (effect_of item.stmt).group ≡ group.Split split r → split < 16 → IsParted r → parent_of r < split
    → (rule_of (rules_of items) (parent_of r) ≡ rule.Absent → ⊥) → AreRules (rules_of items) → AreRules (rules_of (items ++ item ∷ []))
AreRules-split items item split r is top made below there rules zero low = refl
AreRules-split items item split r is top made below there rules (suc c) low =
    let after = rules_of (items ++ item ∷ []) in
    let parent = present-more items item (parent_of r) (omega arith) there in
    let new = split-made after split (suc c) r (omega arith) (rule-made after split r made below parent) in
    let given = subst (λ (g : Group). IsRule after (suc c) (split_rule g (suc c))) (sym is) new in
    let old = IsRule-more items item (suc c) (rule_of (rules_of items) (suc c)) low (rules (suc c) low) in
    subst (λ (r : CommRule). IsRule after (suc c) r) (sym (rule-more items item (suc c) (omega arith) low))
    (or_rule-either (λ r. IsRule after (suc c) r) (rule_of (rules_of items) (suc c)) (split_rule (effect_of item.stmt).group (suc c)) old given)

-- the rules after a statement that splits nothing new
rules-same : (items : List Item) (item : Item) → ((comm : ℕ) → or_rule (first_split items comm) (split_rule (effect_of item.stmt).group comm) ≡ first_split items comm) → rules_of (items ++ item ∷ []) ≡ rules_of items
rules-same items item kept = ap (λ (f : ℕ → CommRule). rule.World ∷ map f (range_with_len 1 15)) (fun_ext (λ comm. first_split-more items item comm ∙ kept comm))

split-kept : (items : List Item) (split : ℕ) (r : CommRule) → (first_split items split ≡ rule.Absent → ⊥) → (comm : ℕ) → or_rule (first_split items comm) (cond (eqb split comm) r rule.Absent) ≡ first_split items comm
split-kept items split r there comm =
    elim (eqb_tells split comm) [
      | inl same ↦ or_rule-kept (first_split items comm) _ (subst (λ c. first_split items c ≡ rule.Absent → ⊥) same.1 there)
      | inr other ↦ rw other.0 (or_absent _)
    ]

not-false-is : (a : Bool) → not a ≡ false → a ≡ true
not-false-is true h = refl
not-false-is false h = cc

-- what the checks of a split leave
pub record IsSplittable (split : ℕ) (r : CommRule) : Type 0 where
  pub some : 1 ≤ split
  pub top : split < 16
  pub below : parent_of r < split

pub last-within : (version : Version) → last_comm version < 16
last-within version.One = lit< tt
last-within version.Two = lit< tt

pub splittable : (version : Version) (run : SetupView) (split : ℕ) (r : CommRule) → is_unknown version run (group.Split split r) ≡ false → IsSplittable split r
splittable version run split r known =
    let top = ltb-false (last_comm version) split (false-left (ltb (last_comm version) split) (is_badly_split run split r) known) in
    let good = false-right (ltb (last_comm version) split) (is_badly_split run split r) known in
    let front = false-left (split == 0 || not (nat_lt (parent_of r) split)) (differs_from (rule_of run.comms split) r) good in
    let some = eqb-false split 0 (false-left (split == 0) (not (nat_lt (parent_of r) split)) front) in
    let below = ltb-true (parent_of r) split (not-false-is (nat_lt (parent_of r) split) (false-right (split == 0) (not (nat_lt (parent_of r) split)) front)) in
    record {
      some = elim (cases_lt 0 split) [ inl h ↦ h | inr h ↦ absurd (some (omega arith)) ];
      top = omega (arith, top, last-within version);
      below = below;
    }

pub absent-is : (r : CommRule) → r ≡ rule.Absent → is_absent r ≡ true
absent-is r h = rw h refl

pub known-there : (run : SetupView) (comm : ℕ) → is_known run comm ≡ true → rule_of run.comms comm ≡ rule.Absent → ⊥
known-there run comm known gone = let yes = absent-is (rule_of run.comms comm) gone in false≢true (sym (ap not yes) ∙ known)

-- the run of the statements so far, with no detour
pub run-straight : (nue : ℕ) (items : List Item) → run_of nue (reverse items) ≡ record { nue = nue; layout = layout.LineFlags; hosts = []; comms = rules_of items }
run-straight nue items = rw reverse-reverse refl

-- the rules stay where a statement splits nothing new
pub rules-kept : (g : Group) (items : List Item) (item : Item) (version : Version) (nue : ℕ) → (effect_of item.stmt).group ≡ g → is_unknown version (run_of nue (reverse items)) g ≡ false → is_new_split (run_of nue (reverse items)) g ≡ false → rules_of (items ++ item ∷ []) ≡ rules_of items
rules-kept (group.Split split r) items item version nue is known old =
    let ok = splittable version (run_of nue (reverse items)) split r known in
    let there = known-there (run_of nue (reverse items)) split (not-false-is _ old) in
    let straight = subst (λ (list : List Item). rule_of (rules_of list) split ≡ rule.Absent → ⊥) (reverse-reverse items) there in
    let first = subst (λ (r : CommRule). r ≡ rule.Absent → ⊥) (split-at items split ok.some ok.top) straight in
    rules-same items item (λ comm. subst (λ (g : Group). or_rule (first_split items comm) (split_rule g comm) ≡ first_split items comm) (sym is) (split-kept items split r first comm))
rules-kept group.World items item version nue is known old = rules-same items item (λ c. subst (λ (g : Group). or_rule (first_split items c) (split_rule g c) ≡ first_split items c) (sym is) (or_absent _))
rules-kept (group.Of place) items item version nue is known old = rules-same items item (λ c. subst (λ (g : Group). or_rule (first_split items c) (split_rule g c) ≡ first_split items c) (sym is) (or_absent _))

-- the rules are rules where a statement splits something
pub rules-made : (g : Group) (items : List Item) (item : Item) (version : Version) (nue : ℕ) → (effect_of item.stmt).group ≡ g → IsSplitMade g → is_unknown version (run_of nue (reverse items)) g ≡ false → has_no_parent (run_of nue (reverse items)) g ≡ false
    → is_new_split (run_of nue (reverse items)) g ≡ true → AreRules (rules_of items) → AreRules (rules_of (items ++ item ∷ []))
rules-made (group.Split split r) items item version nue is made known parented new rules =
    let ok = splittable version (run_of nue (reverse items)) split r known in
    let there = known-there (run_of nue (reverse items)) (parent_of r) (not-false-is _ parented) in
    let straight = subst (λ (list : List Item). rule_of (rules_of list) (parent_of r) ≡ rule.Absent → ⊥) (reverse-reverse items) there in
    AreRules-split items item split r is ok.top made.1 ok.below straight rules
rules-made group.World items item version nue is made known parented new rules = absurd (false≢true new)
rules-made (group.Of comm) items item version nue is made known parented new rules = absurd (false≢true new)

-- a communicator past the last one has no split
pub split-low : (g : Group) (version : Version) (run : SetupView) (comm : ℕ) → is_unknown version run g ≡ false → last_comm version < comm → split_rule g comm ≡ rule.Absent
split-low (group.Split split r) version run comm known above =
    let top = ltb-false (last_comm version) split (false-left (ltb (last_comm version) split) (is_badly_split run split r) known) in
    elim (eqb_tells split comm) [
      | inl same ↦ absurd (omega (arith, top, above, same.1))
      | inr other ↦ rw other.0 refl
    ]
split-low group.World version run comm known above = refl
split-low (group.Of place) version run comm known above = refl
