-- No check looks at the place that a repeat has of its end.
use Rattle.std.proofs.Common.{◌≡◌, ℕ, zero, suc, ◌+◌, ◌*◌, ◌≤◌, Bool, ◌||◌, ◌&&◌, cond, List, [], ◌∷◌, ◌++◌, map, Option, Some, None, length, reverse, slice_get, slice_set, refl, sym, ap, ◌∙◌, subst}
use Rattle.std.proofs.Math.Path.{fun_ext}
use Rattle.std.proofs.lemmas.List.{length-map, map-append, reverse-append}
use Rattle.std.specs.List.{range_with_len}
use Rattle.std.specs.Option.{option_or}
use Rattle.std.specs.Prelude.{IfSome}
use Rattle.scc_base.specs.Setups.{SetupView}
use Rattle.scc_base.specs.declared.communicators.CommRule.{CommRule}
use Rattle.scc_base.specs.declared.communicators.CommRule.TheVariants as rule
use Rattle.scc_base.specs.declared.layouts.Layout.TheVariants as layout
use Rattle.script_rules.specs.declared.effect.Effect.{Effect}
use Rattle.script_rules.specs.declared.fault.FaultKind.{FaultKind}
use Rattle.script_rules.specs.declared.fault.FaultKind.TheVariants as kind
use Rattle.script_rules.specs.declared.repeats.Open.{Open}
use Rattle.script_rules.specs.declared.script.Item.{Item}
use Rattle.script_rules.specs.declared.script.Stmt.{Stmt}
use Rattle.script_rules.specs.declared.script.Stmt.TheVariants as stmt
use Rattle.script_rules.specs.Checks.{cost_of, has_no_root, has_split, is_misshapen, is_not_split, is_overworked, is_too_deep, is_unset, length_at, open_of, repeats_after, operations, posts_too_much, bytes_printed, prints, prints_too_much, refuses, run_of, set_by, sets_to, turns_in}
use Rattle.script_rules.specs.Closed.{AreMatched, StayInSection, Closes, HasPass, HavePasses, latest_section}
use Rattle.script_rules.specs.Ends.{with_ends}
use Rattle.scc_base.specs.Communicators.{AreRules, rule_of}
use Rattle.script_rules.specs.Effects.{IsSizedBy, comm_needed, effect_of, is_split_of, split_rule}
use Rattle.script_rules.specs.Script.{IsSized, first_split, has_rank, or_rule, rules_of}
use Rattle.script_rules.specs.Settled.{AreInLine, ArePassed, IsInLine}
use Rattle.script_rules.proofs.EndLemmas.{with_ends-keeps}

-- a statement without the place of its end
abbrev pub bare : Stmt → Stmt
bare (stmt.Repeat times end) = stmt.Repeat times 0
bare s = s

abbrev pub bared : Item → Item
bared item = record item { stmt = bare item.stmt }

abbrev pub all_bared : List Item → List Item
all_bared items = map bared items

bare-same : {X : Type 0} (f : Stmt → X) → ((times end : ℕ) → f (stmt.Repeat times 0) ≡ f (stmt.Repeat times end)) → (s : Stmt) → f (bare s) ≡ f s
bare-same f same (stmt.Repeat times end) = same times end
bare-same f same _ = refl

-- no effect looks there
pub effect-bare : (s : Stmt) → effect_of (bare s) ≡ effect_of s
effect-bare s = bare-same effect_of (λ times end. refl) s

bared-told : (first item : Item) (times end place : ℕ) → Some first ≡ Some item → item.stmt ≡ stmt.Repeat times end → bared (record item { stmt = stmt.Repeat times place }) ≡ bared first
bared-told first item times end place found is =
    let same : first ≡ item = cc in
    sym (ap bared same ∙ ap (λ (s : Stmt). record item { stmt = bare s }) is)

bared-set : (items : List Item) (start place : ℕ) (item : Item) (times end : ℕ) → slice_get items start ≡ Some item → item.stmt ≡ stmt.Repeat times end
    → all_bared (slice_set items start (record item { stmt = stmt.Repeat times place })) ≡ all_bared items
bared-set [] start place item times end found is = refl
bared-set (first ∷ items) zero place item times end found is = ap (λ (i : Item). i ∷ all_bared items) (bared-told first item times end place found is)
bared-set (first ∷ items) (suc start) place item times end found is = ap (λ (list : List Item). bared first ∷ list) (bared-set items start place item times end found is)

pub bared-with_ends : (n : ℕ) (items : List Item) → all_bared (with_ends n items) ≡ all_bared items
bared-with_ends n items =
    with_ends-keeps (λ list. all_bared list ≡ all_bared items)
    (record { keeps = λ list start place item times end found is p. bared-set list start place item times end found is ∙ p }) n items refl

bared-reverse : (items : List Item) → all_bared (reverse items) ≡ reverse (all_bared items)
bared-reverse [] = refl
bared-reverse (item ∷ items) =
    ap all_bared (reverse-append (item ∷ []) items)
    ∙ map-append bared (reverse items) (item ∷ [])
    ∙ ap (λ (list : List Item). list ++ bared item ∷ []) (bared-reverse items)
    ∙ sym (reverse-append (bared item ∷ []) (all_bared items))

bared-reverse-ends : (n : ℕ) (items : List Item) → all_bared (reverse items) ≡ all_bared (reverse (with_ends n items))
bared-reverse-ends n items = bared-reverse items ∙ ap reverse (sym (bared-with_ends n items)) ∙ sym (bared-reverse (with_ends n items))

-- what the checks ask of the statements so far
first-bared : (items : List Item) (comm : ℕ) → first_split (all_bared items) comm ≡ first_split items comm
first-bared [] comm = refl
first-bared (item ∷ items) comm =
    ap (λ (e : Effect). or_rule (split_rule e.group comm) (first_split (all_bared items) comm)) (effect-bare item.stmt)
    ∙ ap (or_rule (split_rule (effect_of item.stmt).group comm)) (first-bared items comm)

rules-bared : (items : List Item) → rules_of (all_bared items) ≡ rules_of items
rules-bared items = ap (λ (f : ℕ → CommRule). rule.World ∷ map f (range_with_len 1 15)) (fun_ext (λ comm. first-bared items comm))

run-bared : (nue : ℕ) (past : List Item) → run_of nue (all_bared past) ≡ run_of nue past
run-bared nue past =
    ap (λ (rules : List CommRule). record { nue = nue; layout = layout.LineFlags; hosts = []; comms = rules })
    (ap rules_of (sym (bared-reverse past)) ∙ rules-bared (reverse past))

open-bared : (past : List Item) → open_of (all_bared past) ≡ open_of past
open-bared [] = refl
open-bared (item ∷ past) =
    ap (λ (e : Effect). repeats_after e.nesting (length (all_bared past)) (open_of (all_bared past))) (effect-bare item.stmt)
    ∙ ap (λ (n : ℕ). repeats_after (effect_of item.stmt).nesting n (open_of (all_bared past))) (length-map past bared)
    ∙ ap (repeats_after (effect_of item.stmt).nesting (length past)) (open-bared past)

split-bared : (past : List Item) (rank comm : ℕ) → has_split (all_bared past) rank comm ≡ has_split past rank comm
split-bared [] rank comm = refl
split-bared (item ∷ past) rank comm =
    ap (λ (e : Effect). has_split (all_bared past) rank comm || (has_rank item.who rank && is_split_of e.group comm)) (effect-bare item.stmt)
    ∙ ap (λ (had : Bool). had || (has_rank item.who rank && is_split_of (effect_of item.stmt).group comm)) (split-bared past rank comm)

abbrev length_after : Item → ℕ → ℕ → SetupView → (ℕ → Option ℕ) → Effect → Option ℕ
length_after item rank reg run had e = option_or (had reg) (cond (has_rank item.who rank) (sets_to (set_by run had e rank) reg) None)

length-bared : (nue : ℕ) (past : List Item) (rank reg : ℕ) → length_at nue (all_bared past) rank reg ≡ length_at nue past rank reg
length-bared nue [] rank reg = refl
length-bared nue (item ∷ past) rank reg =
    ap (length_after item rank reg (run_of nue (all_bared past)) (length_at nue (all_bared past) rank)) (effect-bare item.stmt)
    ∙ ap (λ (run : SetupView). length_after item rank reg run (length_at nue (all_bared past) rank) (effect_of item.stmt)) (run-bared nue past)
    ∙ ap (λ (had : ℕ → Option ℕ). length_after item rank reg (run_of nue past) had (effect_of item.stmt)) (fun_ext (λ r. length-bared nue past rank r))

lengths-bared : (nue : ℕ) (past : List Item) (rank : ℕ) → length_at nue (all_bared past) rank ≡ length_at nue past rank
lengths-bared nue past rank = fun_ext (λ reg. length-bared nue past rank reg)

abbrev done_after : Item → ℕ → ℕ → List Open → ℕ → ℕ
done_after item rank done repeats cost = done + cond (has_rank item.who rank) (turns_in repeats * cost) 0

operations-bared : (nue : ℕ) (past : List Item) (rank : ℕ) → operations nue (all_bared past) rank ≡ operations nue past rank
operations-bared nue [] rank = refl
operations-bared nue (item ∷ past) rank =
    ap (done_after item rank (operations nue (all_bared past) rank) (open_of (all_bared past)))
    (ap (λ (e : Effect). cost_of (run_of nue (all_bared past)) e.cost rank) (effect-bare item.stmt) ∙ ap (λ (run : SetupView). cost_of run (effect_of item.stmt).cost rank) (run-bared nue past))
    ∙ ap (λ (repeats : List Open). done_after item rank (operations nue (all_bared past) rank) repeats (cost_of (run_of nue past) (effect_of item.stmt).cost rank)) (open-bared past)
    ∙ ap (λ (done : ℕ). done_after item rank done (open_of past) (cost_of (run_of nue past) (effect_of item.stmt).cost rank)) (operations-bared nue past rank)

printed-bared : (nue : ℕ) (past : List Item) (rank : ℕ) → bytes_printed nue (all_bared past) rank ≡ bytes_printed nue past rank
printed-bared nue [] rank = refl
printed-bared nue (item ∷ past) rank =
    ap (done_after item rank (bytes_printed nue (all_bared past) rank) (open_of (all_bared past)))
    (ap (prints (length_at nue (all_bared past) rank)) (effect-bare item.stmt) ∙ ap (λ (had : ℕ → Option ℕ). prints had (effect_of item.stmt)) (lengths-bared nue past rank))
    ∙ ap (λ (repeats : List Open). done_after item rank (bytes_printed nue (all_bared past) rank) repeats (prints (length_at nue past rank) (effect_of item.stmt))) (open-bared past)
    ∙ ap (λ (done : ℕ). done_after item rank done (open_of past) (prints (length_at nue past rank) (effect_of item.stmt))) (printed-bared nue past rank)

abbrev too_long : Effect → ℕ → List Open → (ℕ → Option ℕ) → Bool
too_long e done repeats had = posts_too_much had e || prints_too_much had done (turns_in repeats) e

refuses-past : (kind : FaultKind) (nue : ℕ) (past : List Item) (e : Effect) (rank : ℕ) → refuses kind nue (all_bared past) e rank ≡ refuses kind nue past e rank
refuses-past kind.RankRange nue past e rank = ap (λ (run : SetupView). has_no_root run e rank) (run-bared nue past)
refuses-past kind.SelfMessage nue past e rank = refl
refuses-past kind.NotSplit nue past e rank = ap (λ (split : ℕ → Bool). is_not_split split e.group) (fun_ext (λ comm. split-bared past rank comm))
refuses-past kind.Unset nue past e rank =
    ap (λ (run : SetupView). is_unset run (length_at nue (all_bared past) rank) e rank) (run-bared nue past)
    ∙ ap (λ (had : ℕ → Option ℕ). is_unset (run_of nue past) had e rank) (lengths-bared nue past rank)
refuses-past kind.Shape nue past e rank =
    ap (λ (run : SetupView). is_misshapen run (length_at nue (all_bared past) rank) e rank) (run-bared nue past)
    ∙ ap (λ (had : ℕ → Option ℕ). is_misshapen (run_of nue past) had e rank) (lengths-bared nue past rank)
refuses-past kind.TooManyOps nue past e rank =
    ap (λ (run : SetupView). is_overworked run (operations nue (all_bared past) rank) (turns_in (open_of (all_bared past))) e.cost rank) (run-bared nue past)
    ∙ ap (λ (done : ℕ). is_overworked (run_of nue past) done (turns_in (open_of (all_bared past))) e.cost rank) (operations-bared nue past rank)
    ∙ ap (λ (repeats : List Open). is_overworked (run_of nue past) (operations nue past rank) (turns_in repeats) e.cost rank) (open-bared past)
refuses-past kind.TooLong nue past e rank =
    ap (too_long e (bytes_printed nue (all_bared past) rank) (open_of (all_bared past))) (lengths-bared nue past rank)
    ∙ ap (λ (repeats : List Open). too_long e (bytes_printed nue (all_bared past) rank) repeats (length_at nue past rank)) (open-bared past)
    ∙ ap (λ (done : ℕ). too_long e done (open_of past) (length_at nue past rank)) (printed-bared nue past rank)
refuses-past _ nue past e rank = refl

refuses-bared : (kind : FaultKind) (nue : ℕ) (past : List Item) (s : Stmt) (rank : ℕ) → refuses kind nue (all_bared past) (effect_of (bare s)) rank ≡ refuses kind nue past (effect_of s) rank
refuses-bared kind nue past s rank = ap (λ (e : Effect). refuses kind nue (all_bared past) e rank) (effect-bare s) ∙ refuses-past kind nue past (effect_of s) rank

passed-bare : (nue : ℕ) (past : List Item) → ArePassed nue past → ArePassed nue (all_bared past)
passed-bare nue [] all = tt
passed-bare nue (item ∷ past) all = (passed-bare nue past all.0, λ kind rank below has. refuses-bared kind nue past item.stmt rank ∙ all.1 kind rank below has)

passed-whole : (nue : ℕ) (past : List Item) → ArePassed nue (all_bared past) → ArePassed nue past
passed-whole nue [] all = tt
passed-whole nue (item ∷ past) all = (passed-whole nue past all.0, λ kind rank below has. sym (refuses-bared kind nue past item.stmt rank) ∙ all.1 kind rank below has)

-- what no check refuses, none refuses where the repeats are told their ends
pub passed-with_ends : (nue n : ℕ) (items : List Item) → ArePassed nue (reverse items) → ArePassed nue (reverse (with_ends n items))
passed-with_ends nue n items passed =
    passed-whole nue (reverse (with_ends n items))
    (subst (λ (past : List Item). ArePassed nue past)
    (bared-reverse-ends n items)
    (passed-bare nue (reverse items) passed))

-- what the checks of a line leave does not look there either
rules-back : (past : List Item) → rules_of (reverse (all_bared past)) ≡ rules_of (reverse past)
rules-back past = ap rules_of (sym (bared-reverse past)) ∙ rules-bared (reverse past)

needed-bare : (s : Stmt) → comm_needed (effect_of (bare s)).group ≡ comm_needed (effect_of s).group
needed-bare s = ap (λ (e : Effect). comm_needed e.group) (effect-bare s)

deep-bare : (past : List Item) (s : Stmt) → is_too_deep (open_of (all_bared past)) (effect_of (bare s)).nesting ≡ is_too_deep (open_of past) (effect_of s).nesting
deep-bare past s =
    ap (λ (e : Effect). is_too_deep (open_of (all_bared past)) e.nesting) (effect-bare s)
    ∙ ap (λ (repeats : List Open). is_too_deep repeats (effect_of s).nesting) (open-bared past)

abbrev IsSizedAs : Effect → Type 0
IsSizedAs e = IfSome e.sets (λ set. IsSizedBy set.size)

sized-bare : (s : Stmt) → IsSized s → IsSized (bare s)
sized-bare s sized = subst (λ (e : Effect). IsSizedAs e) (sym (effect-bare s)) sized

sized-whole : (s : Stmt) → IsSized (bare s) → IsSized s
sized-whole s sized = subst (λ (e : Effect). IsSizedAs e) (effect-bare s) sized

line-bare : (nue : ℕ) (past : List Item) (item : Item) → IsInLine nue past item → IsInLine nue (all_bared past) (bared item)
line-bare nue past item l = record {
  rules = subst (λ (r : List CommRule). AreRules r) (sym (rules-back past)) l.rules;
  present = λ rank below has.
      subst (λ (r : List CommRule). rule_of r (comm_needed (effect_of (bare item.stmt)).group) ≡ rule.Absent → ⊥) (sym (rules-back past))
      (subst (λ (c : ℕ). rule_of (rules_of (reverse past)) c ≡ rule.Absent → ⊥) (sym (needed-bare item.stmt)) (l.present rank below has));
  sized = sized-bare item.stmt l.sized;
  flat = deep-bare past item.stmt ∙ l.flat;
}

line-whole : (nue : ℕ) (past : List Item) (item : Item) → IsInLine nue (all_bared past) (bared item) → IsInLine nue past item
line-whole nue past item l = record {
  rules = subst (λ (r : List CommRule). AreRules r) (rules-back past) l.rules;
  present = λ rank below has.
      subst (λ (r : List CommRule). rule_of r (comm_needed (effect_of item.stmt).group) ≡ rule.Absent → ⊥) (rules-back past)
      (subst (λ (c : ℕ). rule_of (rules_of (reverse (all_bared past))) c ≡ rule.Absent → ⊥) (needed-bare item.stmt) (l.present rank below has));
  sized = sized-whole item.stmt l.sized;
  flat = sym (deep-bare past item.stmt) ∙ l.flat;
}

lines-bare : (nue : ℕ) (past : List Item) → AreInLine nue past → AreInLine nue (all_bared past)
lines-bare nue [] all = tt
lines-bare nue (item ∷ past) all = (lines-bare nue past all.0, line-bare nue past item all.1)

lines-whole : (nue : ℕ) (past : List Item) → AreInLine nue (all_bared past) → AreInLine nue past
lines-whole nue [] all = tt
lines-whole nue (item ∷ past) all = (lines-whole nue past all.0, line-whole nue past item all.1)

pub lines-with_ends : (nue n : ℕ) (items : List Item) → AreInLine nue (reverse items) → AreInLine nue (reverse (with_ends n items))
lines-with_ends nue n items lines =
    lines-whole nue (reverse (with_ends n items))
    (subst (λ (past : List Item). AreInLine nue past)
    (bared-reverse-ends n items)
    (lines-bare nue (reverse items) lines))

-- the repeats that are open do not look there, nor does the matching of ends
pub open-with_ends : (n : ℕ) (items : List Item) → open_of (reverse (with_ends n items)) ≡ open_of (reverse items)
open-with_ends n items = sym (open-bared (reverse (with_ends n items))) ∙ ap open_of (sym (bared-reverse-ends n items)) ∙ open-bared (reverse items)

matched-bare : (past : List Item) → AreMatched past → AreMatched (all_bared past)
matched-bare [] matched = tt
matched-bare (item ∷ past) matched = (
  matched-bare past matched.0,
  subst (λ (e : Effect). Closes (open_of (all_bared past)) e.nesting) (sym (effect-bare item.stmt))
      (subst (λ (repeats : List Open). Closes repeats (effect_of item.stmt).nesting) (sym (open-bared past)) matched.1),
)

matched-whole : (past : List Item) → AreMatched (all_bared past) → AreMatched past
matched-whole [] matched = tt
matched-whole (item ∷ past) matched = (
  matched-whole past matched.0,
  subst (λ (repeats : List Open). Closes repeats (effect_of item.stmt).nesting) (open-bared past)
      (subst (λ (e : Effect). Closes (open_of (all_bared past)) e.nesting) (effect-bare item.stmt) matched.1),
)

pub matched-with_ends : (n : ℕ) (items : List Item) → AreMatched (reverse items) → AreMatched (reverse (with_ends n items))
matched-with_ends n items matched =
    matched-whole (reverse (with_ends n items))
    (subst (λ (past : List Item). AreMatched past) (bared-reverse-ends n items) (matched-bare (reverse items) matched))

-- nor do their sections, nor how often they are done
latest-bared : (past : List Item) → latest_section (all_bared past) ≡ latest_section past
latest-bared [] = refl
latest-bared (item ∷ past) = refl

within-bare : (past : List Item) → StayInSection past → StayInSection (all_bared past)
within-bare [] all = tt
within-bare (item ∷ past) all = (within-bare past all.0, λ some. latest-bared past ∙ all.1 (subst (λ (repeats : List Open). 1 ≤ length repeats) (open-bared past) some))

within-whole : (past : List Item) → StayInSection (all_bared past) → StayInSection past
within-whole [] all = tt
within-whole (item ∷ past) all = (within-whole past all.0, λ some. sym (latest-bared past) ∙ all.1 (subst (λ (repeats : List Open). 1 ≤ length repeats) (sym (open-bared past)) some))

pub within-with_ends : (n : ℕ) (items : List Item) → StayInSection (reverse items) → StayInSection (reverse (with_ends n items))
within-with_ends n items all = within-whole (reverse (with_ends n items)) (subst (λ (past : List Item). StayInSection past) (bared-reverse-ends n items) (within-bare (reverse items) all))

once-bare : (past : List Item) → HavePasses past → HavePasses (all_bared past)
once-bare [] all = tt
once-bare (item ∷ past) all = (once-bare past all.0, subst (λ (e : Effect). HasPass e.nesting) (sym (effect-bare item.stmt)) all.1)

once-whole : (past : List Item) → HavePasses (all_bared past) → HavePasses past
once-whole [] all = tt
once-whole (item ∷ past) all = (once-whole past all.0, subst (λ (e : Effect). HasPass e.nesting) (effect-bare item.stmt) all.1)

pub once-with_ends : (n : ℕ) (items : List Item) → HavePasses (reverse items) → HavePasses (reverse (with_ends n items))
once-with_ends n items all = once-whole (reverse (with_ends n items)) (subst (λ (past : List Item). HavePasses past) (bared-reverse-ends n items) (once-bare (reverse items) all))
