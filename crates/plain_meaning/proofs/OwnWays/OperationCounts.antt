-- The marks of a rank are as many as its operations: a statement makes as many as it costs, and a repeat's body comes as
-- often as its statements are counted.
use Rattle.std.proofs.Common.{◌≡◌, ℕ, ◌+◌, ◌-◌, ◌*◌, ◌<◌, ◌≤◌, ◌==◌, Bool, true, false, cond, ◌&&◌, List, [], ◌∷◌, ◌++◌, length, reverse, take, Some, None, refl, sym, ap, subst, ◌∙◌, arith, slice_get, append_assoc, inl, inr, Option}
use Rattle.std.proofs.lemmas.Bool.{and_parts, cases_lt}
use Rattle.std.proofs.lemmas.List.{append-nil, length-map, length-take-le, reverse-append}
use Rattle.std.specs.Prelude.{remove, slice_index}
use Rattle.scc_base.specs.Communicators.{key_of, rule_of}
use Rattle.scc_base.specs.Groups.{members_in, place_in}
use Rattle.scc_base.specs.declared.communicators.CommRule.TheVariants as rule
use Rattle.groups.specs.Collectives.{comm_of, steps_of}
use Rattle.groups.specs.declared.collectives.Coll.{Coll}
use Rattle.groups.specs.declared.collectives.Coll.TheVariants as coll
use Rattle.groups.specs.declared.operations.Op.TheVariants as op_of
use Rattle.groups.specs.declared.operations.Ty.TheVariants as ty_of
use Rattle.script_rules.specs.Checks.{cost_of, has_root, is_known, open_of, repeats_after, operations, run_of, steps_in, turns_in}
use Rattle.script_rules.specs.Closed.{AreMatched, StayInSection, Closes, HasPass, HavePasses, IsClosed, latest_section}
use Rattle.script_rules.specs.Effects.{comm_needed, effect_of}
use Rattle.script_rules.specs.Limits.{most_operations}
use Rattle.script_rules.specs.Script.{Script, has_rank, rules_of}
use Rattle.script_rules.specs.Settled.{AreInLine, IsInLine, IsWholeScript}
use Rattle.script_rules.specs.declared.script.Item.{Item}
use Rattle.script_rules.specs.declared.script.Stmt.{Stmt}
use Rattle.script_rules.specs.declared.script.Stmt.TheVariants as stmt
use Rattle.script_rules.specs.declared.script.Who.{Who}
use Rattle.script_rules.proofs.AcceptanceLemmas.{worked-law}
use Rattle.script_rules.proofs.SettledLemmas.{Extends, key-same, present-low}
use Rattle.script_rules.specs.declared.effect.Nesting.{Nesting}
use Rattle.script_rules.specs.declared.effect.Nesting.TheVariants as nesting
use Rattle.script_machine.specs.declared.prims.Operands.{Operands}
use Rattle.script_machine.specs.Program.{Prim, Unrolled, acts_of, begins, call_steps, can_call, collective_of, in_front, unrolled_marks, marks_by, marks_in, part_of, parts_of, program_of, setup_of}
use Rattle.script_machine.proofs.ProgramLengths.CallableLaws.{callable, known}
use Rattle.script_machine.proofs.Walks.MarkLaws.{fewer_prims, program_is}
use Rattle.plain_meaning.proofs.Collectives.ReductionPaths.{fold_operands}
use Rattle.script_machine.proofs.Choices as choices
use Rattle.plain_meaning.proofs.OwnWays.RepeatCounts.{Counts, IsOther, IsStack, cast_steps, counts_closes, counts_repeated, counts_stays, in_line, line_back, lined_up, matched_back, once_back, one_opened, popped, root_by_key, rule_on, same_stack, seam, sorted, steps_by, top_of, within_back}

module _ (script : Script) (whole : IsWholeScript script.nue script.items) (rank : ℕ) (below : rank < script.nue) where
  -- a call of a statement costs the steps that it makes
  module _ (past : List Item) (e : Extends (rules_of (reverse past)) (rules_of script.items)) where
    made : (o : Operands) (c : Coll) → can_call (setup_of script) rank c ≡ true → length (parts_of o (call_steps (setup_of script) rank c)) ≡ length (steps_of (setup_of script) rank c)
    made o c may =
        length-map (call_steps (setup_of script) rank c) (part_of o (begins (call_steps (setup_of script) rank c)))
        ∙ ap (λ (b : Bool). length (cond b (steps_of (setup_of script) rank c) [])) may

    asked : (c : Coll) → (rule_of (rules_of (reverse past)) (comm_of c) ≡ rule.Absent → ⊥) → has_root (setup_of script) rank c ≡ true
        → length (steps_of (setup_of script) rank c) ≡ steps_in (run_of script.nue past) rank c
    asked c there rooted =
        let keys = key-same (rules_of (reverse past)) (rules_of script.items) e (comm_of c) there in
        let is : (is_known (run_of script.nue past) (comm_of c) && has_root (run_of script.nue past) rank c) ≡ true =
        choices.and_of (is_known (run_of script.nue past) (comm_of c)) (has_root (run_of script.nue past) rank c) (known (rule_of (rules_of (reverse past)) (comm_of c)) there)
        (sym (root_by_key script.nue (setup_of script) (run_of script.nue past) rank c refl keys) ∙ rooted) in
        ap (λ (key : ℕ → ℕ). length (steps_by script.nue key rank c)) keys
        ∙ sym (ap (λ (b : Bool). cond b (length (steps_of (run_of script.nue past) rank c)) 0) is)

    rooted_of : (c : Coll) → can_call (setup_of script) rank c ≡ true → has_root (setup_of script) rank c ≡ true
    rooted_of c may = (and_parts _ (has_root (setup_of script) rank c) may).1

    cost : (k : ℕ) (item : Item) → slice_get script.items k ≡ Some item → has_rank item.who rank ≡ true → (s : Stmt) → item.stmt ≡ s
        → (rule_of (rules_of (reverse past)) (comm_needed (effect_of s).group) ≡ rule.Absent → ⊥) → length (marks_by (effect_of s).nesting (in_line item.line (acts_of (setup_of script) rank s))) ≡ cost_of (run_of script.nue past) (effect_of s).cost rank
    cost k item found has (stmt.Bcast comm root reg len) is there =
        let o : Operands = record { op = op_of.Sum; ty = ty_of.Int; dst = reg; src = reg; sized = None } in
        let c : Coll = coll.Bcast comm root len in
        let key = key_of (rules_of script.items) comm in
        let may = callable script whole k item rank found below has (record { coll = c; operands = o }) (ap collective_of is) in
        lined_up item.line (acts_of (setup_of script) rank (stmt.Bcast comm root reg len)) ∙ made o c may
        ∙ cast_steps (place_in key rank == root) comm root len (remove (members_in script.nue key rank) root) (slice_index (members_in script.nue key rank) root)
        ∙ asked (coll.Bcast comm root 0) there (rooted_of c may)
    cost k item found has (stmt.Reduce comm root op ty dst src) is there =
        let o = fold_operands op ty dst src in
        let c : Coll = coll.Reduce comm root 0 in
        let may = callable script whole k item rank found below has (record { coll = c; operands = o }) (ap collective_of is) in
        lined_up item.line (acts_of (setup_of script) rank (stmt.Reduce comm root op ty dst src)) ∙ made o c may ∙ asked c there (rooted_of c may)
    cost k item found has (stmt.Allreduce comm op ty dst src) is there =
        let o = fold_operands op ty dst src in
        let c : Coll = coll.Allreduce comm 0 in
        let may = callable script whole k item rank found below has (record { coll = c; operands = o }) (ap collective_of is) in
        lined_up item.line (acts_of (setup_of script) rank (stmt.Allreduce comm op ty dst src)) ∙ made o c may ∙ asked c there refl
    cost k item found has _ is there = refl

  -- what the statements behind others cost a rank
  abbrev cost_at : List Item → Item → ℕ
  cost_at past item = cond (has_rank item.who rank) (turns_in (open_of past) * cost_of (run_of script.nue past) (effect_of item.stmt).cost rank) 0

  abbrev more : List Item → List Item → ℕ
  more past [] = 0
  more past (item ∷ items) = cost_at past item + more (item ∷ past) items

  turn : (item : Item) (items past : List Item) → reverse (item ∷ items) ++ past ≡ reverse items ++ item ∷ past
  turn item items past = ap (λ (l : List Item). l ++ past) (reverse-append (item ∷ []) items) ∙ append_assoc (reverse items) (item ∷ []) past

  all_more : (items past : List Item) → operations script.nue (reverse items ++ past) rank ≡ operations script.nue past rank + more past items
  all_more [] past = omega arith
  all_more (item ∷ items) past =
      let on = all_more items (item ∷ past) in
      ap (λ (l : List Item). operations script.nue l rank) (turn item items past) ∙ omega (arith, on)

  -- the repeats that are open are all of the rank's sections, or all of others
  data Stands (past : List Item) : List ℕ → Type 0 where
    Inside : (stack : List ℕ) → IsStack past stack → ((who : Who) → 1 ≤ length (open_of past) → latest_section past ≡ Some who → has_rank who rank ≡ true) → Stands past stack
    Outside : 1 ≤ length (open_of past) → ((who : Who) → latest_section past ≡ Some who → has_rank who rank ≡ false) → Stands past []

  -- what is known of a statement behind others
  record IsPlaced (past : List Item) (item : Item) : Type 0 where
    within : 1 ≤ length (open_of past) → latest_section past ≡ Some item.who
    closes : Closes (open_of past) (effect_of item.stmt).nesting
    once : HasPass (effect_of item.stmt).nesting

  clash : (b : Bool) → b ≡ true → b ≡ false → ⊥
  clash b is other = cc

  same_who : (who other : Who) → Some who ≡ Some other → who ≡ other
  same_who who other is = cc

  none_of : {A : Type 0} (list : List A) → length list ≤ 0 → list ≡ []
  none_of [] none = refl
  none_of (x ∷ list) none = absurd (omega (arith, none))

  too_few : {A : Type 0} (list : List A) → list ≡ [] → 1 ≤ length list → ⊥
  too_few list none some = omega (arith, ap length none, some)

  -- the repeats that are open behind a statement
  after_is : (past : List Item) (item : Item) (s : Stmt) → item.stmt ≡ s → open_of (item ∷ past) ≡ repeats_after (effect_of s).nesting (length past) (open_of past)
  after_is past item s is = ap (λ (t : Stmt). repeats_after (effect_of t).nesting (length past) (open_of past)) is

  -- behind a statement of other ranks
  outside : (past : List Item) (item : Item) → has_rank item.who rank ≡ false → 1 ≤ length (open_of (item ∷ past)) → Stands (item ∷ past) []
  outside past item has some = Outside some (λ who is. ap (λ (w : Who). has_rank w rank) (sym (same_who item.who who is)) ∙ has)

  inside : (past : List Item) (item : Item) → open_of (item ∷ past) ≡ [] → Stands (item ∷ past) []
  inside past item none = Inside [] none (λ who some is. absurd (too_few (open_of (item ∷ past)) none some))

  -- none is open
  beside_none : (past : List Item) (item : Item) → has_rank item.who rank ≡ false → IsPlaced past item → open_of past ≡ [] → Stands (item ∷ past) []
  beside_none past item has placed none =
      sorted (λ s. item.stmt ≡ s → Closes (open_of past) (effect_of s).nesting → Stands (item ∷ past) [])
      (λ times end is closes. outside past item has (omega (arith, ap length (after_is past item (stmt.Repeat times end) is), one_opened past times end (length past))))
      (λ start is closes. absurd (too_few (open_of past) none closes.0))
      (λ s other is closes. inside past item (after_is past item s is ∙ other.opens (length past) past ∙ none))
      item.stmt refl placed.closes

  -- one of others is open
  beside_some : (past : List Item) (item : Item) → has_rank item.who rank ≡ false → IsPlaced past item → 1 ≤ length (open_of past) → Stands (item ∷ past) []
  beside_some past item has placed some =
      sorted (λ s. item.stmt ≡ s → Stands (item ∷ past) [])
      (λ times end is. outside past item has (omega (arith, ap length (after_is past item (stmt.Repeat times end) is), one_opened past times end (length past))))
      (λ start is.
      let left = after_is past item (stmt.End start) is in
      elim (cases_lt 1 (length (open_of past))) [
        | inl many ↦ outside past item has (omega (arith, ap length left, length-take-le (length (open_of past) - 1) (open_of past) (omega arith), many))
        | inr one ↦ inside past item (none_of (open_of (item ∷ past)) (omega (arith, ap length left, length-take-le (length (open_of past) - 1) (open_of past) (omega arith), one)))
      ])
      (λ s other is. outside past item has (omega (arith, ap length (after_is past item s is ∙ other.opens (length past) past), some)))
      item.stmt refl

  -- a statement of other ranks: where the rank stood in repeats of its own, they were none
  beside_by : (past : List Item) (item : Item) (stack : List ℕ) → has_rank item.who rank ≡ false → IsPlaced past item → IsStack past stack → length (open_of past) ≤ 0 → Stands (item ∷ past) stack
  beside_by past item [] has placed none few = beside_none past item has placed none
  beside_by past item (t ∷ stack) has placed (before, times, end, place, is, turns, rest) few = absurd (omega (arith, ap length is, one_opened before times end place, few))

  beside : (past : List Item) (item : Item) (stack : List ℕ) → has_rank item.who rank ≡ false → IsPlaced past item → Stands past stack → Stands (item ∷ past) stack
  beside past item stack has placed (Inside _ is own) =
      elim (cases_lt 0 (length (open_of past))) [
        | inl some ↦ absurd (clash (has_rank item.who rank) (own item.who some (placed.within some)) has)
        | inr few ↦ beside_by past item stack has placed is few
      ]
  beside past item [] has placed (Outside some other) = beside_some past item has placed some

  -- behind a statement of the rank
  ahead : (past : List Item) (item : Item) (stack : List ℕ) → has_rank item.who rank ≡ true → IsStack (item ∷ past) stack → Stands (item ∷ past) stack
  ahead past item stack has is = Inside stack is (λ who some now. ap (λ (w : Who). has_rank w rank) (sym (same_who item.who who now)) ∙ has)

  module _ (past : List Item) (item : Item) (has : has_rank item.who rank ≡ true) (placed : IsPlaced past item) (prims : List (Option Prim)) (m : ℕ) (u : Unrolled (Option Prim))
      (on : (stack : List ℕ) → Stands (item ∷ past) stack → Counts m stack u) where
    abbrev turns : ℕ
    turns = turns_in (open_of past)

    own_repeat : (stack : List ℕ) → IsStack past stack → (times end : ℕ) → item.stmt ≡ stmt.Repeat times end → 1 ≤ times → Counts (turns * 0 + m) stack (in_front (nesting.Opens times) prims u)
    own_repeat stack stacked times end is once =
        counts_repeated turns times m stack u.here u.afterwards (top_of past stack stacked) once
        (on (turns * times ∷ stack) (ahead past item (turns * times ∷ stack) has (past, times, end, length past, after_is past item (stmt.Repeat times end) is, refl, stacked)))

    own_end : (stack : List ℕ) → IsStack past stack → (start : ℕ) → item.stmt ≡ stmt.End start → 1 ≤ length (open_of past) → length prims ≡ 1 → Counts (turns * 1 + m) stack (in_front (nesting.Closes start) prims u)
    own_end [] none start is some many = absurd (too_few (open_of past) none some)
    own_end (t ∷ stack) (before, times, end, place, repeats, turns_are, rest) start is some many =
        let left : open_of (item ∷ past) ≡ open_of before = after_is past item (stmt.End start) is ∙ ap (λ l. take (length l - 1) l) repeats ∙ popped (open_of before) _ in
        counts_closes turns m t start stack prims u (top_of past (t ∷ stack) (before, times, end, place, repeats, turns_are, rest)) many
        (on stack (ahead past item stack has (same_stack (item ∷ past) before stack left rest)))

    own_other : (stack : List ℕ) → IsStack past stack → (s : Stmt) → IsOther s → item.stmt ≡ s → (cost : ℕ) → length prims ≡ cost → Counts (turns * cost + m) stack (in_front (effect_of s).nesting prims u)
    own_other stack stacked s other is cost many =
        let left : open_of (item ∷ past) ≡ open_of past = after_is past item s is ∙ other.opens (length past) past in
        subst (λ (n : Nesting). Counts (turns * cost + m) stack (in_front n prims u)) (sym other.stays)
        (counts_stays turns cost m stack prims u (top_of past stack stacked) many (on stack (ahead past item stack has (same_stack (item ∷ past) past stack left stacked))))

    own_by : (stack : List ℕ) → IsStack past stack → length prims ≡ cost_of (run_of script.nue past) (effect_of item.stmt).cost rank
        → Counts (turns * cost_of (run_of script.nue past) (effect_of item.stmt).cost rank + m) stack (in_front (effect_of item.stmt).nesting prims u)
    own_by stack stacked many =
        sorted
        (λ s. item.stmt ≡ s → HasPass (effect_of s).nesting → Closes (open_of past) (effect_of s).nesting → length prims ≡ cost_of (run_of script.nue past) (effect_of s).cost rank → Counts (turns * cost_of (run_of script.nue past) (effect_of s).cost rank + m) stack (in_front (effect_of s).nesting prims u))
        (λ times end is once closes many. own_repeat stack stacked times end is once)
        (λ start is once closes many. own_end stack stacked start is closes.0 many)
        (λ s other is once closes many. own_other stack stacked s other is (cost_of (run_of script.nue past) (effect_of s).cost rank) many)
        item.stmt refl placed.once placed.closes many

    own : (stack : List ℕ) → length prims ≡ cost_of (run_of script.nue past) (effect_of item.stmt).cost rank → Stands past stack
        → Counts (turns * cost_of (run_of script.nue past) (effect_of item.stmt).cost rank + m) stack (in_front (effect_of item.stmt).nesting prims u)
    own stack many (Inside _ stacked mine) = own_by stack stacked many
    own [] many (Outside some other) = absurd (clash (has_rank item.who rank) has (other item.who (placed.within some)))

  -- what is known of a list of statements, the latest first
  record IsRead (list : List Item) : Type 0 where
    line : AreInLine script.nue list
    matched : AreMatched list
    within : StayInSection list
    once : HavePasses list
    none : open_of list ≡ []

  counted_by : (past : List Item) (item : Item) (u : Unrolled (Option Prim)) (m : ℕ) (stack : List ℕ) → (has_rank item.who rank ≡ true → length (marks_by (effect_of item.stmt).nesting (in_line item.line (acts_of (setup_of script) rank item.stmt))) ≡ cost_of (run_of script.nue past) (effect_of item.stmt).cost rank)
      → IsPlaced past item → ((stack : List ℕ) → Stands (item ∷ past) stack → Counts m stack u) → Stands past stack → (b : Bool) → has_rank item.who rank ≡ b
      → Counts (cond b (turns_in (open_of past) * cost_of (run_of script.nue past) (effect_of item.stmt).cost rank) 0 + m) stack
      (in_front (cond b (effect_of item.stmt).nesting nesting.Stays) (marks_by (cond b (effect_of item.stmt).nesting nesting.Stays) (cond b (in_line item.line (acts_of (setup_of script) rank item.stmt)) [])) u)
  counted_by past item u m stack costs placed on stands true has =
      own past item has placed (marks_by (effect_of item.stmt).nesting (in_line item.line (acts_of (setup_of script) rank item.stmt))) m u on stack (costs has) stands
  counted_by past item u m stack costs placed on stands false has =
      let c = on stack (beside past item stack has placed stands) in
      (omega (arith, c.0), c.1)

  ended : (past : List Item) (stack : List ℕ) → open_of past ≡ [] → Stands past stack → Counts 0 stack (record { here = []; afterwards = [] })
  ended past [] none stands = (refl, refl)
  ended past (t ∷ stack) none (Inside _ (before, times, end, place, is, turns, rest) own) = absurd (omega (arith, ap length none, ap length is, one_opened before times end place))

  counted : (items past : List Item) → script.items ≡ reverse past ++ items → IsRead (reverse items ++ past) → (stack : List ℕ) → Stands past stack → Counts (more past items) stack (unrolled_marks (setup_of script) rank items)
  unfolding unrolled_marks
  counted [] past is read stack stands = ended past stack read.none stands
  counted (item ∷ items) past is read stack stands =
      let here : IsRead (reverse items ++ item ∷ past) = subst IsRead (turn item items past) read in
      let next : script.items ≡ reverse (item ∷ past) ++ items = is ∙ sym (ap (λ (l : List Item). l ++ items) (reverse-append (item ∷ []) past) ∙ append_assoc (reverse past) (item ∷ []) items) in
      let line : IsInLine script.nue past item = (line_back script.nue (reverse items) (item ∷ past) here.line).1 in
      let e : Extends (rules_of (reverse past)) (rules_of script.items) = record {
        same = λ c there. ap (λ (l : List Item). rule_of (rules_of l) c) is ∙ rule_on (item ∷ items) (reverse past) c there;
        low = present-low (reverse past);
        rules = line.rules;
      } in
      let found : slice_get script.items (length (reverse past)) ≡ Some item = ap (λ (l : List Item). slice_get l (length (reverse past))) is ∙ seam (reverse past) item items in
      let placed : IsPlaced past item = record {
        within = (within_back (reverse items) (item ∷ past) here.within).1;
        closes = (matched_back (reverse items) (item ∷ past) here.matched).1;
        once = (once_back (reverse items) (item ∷ past) here.once).1;
      } in
      counted_by past item (unrolled_marks (setup_of script) rank items) (more (item ∷ past) items) stack
      (λ has. cost past e (length (reverse past)) item found has item.stmt refl (line.present rank below has)) placed
      (λ later stood. counted items (item ∷ past) next here later stood) stands (has_rank item.who rank) refl

-- the primitives and the ends of passes of a rank are as many as its operations
pub as_many : (script : Script) → IsWholeScript script.nue script.items → IsClosed script → (rank : ℕ) → rank < script.nue → length (marks_in script rank) ≡ operations script.nue (reverse script.items) rank
as_many script whole closed rank below =
    let flat = append-nil (reverse script.items) in
    let read : IsRead script whole rank below (reverse script.items ++ []) = subst (IsRead script whole rank below) (sym flat) (record {
      line = whole.in_line;
      matched = closed.matched;
      within = closed.within;
      once = closed.once;
      none = closed.none_open;
    }) in
    let c = counted script whole rank below script.items [] refl read [] (Inside [] refl (λ who some is. absurd (cc))) in
    let all = all_more script whole rank below script.items [] in
    let same = ap (λ (l : List Item). operations script.nue l rank) flat in
    omega (arith, c.0, all, same)

pub few_enough : (script : Script) → IsWholeScript script.nue script.items → IsClosed script → (rank : ℕ) → rank < script.nue → length (program_of script rank) ≤ most_operations
few_enough script whole closed rank below =
    let less = fewer_prims (marks_in script rank) in
    let same = ap length (program_is script rank) in
    omega (arith, less, same, as_many script whole closed rank below, worked-law script whole rank below)
