-- Facts of each statement that follow from the checks.
use Rattle.std.proofs.Common.{◌≡◌, ℕ, zero, suc, ◌+◌, ◌-◌, ◌*◌, ◌%◌, ◌<◌, ◌≤◌, Bool, true, false, not, ◌||◌, ◌&&◌, cond, eqb, ltb, List, [], ◌∷◌, ◌++◌, length, reverse, take, drop, slice_get, is_none, unwrap_or, Option, Some, None, refl, sym, ap, ◌∙◌, arith, subst, append_assoc, inl, inr}
use Rattle.std.proofs.lemmas.Bool.Decides.{eqb_tells}
use Rattle.std.proofs.lemmas.Bool.{eqb-true, ltb-false, not-false}
use Rattle.std.proofs.lemmas.List.{length-append, length-take, reverse-append, reverse-reverse, take-append-drop}
use Rattle.std.specs.Option.{option_map_or, option_or}
use Rattle.std.specs.Prelude.{IfSome, IsSome, nat_lt}
use Rattle.groups.specs.Folds.{bytes_in}
use Rattle.groups.specs.declared.operations.Ty.{Ty}
use Rattle.scc_base.specs.Communicators.{key_of, rule_of}
use Rattle.scc_base.specs.Groups.{place_in}
use Rattle.scc_base.specs.Setups.{place_of}
use Rattle.scc_base.specs.declared.communicators.CommRule.{CommRule}
use Rattle.scc_base.specs.declared.communicators.CommRule.TheVariants as rule
use Rattle.script_rules.specs.declared.effect.Nesting.{Nesting}
use Rattle.script_rules.specs.declared.effect.Nesting.TheVariants as nesting
use Rattle.script_rules.specs.declared.effect.Size.{Size}
use Rattle.script_rules.specs.declared.effect.Size.TheVariants as sizes
use Rattle.script_rules.specs.declared.effect.Target.{Target}
use Rattle.script_rules.specs.declared.fault.FaultKind.TheVariants as kind
use Rattle.script_rules.specs.declared.repeats.Open.{Open}
use Rattle.script_rules.specs.declared.script.Form.TheVariants as form
use Rattle.script_rules.specs.declared.script.Item.{Item}
use Rattle.script_rules.specs.declared.script.OwnStmt.TheVariants as own
use Rattle.script_rules.specs.declared.script.Stmt.{Stmt}
use Rattle.script_rules.specs.declared.script.Stmt.TheVariants as stmt
use Rattle.script_rules.specs.declared.tally.Setting.{Setting}
use Rattle.script_rules.specs.Acceptance.{ForEachRun, IsFitting, IsPostable, IsReadable, IsWholeOf, groups_of, length_before, length_of}
use Rattle.script_rules.specs.Checks.{cost_of, counts_at, differs, is_absent, is_at_place, is_misshapen, is_ragged, is_too_deep, is_unset, length_at, length_given, open_of, repeats_after, operations, posts_too_much, bytes_printed, prints, prints_too_much, resizes, run_of, set_by, set_if, sets_to, turns_in}
use Rattle.script_rules.specs.Effects.{IsSizedBy, comm_needed, effect_of}
use Rattle.script_rules.specs.Limits.{most_open, most_operations, most_printed}
use Rattle.script_rules.specs.Script.{Script, has_rank, rules_of}
use Rattle.script_rules.specs.Settled.{AreInLine, ArePassed, IsInLine, IsWholeScript, run_with}
use Rattle.script_rules.proofs.CheckLemmas.{false-left, false-right}
use Rattle.script_rules.proofs.SettledLemmas.{Extends, and-false, key-same, present-low, same-more}

-- the statements after a place, and those before it, the latest first
around : (items : List Item) (place : ℕ) (item : Item) → slice_get items place ≡ Some item → (front : List Item) × (reverse items ≡ front ++ item ∷ reverse (take place items))
around [] place item found = absurd cc
around (first ∷ items) zero item found =
    let same : first ≡ item = cc in
    (reverse items, reverse-append (first ∷ []) items ∙ ap (λ (i : Item). reverse items ++ i ∷ []) same)
around (first ∷ items) (suc place) item found =
    let rest = around items place item found in (
      rest.0,
      reverse-append (first ∷ []) items
          ∙ ap (λ (list : List Item). list ++ first ∷ []) rest.1
          ∙ append_assoc rest.0 (item ∷ reverse (take place items)) (first ∷ [])
          ∙ ap (λ (list : List Item). rest.0 ++ item ∷ list) (sym (reverse-append (first ∷ []) (take place items))),
    )

front-of : (items : List Item) (place : ℕ) → reverse items ≡ reverse (drop place items) ++ reverse (take place items)
front-of items place = ap reverse (sym (take-append-drop place items)) ∙ reverse-append (take place items) (drop place items)

-- what is true of statements is true of those before them
passed-back : (nue : ℕ) (front past : List Item) → ArePassed nue (front ++ past) → ArePassed nue past
passed-back nue [] past all = all
passed-back nue (item ∷ front) past all = passed-back nue front past all.0

line-back : (nue : ℕ) (front past : List Item) → AreInLine nue (front ++ past) → AreInLine nue past
line-back nue [] past all = all
line-back nue (item ∷ front) past all = line-back nue front past all.0

or_some : (a b : Option ℕ) (len : ℕ) → a ≡ Some len → option_or a b ≡ Some len
or_some None b len is = absurd cc
or_some (Some x) b len is = is

-- a length stays where statements follow
length-longer : (nue : ℕ) (front past : List Item) (rank reg len : ℕ) → length_at nue past rank reg ≡ Some len → length_at nue (front ++ past) rank reg ≡ Some len
length-longer nue [] past rank reg len is = is
length-longer nue (item ∷ front) past rank reg len is = or_some (length_at nue (front ++ past) rank reg) _ len (length-longer nue front past rank reg len is)

-- and so does a rule
rule-longer : (front past : List Item) (c : ℕ) → (rule_of (rules_of (reverse past)) c ≡ rule.Absent → ⊥) → rule_of (rules_of (reverse (front ++ past))) c ≡ rule_of (rules_of (reverse past)) c
rule-longer [] past c there = refl
rule-longer (item ∷ front) past c there =
    let before = rule-longer front past c there in
    ap (λ (items : List Item). rule_of (rules_of items) c) (reverse-append (item ∷ []) (front ++ past))
    ∙ same-more (reverse (front ++ past)) item c (λ gone. there (sym before ∙ gone))
    ∙ before

extends-longer : (nue : ℕ) (front past : List Item) (item : Item) → IsInLine nue past item → Extends (rules_of (reverse past)) (rules_of (reverse (front ++ item ∷ past)))
extends-longer nue front past item line = record {
  same = λ c there. ap (λ (items : List Item). rule_of (rules_of (reverse items)) c) (sym (append_assoc front (item ∷ []) past)) ∙ rule-longer (front ++ item ∷ []) past c there;
  low = present-low (reverse past);
  rules = line.rules;
}

eqb-same : (a b : ℕ) → a ≡ b → eqb a b ≡ true
eqb-same a b same = elim (eqb_tells a b) [ inl is ↦ is.0 | inr other ↦ absurd (other.1 same) ]

known-is : (r : CommRule) → (r ≡ rule.Absent → ⊥) → not (is_absent r) ≡ true
known-is rule.Absent there = absurd (there refl)
known-is rule.World there = refl
known-is (rule.Mod parent k) there = refl
known-is (rule.Div parent k) there = refl

both : (a b : Bool) → a ≡ true → b ≡ true → (a && b) ≡ true
both true b h k = k
both false b h k = h

-- the root of a call is its root before any statement that needs its communicator
at-root : (nue : ℕ) (past : List Item) (comms : List CommRule) (comm rank root : ℕ) → Extends (rules_of (reverse past)) comms → (rule_of (rules_of (reverse past)) comm ≡ rule.Absent → ⊥)
    → place_of (run_with nue comms) comm rank ≡ root → is_at_place (run_of nue past) comm rank root ≡ true
at-root nue past comms comm rank root e there is =
    both (not (is_absent (rule_of (rules_of (reverse past)) comm))) (eqb (place_in (key_of (rules_of (reverse past)) comm) rank) root)
    (known-is (rule_of (rules_of (reverse past)) comm) there)
    (eqb-same (place_in (key_of (rules_of (reverse past)) comm) rank) root (ap (λ (key : ℕ → ℕ). place_in key rank) (sym (key-same (rules_of (reverse past)) comms e comm there)) ∙ is))

some-is : (o : Option ℕ) → is_none o ≡ false → IsSome o
some-is None some = absurd cc
some-is (Some x) some = refl

some-value : (o : Option ℕ) → is_none o ≡ false → o ≡ Some (unwrap_or o 0)
some-value None some = absurd cc
some-value (Some x) some = refl

-- a statement that no check of unset registers refuses reads registers that are set
readable : (s : Stmt) (nue : ℕ) (past : List Item) (comms : List CommRule) (rank : ℕ) → Extends (rules_of (reverse past)) comms → (rule_of (rules_of (reverse past)) (comm_needed (effect_of s).group) ≡ rule.Absent → ⊥)
    → is_unset (run_of nue past) (length_at nue past rank) (effect_of s) rank ≡ false → IsReadable (run_with nue comms) (length_at nue past rank) (effect_of s) rank
readable (stmt.Own (own.Apply op ty dst src)) nue past comms rank e there set =
    let to = is_none (length_at nue past rank dst) in
    let from = is_none (length_at nue past rank src) in
    (some-is (length_at nue past rank dst) (false-left to from set), some-is (length_at nue past rank src) (false-right to from set))
readable (stmt.Send peer reg) nue past comms rank e there set = some-is (length_at nue past rank reg) set
readable (stmt.Post peer reg) nue past comms rank e there set = some-is (length_at nue past rank reg) set
readable (stmt.Own (own.Print reg form)) nue past comms rank e there set = some-is (length_at nue past rank reg) set
readable (stmt.Bcast comm root reg len) nue past comms rank e there set = λ is.
    some-is (length_at nue past rank reg) (and-false (is_at_place (run_of nue past) comm rank root) (is_none (length_at nue past rank reg)) (at-root nue past comms comm rank root e there is) set)
readable (stmt.Reduce comm root op ty dst src) nue past comms rank e there set = some-is (length_at nue past rank src) set
readable (stmt.Allreduce comm op ty dst src) nue past comms rank e there set = some-is (length_at nue past rank src) set
readable _ nue past comms rank e there set = tt

-- a length that does not differ from the one that is there
no-other : (o : Option ℕ) (len : ℕ) → is_none o ≡ false → differs o len ≡ false → o ≡ Some len
no-other None len some same = absurd cc
no-other (Some x) len some same = ap Some (eqb-true x len (not-false (eqb x len) same))

abbrev setting : ℕ → ℕ → Option Setting
setting reg len = Some (record { reg = reg; len = len })

-- a register that is set without a change of its length
set-once : (o : Option ℕ) (reg len : ℕ) → differs o len ≡ false → option_or o (cond (eqb reg reg) (Some len) None) ≡ Some len
set-once None reg len same = rw (eqb-same reg reg refl) refl
set-once (Some x) reg len same = no-other (Some x) len refl same

bcast-once : (at : Bool) (had : ℕ → Option ℕ) (reg len : ℕ) → (resizes had (cond (not at) (setting reg len) None) || (at && differs (had reg) len)) ≡ false → (at && is_none (had reg)) ≡ false
    → option_or (had reg) (sets_to (cond (not at) (setting reg len) None) reg) ≡ Some len
bcast-once true had reg len shaped set = or_some (had reg) None len (no-other (had reg) len set shaped)
bcast-once false had reg len shaped set = set-once (had reg) reg len (false-left (differs (had reg) len) false shaped)

root-once : (at : Bool) (had : ℕ → Option ℕ) (reg len : ℕ) (more : Bool) → at ≡ true → (resizes had (cond at (setting reg len) None) || more) ≡ false
    → option_or (had reg) (sets_to (cond at (setting reg len) None) reg) ≡ Some len
root-once true had reg len more is shaped = set-once (had reg) reg len (false-left (differs (had reg) len) more shaped)
root-once false had reg len more is shaped = absurd cc

whole-value : (ty : Ty) (o : Option ℕ) (len : ℕ) → o ≡ Some len → is_ragged ty o ≡ false → len % bytes_in ty ≡ 0
whole-value ty None len is whole = absurd cc
whole-value ty (Some x) len is whole = let same : x ≡ len = cc in subst (λ (n : ℕ). n % bytes_in ty ≡ 0) same (eqb-true (x % bytes_in ty) 0 (not-false (eqb (x % bytes_in ty) 0) whole))

whole-of : (ty : Ty) (o after : Option ℕ) (len : ℕ) → o ≡ Some len → after ≡ Some len → is_ragged ty o ≡ false → IsWholeOf ty after
whole-of ty o None len is later whole = absurd cc
whole-of ty o (Some x) len is later whole = let same : x ≡ len = cc in subst (λ (n : ℕ). n % bytes_in ty ≡ 0) (sym same) (whole-value ty o len is whole)

-- a statement that no check of registers refuses has the lengths that it gives or needs, and they stay
fitting : (s : Stmt) (nue : ℕ) (past : List Item) (comms : List CommRule) (rank : ℕ) (after : ℕ → Option ℕ) → Extends (rules_of (reverse past)) comms
    → (rule_of (rules_of (reverse past)) (comm_needed (effect_of s).group) ≡ rule.Absent → ⊥)
    → is_unset (run_of nue past) (length_at nue past rank) (effect_of s) rank ≡ false → is_misshapen (run_of nue past) (length_at nue past rank) (effect_of s) rank ≡ false
    → ((reg len : ℕ) → option_or (length_at nue past rank reg) (sets_to (set_by (run_of nue past) (length_at nue past rank) (effect_of s) rank) reg) ≡ Some len → after reg ≡ Some len)
    → IsFitting (run_with nue comms) after (effect_of s) rank
fitting (stmt.Bytes reg bytes) nue past comms rank after e there set shaped stays = record {
  given = stays reg (length bytes) (set-once (length_at nue past rank reg) reg (length bytes) (false-left (differs (length_at nue past rank reg) (length bytes)) false shaped));
  needed = tt;
}
fitting (stmt.Fill reg len start) nue past comms rank after e there set shaped stays = record {
  given = stays reg len (set-once (length_at nue past rank reg) reg len (false-left (differs (length_at nue past rank reg) len) false shaped));
  needed = tt;
}
fitting (stmt.RankOf reg ty) nue past comms rank after e there set shaped stays = record {
  given = stays reg (bytes_in ty) (set-once (length_at nue past rank reg) reg (bytes_in ty) (false-left (differs (length_at nue past rank reg) (bytes_in ty)) false shaped));
  needed = tt;
}
fitting (stmt.Recv peer reg len) nue past comms rank after e there set shaped stays = record {
  given = stays reg len (set-once (length_at nue past rank reg) reg len (false-left (differs (length_at nue past rank reg) len) false shaped));
  needed = tt;
}
fitting (stmt.Own (own.Apply op ty dst src)) nue past comms rank after e there set shaped stays =
    let had = length_at nue past rank in
    let size = unwrap_or (had src) 0 in
    let from = some-value (had src) (false-right (is_none (had dst)) (is_none (had src)) set) in
    let to = no-other (had dst) size (false-left (is_none (had dst)) (is_none (had src)) set) (false-left (differs (had dst) size) (is_ragged ty (had src)) shaped) in
    let from-after = stays src size (or_some (had src) None size from) in
    record {
      given = tt;
      needed = (stays dst size (or_some (had dst) None size to) ∙ sym from-after, whole-of ty (had src) (after src) size from from-after (false-right (differs (had dst) size) (is_ragged ty (had src)) shaped));
    }
fitting (stmt.Own (own.Print reg (form.Decimal ty))) nue past comms rank after e there set shaped stays =
    let had = length_at nue past rank in
    let size = unwrap_or (had reg) 0 in
    let is = some-value (had reg) set in
    record { given = tt; needed = whole-of ty (had reg) (after reg) size is (stays reg size (or_some (had reg) None size is)) shaped }
fitting (stmt.Own (own.Print reg form.Hex)) nue past comms rank after e there set shaped stays = record { given = tt; needed = tt }
fitting (stmt.Bcast comm root reg len) nue past comms rank after e there set shaped stays =
    let is = stays reg len (bcast-once (is_at_place (run_of nue past) comm rank root) (length_at nue past rank) reg len shaped set) in
    record { given = λ other. is; needed = λ here. is }
fitting (stmt.Reduce comm root op ty dst src) nue past comms rank after e there set shaped stays =
    let had = length_at nue past rank in
    let size = unwrap_or (had src) 0 in
    let at = is_at_place (run_of nue past) comm rank root in
    let from = some-value (had src) set in
    let from-after = stays src size (or_some (had src) (sets_to (cond at (setting dst size) None) src) size from) in
    record {
      given = λ is. stays dst size (root-once at had dst size (is_ragged ty (had src)) (at-root nue past comms comm rank root e there is) shaped) ∙ sym from-after;
      needed = whole-of ty (had src) (after src) size from from-after (false-right (resizes had (cond at (setting dst size) None)) (is_ragged ty (had src)) shaped);
    }
fitting (stmt.Allreduce comm op ty dst src) nue past comms rank after e there set shaped stays =
    let had = length_at nue past rank in
    let size = unwrap_or (had src) 0 in
    let from = some-value (had src) set in
    let from-after = stays src size (or_some (had src) (sets_to (setting dst size) src) size from) in
    record {
      given = stays dst size (set-once (had dst) dst size (false-left (differs (had dst) size) (is_ragged ty (had src)) shaped)) ∙ sym from-after;
      needed = whole-of ty (had src) (after src) size from from-after (false-right (differs (had dst) size) (is_ragged ty (had src)) shaped);
    }
fitting _ nue past comms rank after e there set shaped stays = record { given = tt; needed = tt }

post-value : (o after : Option ℕ) (len : ℕ) → o ≡ Some len → after ≡ Some len → nat_lt 3584 (unwrap_or o 0) ≡ false → IfSome after (λ size. size ≤ 3584)
post-value o None len is later short = absurd cc
post-value o (Some x) len is later short =
    let same : x ≡ len = cc in
    let value : unwrap_or o 0 ≡ len = ap (λ (o : Option ℕ). unwrap_or o 0) is in
    omega (arith, ltb-false 3584 (unwrap_or o 0) short)

postable : (s : Stmt) (nue : ℕ) (past : List Item) (rank : ℕ) (after : ℕ → Option ℕ) → is_unset (run_of nue past) (length_at nue past rank) (effect_of s) rank ≡ false
    → posts_too_much (length_at nue past rank) (effect_of s) ≡ false
    → ((reg len : ℕ) → length_at nue past rank reg ≡ Some len → after reg ≡ Some len) → IsPostable after (effect_of s)
postable (stmt.Post peer reg) nue past rank after set short stays =
    let is = some-value (length_at nue past rank reg) set in
    post-value (length_at nue past rank reg) (after reg) (unwrap_or (length_at nue past rank reg) 0) is (stays reg (unwrap_or (length_at nue past rank reg) 0) is) short
postable _ nue past rank after set short stays = tt

-- if a rank runs the latest statement, its lengths after it
length-new : (nue : ℕ) (past : List Item) (item : Item) (rank reg : ℕ) → has_rank item.who rank ≡ true
    → length_at nue (item ∷ past) rank reg ≡ option_or (length_at nue past rank reg) (sets_to (set_by (run_of nue past) (length_at nue past rank) (effect_of item.stmt) rank) reg)
length-new nue past item rank reg has = rw has refl

-- a statement of an accepted script, after those before it
record IsPlaced (script : Script) (past : List Item) (item : Item) : Type 0 where
  front : List Item
  is : reverse script.items ≡ front ++ item ∷ past
  passed : ArePassed script.nue (item ∷ past)
  line : IsInLine script.nue past item
  extends : Extends (rules_of (reverse past)) (rules_of script.items)

placed : (script : Script) (place : ℕ) (item : Item) → IsWholeScript script.nue script.items → slice_get script.items place ≡ Some item → IsPlaced script (reverse (take place script.items)) item
placed script place item whole found =
    let split = around script.items place item found in
    let past = reverse (take place script.items) in
    let lines = line-back script.nue split.0 (item ∷ past) (subst (λ (list : List Item). AreInLine script.nue list) split.1 whole.in_line) in
    record {
      front = split.0;
      is = split.1;
      passed = passed-back script.nue split.0 (item ∷ past) (subst (λ (list : List Item). ArePassed script.nue list) split.1 whole.passed);
      line = lines.1;
      extends =
          subst (λ (list : List Item). Extends (rules_of (reverse past)) (rules_of list)) (ap reverse (sym split.1) ∙ reverse-reverse script.items)
          (extends-longer script.nue split.0 past item lines.1);
    }

-- a register's length after a statement is its length in the complete script
length-stays : (script : Script) (past : List Item) (item : Item) (rank reg len : ℕ) → IsPlaced script past item → length_at script.nue (item ∷ past) rank reg ≡ Some len → length_of script rank reg ≡ Some len
length-stays script past item rank reg len p is =
    subst (λ (list : List Item). length_at script.nue list rank reg ≡ Some len) (sym p.is) (length-longer script.nue p.front (item ∷ past) rank reg len is)

pub set-law : (script : Script) → IsWholeScript script.nue script.items → ForEachRun script (λ place effect rank. IsReadable (groups_of script) (length_before script place rank) effect rank)
set-law script whole place item found rank below has =
    let p = placed script place item whole found in
    readable item.stmt script.nue (reverse (take place script.items)) (rules_of script.items) rank p.extends (p.line.present rank below has) (p.passed.1 kind.Unset rank below has)

pub fitting-law : (script : Script) → IsWholeScript script.nue script.items → ForEachRun script (λ place effect rank. IsFitting (groups_of script) (length_of script rank) effect rank)
fitting-law script whole place item found rank below has =
    let p = placed script place item whole found in
    let past = reverse (take place script.items) in
    fitting item.stmt script.nue past (rules_of script.items) rank (length_of script rank) p.extends (p.line.present rank below has) (p.passed.1 kind.Unset rank below has) (p.passed.1 kind.Shape rank below has)
    (λ reg len is. length-stays script past item rank reg len p (length-new script.nue past item rank reg has ∙ is))

pub postable-law : (script : Script) → IsWholeScript script.nue script.items → ForEachRun script (λ place effect rank. IsPostable (length_of script rank) effect)
postable-law script whole place item found rank below has =
    let p = placed script place item whole found in
    let past = reverse (take place script.items) in
    postable item.stmt script.nue past rank (length_of script rank) (p.passed.1 kind.Unset rank below has) (false-left (posts_too_much (length_at script.nue past rank) (effect_of item.stmt)) (prints_too_much (length_at script.nue past rank) (bytes_printed script.nue past rank) (turns_in (open_of past)) (effect_of item.stmt)) (p.passed.1 kind.TooLong rank below has))
    (λ reg len is. length-stays script past item rank reg len p (length-longer script.nue (item ∷ []) past rank reg len is))

pub stays-law : (script : Script) (place rank reg len : ℕ) → length_before script place rank reg ≡ Some len → length_of script rank reg ≡ Some len
stays-law script place rank reg len is =
    subst (λ (list : List Item). length_at script.nue list rank reg ≡ Some len) (sym (front-of script.items place))
    (length-longer script.nue (reverse (drop place script.items)) (reverse (take place script.items)) rank reg len is)

-- the lengths of registers
value-short : (o : Option ℕ) → ((len : ℕ) → o ≡ Some len → len ≤ 65536) → unwrap_or o 0 ≤ 65536
value-short None short = omega arith
value-short (Some x) short = short x refl

given-short : (size : Size) (had : ℕ → Option ℕ) → IsSizedBy size → ((reg len : ℕ) → had reg ≡ Some len → len ≤ 65536) → length_given had size ≤ 65536
given-short (sizes.Bytes len) had sized short = sized
given-short (sizes.Same reg) had sized short = value-short (had reg) (λ len is. short reg len is)

cond-short : (b : Bool) (had : ℕ → Option ℕ) (t : Target) → length_given had t.size ≤ 65536 → IfSome (set_if had t b) (λ set. set.len ≤ 65536)
cond-short true had t short = short
cond-short false had t short = tt

set-short : (o : Option Target) (had : ℕ → Option ℕ) (counts : Target → Bool) → IfSome o (λ target. IsSizedBy target.size) → ((reg len : ℕ) → had reg ≡ Some len → len ≤ 65536)
    → IfSome (option_map_or (λ target. set_if had target (counts target)) o None) (λ set. set.len ≤ 65536)
set-short None had counts sized short = tt
set-short (Some target) had counts sized short = cond-short (counts target) had target (given-short target.size had sized short)

reg-short : (b : Bool) (x len : ℕ) → x ≤ 65536 → cond b (Some x) None ≡ Some len → len ≤ 65536
reg-short true x len short is = let same : x ≡ len = cc in omega arith
reg-short false x len short is = absurd cc

to-short : (set : Option Setting) (reg len : ℕ) → IfSome set (λ set. set.len ≤ 65536) → sets_to set reg ≡ Some len → len ≤ 65536
to-short None reg len short is = absurd cc
to-short (Some set) reg len short is = reg-short (eqb set.reg reg) set.len len short is

or-short : (a b : Option ℕ) (len : ℕ) → (a ≡ Some len → len ≤ 65536) → (b ≡ Some len → len ≤ 65536) → option_or a b ≡ Some len → len ≤ 65536
or-short None b len sa sb is = sb is
or-short (Some x) b len sa sb is = sa is

run-short : (has : Bool) (set : Option Setting) (reg len : ℕ) → IfSome set (λ set. set.len ≤ 65536) → cond has (sets_to set reg) None ≡ Some len → len ≤ 65536
run-short true set reg len short is = to-short set reg len short is
run-short false set reg len short is = absurd cc

length-short : (nue : ℕ) (past : List Item) (rank : ℕ) → AreInLine nue past → (reg len : ℕ) → length_at nue past rank reg ≡ Some len → len ≤ 65536
length-short nue [] rank lines reg len is = absurd cc
length-short nue (item ∷ past) rank lines reg len is =
    let had = length_at nue past rank in
    let e = effect_of item.stmt in
    let before = length-short nue past rank lines.0 in
    or-short (had reg) (cond (has_rank item.who rank) (sets_to (set_by (run_of nue past) had e rank) reg) None) len (before reg len)
    (run-short (has_rank item.who rank) (set_by (run_of nue past) had e rank) reg len (set-short e.sets had (λ target. counts_at (run_of nue past) e rank target.at) lines.1.sized before)) is

pub short-law : (script : Script) → IsWholeScript script.nue script.items → (rank reg len : ℕ) → length_of script rank reg ≡ Some len → len ≤ 65536
short-law script whole rank reg len is = length-short script.nue (reverse script.items) rank whole.in_line reg len is

-- sums that no statement takes past their limit
sum-within : (has : Bool) (done more most : ℕ) → (has ≡ true → ltb most (done + more) ≡ false) → done ≤ most → done + cond has more 0 ≤ most
sum-within true done more most none within = ltb-false most (done + more) (none refl)
sum-within false done more most none within = omega arith

operations-within : (nue : ℕ) (past : List Item) (rank : ℕ) → rank < nue → ArePassed nue past → operations nue past rank ≤ most_operations
operations-within nue [] rank below all = omega arith
operations-within nue (item ∷ past) rank below all =
    sum-within (has_rank item.who rank) (operations nue past rank) (turns_in (open_of past) * cost_of (run_of nue past) (effect_of item.stmt).cost rank) most_operations
    (λ has. all.1 kind.TooManyOps rank below has) (operations-within nue past rank below all.0)

printed-within : (nue : ℕ) (past : List Item) (rank : ℕ) → rank < nue → ArePassed nue past → bytes_printed nue past rank ≤ most_printed
printed-within nue [] rank below all = omega arith
printed-within nue (item ∷ past) rank below all =
    sum-within (has_rank item.who rank) (bytes_printed nue past rank) (turns_in (open_of past) * prints (length_at nue past rank) (effect_of item.stmt)) most_printed
    (λ has. false-right (posts_too_much (length_at nue past rank) (effect_of item.stmt)) (prints_too_much (length_at nue past rank) (bytes_printed nue past rank) (turns_in (open_of past)) (effect_of item.stmt)) (all.1 kind.TooLong rank below has)) (printed-within nue past rank below all.0)

pub worked-law : (script : Script) → IsWholeScript script.nue script.items → (rank : ℕ) → rank < script.nue → operations script.nue (reverse script.items) rank ≤ most_operations
worked-law script whole rank below = operations-within script.nue (reverse script.items) rank below whole.passed

pub printed-law : (script : Script) → IsWholeScript script.nue script.items → (rank : ℕ) → rank < script.nue → bytes_printed script.nue (reverse script.items) rank ≤ most_printed
printed-law script whole rank below = printed-within script.nue (reverse script.items) rank below whole.passed

-- the open repeats
opened-few : (n : Nesting) (place : ℕ) (repeats : List Open) → is_too_deep repeats n ≡ false → length repeats ≤ most_open → length (repeats_after n place repeats) ≤ most_open
opened-few (nesting.Opens times) place repeats flat few = omega (arith, ltb-false (most_open - 1) (length repeats) flat, length-append repeats ((record { start = place; turns = turns_in repeats * times }) ∷ []))
opened-few (nesting.Closes start) place repeats flat few = omega (arith, length-take (length repeats - 1) repeats)
opened-few nesting.Stays place repeats flat few = few

open-few : (nue : ℕ) (past : List Item) → AreInLine nue past → length (open_of past) ≤ most_open
open-few nue [] lines = omega arith
open-few nue (item ∷ past) lines = opened-few (effect_of item.stmt).nesting (length past) (open_of past) lines.1.flat (open-few nue past lines.0)

pub shallow-law : (script : Script) → IsWholeScript script.nue script.items → (place : ℕ) → length (open_of (reverse (take place script.items))) ≤ most_open
shallow-law script whole place =
    open-few script.nue (reverse (take place script.items))
    (line-back script.nue (reverse (drop place script.items)) (reverse (take place script.items)) (subst (λ (list : List Item). AreInLine script.nue list) (front-of script.items place) whole.in_line))
