-- What stays true of a statement when more follow, and what is true of a new one.
use Rattle.std.proofs.Common.{◌≡◌, ℕ, zero, suc, ◌+◌, ◌*◌, ◌%◌, ◌/◌, ◌<◌, ◌≤◌, Bool, true, false, not, ◌||◌, ◌&&◌, List, [], ◌∷◌, ◌++◌, All, length, get_or, reverse, Option, Some, None, eqb, refl, sym, ap, ◌∙◌, arith, subst, inl, inr, lit<}
use Rattle.std.proofs.lemmas.Bool.Decides.{eqb_tells}
use Rattle.std.proofs.Math.Path.{fun_ext}
use Rattle.std.proofs.lemmas.Bool.{and_parts, cases_lt, false≢true, ltb-false, not-false}
use Rattle.std.proofs.lemmas.List.{get_or_past, reverse-append, reverse-reverse}
use Rattle.std.proofs.lemmas.List.Elements.{All-push, All-set}
use Rattle.std.proofs.lemmas.List.FromFn.{length-map-range_with_len}
use Rattle.std.specs.Option.{option_map_or}
use Rattle.std.specs.Prelude.{◌⊎◌, IfSome, nat_lt}
use Rattle.scc_base.specs.Communicators.{AreRules, IsRule, key_of, key_under, key_within, rule_of}
use Rattle.scc_base.specs.Groups.{place_in, size_in}
use Rattle.scc_base.specs.Setups.{SetupView}
use Rattle.scc_base.specs.declared.communicators.CommRule.{CommRule}
use Rattle.scc_base.specs.declared.communicators.CommRule.TheVariants as rule
use Rattle.script_rules.specs.declared.script.Item.{Item}
use Rattle.script_rules.specs.declared.script.Stmt.TheVariants as stmt
use Rattle.script_rules.specs.declared.script.Who.{Who}
use Rattle.script_rules.specs.declared.effect.Group.{Group}
use Rattle.script_rules.specs.declared.effect.Group.TheVariants as group
use Rattle.script_rules.specs.declared.fault.FaultKind.TheVariants as kind
use Rattle.script_rules.specs.declared.version.Version.{Version}
use Rattle.script_rules.specs.Checks.{has_no_root, has_split, is_absent, is_not_split, is_past_group, is_unknown, last_comm, refuses, run_of, some_below, some_rank}
use Rattle.script_rules.specs.Effects.{comm_needed, effect_of, is_split_of, split_rule}
use Rattle.script_rules.specs.Ends.{with_ends}
use Rattle.script_rules.specs.Tally.{IsAimed, IsSplitMade, IsParted, IsPeerWithin}
use Rattle.script_rules.specs.declared.script.Peer.{Peer}
use Rattle.script_rules.specs.declared.script.Peer.TheVariants as peer
use Rattle.script_rules.proofs.CheckLemmas.{false-left, false-right}
use Rattle.script_rules.proofs.EndLemmas.{with_ends-keeps}
use Rattle.script_rules.specs.Script.{first_split, has_rank, or_rule, peer_of, rules_of}
use Rattle.script_rules.specs.Settled.{HasRule, HaveRules, IsSettled, run_with}
use Rattle.script_rules.proofs.RuleLemmas.{first_split-more, last-within, or_rule-kept, rule-more, run-straight, split-at, splittable}

-- a rule stays the same after one more statement
pub record Extends (comms after : List CommRule) : Type 0 where
  pub same : (c : ℕ) → (rule_of comms c ≡ rule.Absent → ⊥) → rule_of after c ≡ rule_of comms c
  pub low : (c : ℕ) → (rule_of comms c ≡ rule.Absent → ⊥) → c < 16
  pub rules : AreRules comms

rules-room : (items : List Item) → length (rules_of items) ≡ 16
rules-room items = ap suc (length-map-range_with_len (first_split items) 1 15)

pub present-low : (items : List Item) (c : ℕ) → (rule_of (rules_of items) c ≡ rule.Absent → ⊥) → c < 16
present-low items c there =
    elim (cases_lt c 16) [
      | inl below ↦ below
      | inr past ↦ absurd (there (get_or_past (rules_of items) c rule.Absent (omega (arith, past, rules-room items))))
    ]

pub same-more : (items : List Item) (item : Item) (c : ℕ) → (rule_of (rules_of items) c ≡ rule.Absent → ⊥) → rule_of (rules_of (items ++ item ∷ [])) c ≡ rule_of (rules_of items) c
same-more items item zero there = refl
same-more items item (suc c) there =
    rule-more items item (suc c) (omega arith) (present-low items (suc c) there) ∙ or_rule-kept (rule_of (rules_of items) (suc c)) (split_rule (effect_of item.stmt).group (suc c)) there

pub extends : (items : List Item) (item : Item) → AreRules (rules_of items) → Extends (rules_of items) (rules_of (items ++ item ∷ []))
extends items item rules = record { same = same-more items item; low = present-low items; rules = rules }

-- the keys of a communicator stay where its rule does
under-same : (comms after : List CommRule) (n c r : ℕ) (rl : CommRule) → IsRule comms c rl
    → ((p : ℕ) → (rule_of comms p ≡ rule.Absent → ⊥) → key_within n after p ≡ key_within n comms p) → key_under rl (key_within n after) r ≡ key_under rl (key_within n comms) r
under-same comms after n c r rule.Absent is same = refl
under-same comms after n c r rule.World is same = refl
under-same comms after n c r (rule.Mod parent k) is same = ap (λ (keys : ℕ → ℕ). 48 * keys r + place_in keys r % k) (same parent is.1)
under-same comms after n c r (rule.Div parent k) is same = ap (λ (keys : ℕ → ℕ). 48 * keys r + place_in keys r / k) (same parent is.1)

keys-same : (n : ℕ) (comms after : List CommRule) → Extends comms after → (c : ℕ) → (rule_of comms c ≡ rule.Absent → ⊥) → key_within n after c ≡ key_within n comms c
keys-same zero comms after e c there = refl
keys-same (suc n) comms after e c there =
    fun_ext (λ r.
    ap (λ (rl : CommRule). key_under rl (key_within n after) r) (e.same c there)
    ∙ under-same comms after n c r (rule_of comms c) (e.rules c (e.low c there)) (λ p h. keys-same n comms after e p h))

pub key-same : (comms after : List CommRule) → Extends comms after → (c : ℕ) → (rule_of comms c ≡ rule.Absent → ⊥) → key_of after c ≡ key_of comms c
unfolding key_of
key-same comms after e c there = keys-same 16 comms after e c there

past-same : (nue : ℕ) (comms after : List CommRule) (c rank root : ℕ) → rule_of after c ≡ rule_of comms c → key_of after c ≡ key_of comms c
    → is_past_group (run_with nue after) c rank root ≡ is_past_group (run_with nue comms) c rank root
past-same nue comms after c rank root rules keys =
    ap (λ (rl : CommRule). not (is_absent rl) && not (nat_lt root (size_in nue (key_of after c) rank))) rules
    ∙ ap (λ (key : ℕ → ℕ). not (is_absent (rule_of comms c)) && not (nat_lt root (size_in nue key rank))) keys

root-same : (root : Option ℕ) (nue : ℕ) (comms after : List CommRule) (c rank : ℕ) → Extends comms after → (rule_of comms c ≡ rule.Absent → ⊥)
    → option_map_or (is_past_group (run_with nue after) c rank) root false ≡ option_map_or (is_past_group (run_with nue comms) c rank) root false
root-same None nue comms after c rank e there = refl
root-same (Some root) nue comms after c rank e there = past-same nue comms after c rank root (e.same c there) (key-same comms after e c there)

-- what is settled stays so
IsSettled-more : (nue : ℕ) (comms after : List CommRule) (item : Item) → Extends comms after → IsSettled nue comms item → IsSettled nue after item
IsSettled-more nue comms after item e s = record {
  below = s.below;
  other = s.other;
  present = λ rank below has gone. s.present rank below has (sym (e.same (comm_needed (effect_of item.stmt).group) (s.present rank below has)) ∙ gone);
  rooted = λ rank below has. root-same (effect_of item.stmt).root nue comms after (comm_needed (effect_of item.stmt).group) rank e (s.present rank below has) ∙ s.rooted rank below has;
}

pub settled-push : (nue : ℕ) (items : List Item) (item : Item) → AreRules (rules_of items) → All (IsSettled nue (rules_of items)) items → IsSettled nue (rules_of items) item
    → All (IsSettled nue (rules_of (items ++ item ∷ []))) (items ++ item ∷ [])
settled-push nue items item rules all new =
    let e = extends items item rules in
    All-push (IsSettled nue (rules_of (items ++ item ∷ []))) items item
    (λ k d below. IsSettled-more nue (rules_of items) (rules_of (items ++ item ∷ [])) (get_or items k d) e (all k d below))
    (IsSettled-more nue (rules_of items) (rules_of (items ++ item ∷ [])) item e new)

-- if no rank of a section is refused, each of its ranks passes
none-below : (n : ℕ) (test : ℕ → Bool) → some_below n test ≡ false → (k : ℕ) → k < n → test k ≡ false
none-below zero test none k below = absurd (omega arith)
none-below (suc n) test none k below =
    elim (cases_lt k n) [
      | inl less ↦ none-below n test (false-left (some_below n test) (test n) none) k less
      | inr past ↦ let same : k ≡ n = omega arith in subst (λ (m : ℕ). test m ≡ false) (sym same) (false-right (some_below n test) (test n) none)
    ]

pub and-false : (a b : Bool) → a ≡ true → (a && b) ≡ false → b ≡ false
and-false true b h none = none
and-false false b h none = absurd (false≢true h)

pub none-of : (nue : ℕ) (who : Who) (test : ℕ → Bool) → some_rank nue (Some who) test ≡ false → (rank : ℕ) → rank < nue → has_rank who rank ≡ true → test rank ≡ false
none-of nue who test none rank below has = and-false (has_rank who rank) (test rank) has (none-below nue (λ rank. has_rank who rank && test rank) none rank below)

or_rule-there : (a b : CommRule) → (b ≡ rule.Absent → ⊥) → or_rule a b ≡ rule.Absent → ⊥
or_rule-there rule.Absent b there gone = there gone
or_rule-there rule.World b there gone = cc
or_rule-there (rule.Mod parent k) b there gone = cc
or_rule-there (rule.Div parent k) b there gone = cc

split-there : (g : Group) (comm : ℕ) → HasRule g → is_split_of g comm ≡ true → split_rule g comm ≡ rule.Absent → ⊥
split-there (group.Split split by) comm has is gone = has (sym (rw is refl) ∙ gone)
split-there group.World comm has is gone = absurd (false≢true is)
split-there (group.Of place) comm has is gone = absurd (false≢true is)

or-cases : (a b : Bool) → (a || b) ≡ true → (a ≡ true) ⊎ (b ≡ true)
or-cases true b h = inl refl
or-cases false b h = inr h

first-there : (past : List Item) (rank comm : ℕ) → HaveRules past → has_split past rank comm ≡ true → first_split (reverse past) comm ≡ rule.Absent → ⊥
first-there [] rank comm have is = absurd (false≢true is)
first-there (item ∷ past) rank comm have is = λ gone.
    let more = ap (λ (items : List Item). first_split items comm) (reverse-append (item ∷ []) past) ∙ first_split-more (reverse past) item comm in
    elim (or-cases (has_split past rank comm) (has_rank item.who rank && is_split_of (effect_of item.stmt).group comm) is) [
      | inl before ↦
          let there = first-there past rank comm have.0 before in
          there (sym (or_rule-kept (first_split (reverse past) comm) (split_rule (effect_of item.stmt).group comm) there) ∙ sym more ∙ gone)
      | inr here ↦ or_rule-there (first_split (reverse past) comm) (split_rule (effect_of item.stmt).group comm) (split-there (effect_of item.stmt).group comm have.1 (and_parts (has_rank item.who rank) (is_split_of (effect_of item.stmt).group comm) here).1) (sym more ∙ gone)
    ]

world-there : rule.World ≡ rule.Absent → ⊥
world-there gone = cc

-- the communicator that a statement needs has a rule, where a rank has split it
needed-there : (items : List Item) (rank c : ℕ) → HaveRules (reverse items) → (c ≡ 0) ⊎ (has_split (reverse items) rank c ≡ true) → c < 16 → rule_of (rules_of items) c ≡ rule.Absent → ⊥
needed-there items rank zero have split low gone = world-there gone
needed-there items rank (suc c) have split low gone =
    elim split [
      | inl none ↦ absurd (omega (arith, none))
      | inr is ↦
          first-there (reverse items) rank (suc c) have is (ap (λ (list : List Item). first_split list (suc c)) (reverse-reverse items) ∙ sym (split-at items (suc c) (omega arith) low) ∙ gone)
    ]

split-cases : (split : ℕ → Bool) (g : Group) → is_not_split split g ≡ false → (comm_needed g ≡ 0) ⊎ (split (comm_needed g) ≡ true)
split-cases split g none =
    elim (eqb_tells (comm_needed g) 0) [
      | inl same ↦ inl same.1
      | inr other ↦ inr (not-false (split (comm_needed g)) (and-false (not (eqb (comm_needed g) 0)) (not (split (comm_needed g))) (ap not other.0) none))
    ]

low-known : (version : Version) (comm : ℕ) → nat_lt (last_comm version) comm ≡ false → comm < 16
low-known version comm known = omega (arith, ltb-false (last_comm version) comm known, last-within version)

needed-low : (g : Group) (version : Version) (run : SetupView) → is_unknown version run g ≡ false → comm_needed g < 16
needed-low group.World version run known = lit< tt
needed-low (group.Of comm) version run known = low-known version comm known
needed-low (group.Split comm by) version run known = let ok = splittable version run comm by known in omega (arith, ok.below, ok.top)

peer-within : (nue : ℕ) (p : Peer) → 1 ≤ nue → IsPeerWithin nue p → (caller : ℕ) → peer_of nue p caller < nue
peer-within nue (peer.Abs rank) some within caller = within
peer-within nue (peer.Plus up) some within caller = omega arith
peer-within nue (peer.Minus down) some within caller = omega arith

-- the other rank of a message is one of the run, where a rank that is named is one
peer-below : (nue : ℕ) (o : Option Peer) → 1 ≤ nue → IfSome o (IsPeerWithin nue) → (rank : ℕ) → IfSome o (λ peer. peer_of nue peer rank < nue)
peer-below nue None some aimed rank = tt
peer-below nue (Some other) some aimed rank = peer-within nue other some aimed rank

-- a statement that the checks of a line have not refused is settled
pub settled-new : (version : Version) (nue : ℕ) (items : List Item) (item : Item) → 1 ≤ nue → IsAimed nue (effect_of item.stmt) → HaveRules (reverse items) → is_unknown version (run_of nue (reverse items)) (effect_of item.stmt).group ≡ false
    → some_rank nue (Some item.who) (refuses kind.SelfMessage nue (reverse items) (effect_of item.stmt)) ≡ false
    → some_rank nue (Some item.who) (refuses kind.RankRange nue (reverse items) (effect_of item.stmt)) ≡ false
    → some_rank nue (Some item.who) (refuses kind.NotSplit nue (reverse items) (effect_of item.stmt)) ≡ false
    → IsSettled nue (rules_of items) item
settled-new version nue items item some aimed have known other rooted split =
    let e = effect_of item.stmt in
    record {
      below = λ rank below has. peer-below nue e.peer some aimed rank;
      other = λ rank below has. none-of nue item.who (refuses kind.SelfMessage nue (reverse items) e) other rank below has;
      present = λ rank below has.
          needed-there items rank (comm_needed e.group) have
          (split-cases (has_split (reverse items) rank) e.group (none-of nue item.who (refuses kind.NotSplit nue (reverse items) e) split rank below has))
          (needed-low e.group version (run_of nue (reverse items)) known);
      rooted = λ rank below has.
          subst (λ (run : SetupView). has_no_root run e rank ≡ false) (run-straight nue items)
          (none-of nue item.who (refuses kind.RankRange nue (reverse items) e) rooted rank below has);
    }

parted-there : (r : CommRule) → IsParted r → r ≡ rule.Absent → ⊥
parted-there rule.Absent made gone = absurd made
parted-there rule.World made gone = absurd made
parted-there (rule.Mod parent k) made gone = cc
parted-there (rule.Div parent k) made gone = cc

pub made-rule : (g : Group) → IsSplitMade g → HasRule g
made-rule (group.Split comm by) made = parted-there by made.1
made-rule group.World made = tt
made-rule (group.Of comm) made = tt

pub settled-with_ends : (nue n : ℕ) (comms : List CommRule) (items : List Item) → (rule_of comms 0 ≡ rule.Absent → ⊥) → All (IsSettled nue comms) items → All (IsSettled nue comms) (with_ends n items)
settled-with_ends nue n comms items world all =
    with_ends-keeps (λ list. All (IsSettled nue comms) list)
    (record {
      keeps = λ list start place item times end found is p.
          All-set (IsSettled nue comms) list start (record item { stmt = stmt.Repeat times place })
          (record { below = λ rank below has. tt; other = λ rank below has. refl; present = λ rank below has. world; rooted = λ rank below has. refl }) p;
    }) n items all

pub world-present : (items : List Item) → rule_of (rules_of items) 0 ≡ rule.Absent → ⊥
world-present items gone = world-there gone

pub rules-low : (items : List Item) (comm : ℕ) → 1 ≤ comm → first_split items comm ≡ rule.Absent → rule_of (rules_of items) comm ≡ rule.Absent
rules-low items comm some none =
    elim (cases_lt comm 16) [
      | inl below ↦ split-at items comm some below ∙ none
      | inr past ↦ get_or_past (rules_of items) comm rule.Absent (omega (arith, past, rules-room items))
    ]
