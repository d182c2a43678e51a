-- What the reader keeps after one more statement.
use Rattle.std.proofs.Common.{◌≡◌, ℕ, zero, suc, ◌<◌, ◌≤◌, false, List, [], ◌∷◌, ◌++◌, Option, Some, None, arith, length, get_or, refl, reverse, sym, ap, ◌∙◌, subst}
use Rattle.std.proofs.lemmas.Bool.{ltb-false}
use Rattle.std.proofs.lemmas.List.{length-reverse, reverse-reverse}
use Rattle.std.proofs.lemmas.List.Elements.{All-nil, All-push, All-weaker}
use Rattle.std.specs.Option.{option_map_or}
use Rattle.std.specs.Prelude.{IfSome}
use Rattle.scc_base.specs.Communicators.{AreRules, IsRule, rule_of}
use Rattle.scc_base.specs.Setups.{SetupView}
use Rattle.scc_base.specs.declared.communicators.CommRule.{CommRule}
use Rattle.scc_base.specs.declared.communicators.CommRule.TheVariants as rule
use Rattle.scc_base.specs.declared.layouts.Layout.TheVariants as layout
use Rattle.script_rules.specs.declared.effect.Size.{Size}
use Rattle.script_rules.specs.declared.effect.Size.TheVariants as sizes
use Rattle.script_rules.specs.declared.effect.Target.{Target}
use Rattle.script_rules.specs.declared.effect.Uses.{Uses}
use Rattle.script_rules.specs.declared.effect.Uses.TheVariants as uses
use Rattle.script_rules.specs.declared.fault.FaultKind.{FaultKind}
use Rattle.script_rules.specs.declared.repeats.Open.{Open}
use Rattle.script_rules.specs.declared.script.Item.{Item}
use Rattle.script_rules.specs.declared.tally.Tally.{Tally}
use Rattle.script_rules.specs.Checks.{is_past_most, is_too_deep, is_too_long, is_unknown, open_of, repeats_after, refuses, run_of, some_rank, turns_in}
use Rattle.script_rules.specs.Effects.{EachUse, IsSizedBy, comm_needed, effect_of, split_rule}
use Rattle.script_rules.specs.Script.{IsSized, or_rule, rules_of}
use Rattle.script_rules.specs.declared.version.Version.{Version}
use Rattle.script_reader.specs.Kept.{IsKept}
use Rattle.script_rules.specs.Tally.{AreTallies, IsMade, noted_at}
use Rattle.script_rules.proofs.RuleLemmas.{first_split-more, past-more, run-straight, split-at, split-low}
use Rattle.script_rules.proofs.SettledLemmas.{made-rule, none-of, settled-push}
use Rattle.script_rules.proofs.TallyLemmas.{AreTallies-more}
use Rattle.script_rules.specs.Settled.{AreInLine, ArePassed, HaveRules, IsInLine, IsNamed, IsSettled}

size-short : (size : Size) → is_past_most size ≡ false → IsSizedBy size
size-short (sizes.Bytes len) short = ltb-false 65536 len short
size-short (sizes.Same reg) short = tt

short-sized : (o : Option Target) → option_map_or (λ target. is_past_most target.size) o false ≡ false → IfSome o (λ target. IsSizedBy target.size)
short-sized None short = tt
short-sized (Some target) short = size-short target.size short

-- a run by the rules after these statements
pub run-after : (nue : ℕ) (items : List Item) (rules : List CommRule) → rules ≡ rules_of items → record { nue = nue; layout = layout.LineFlags; hosts = []; comms = rules } ≡ run_of nue (reverse items)
run-after nue items rules same = ap {A = List CommRule} {B = SetupView} (λ r. record { nue = nue; layout = layout.LineFlags; hosts = []; comms = r }) same ∙ sym (run-straight nue items)

-- a run that stays, where the rules do
pub run-stays : (nue : ℕ) (items : List Item) (item : Item) (run : SetupView) → run ≡ run_of nue (reverse items) → rules_of (items ++ item ∷ []) ≡ rules_of items → run ≡ run_of nue (reverse (items ++ item ∷ []))
run-stays nue items item run is same = is ∙ run-straight nue items ∙ run-after nue (items ++ item ∷ []) (rules_of items) (sym same)

-- what the checks of its line leave of a statement
in_line-new : (nue : ℕ) (items : List Item) (item : Item) → AreRules (rules_of items) → IsSettled nue (rules_of items) item → is_too_long (effect_of item.stmt) ≡ false
    → is_too_deep (open_of (reverse items)) (effect_of item.stmt).nesting ≡ false → IsInLine nue (reverse items) item
in_line-new nue items item rules settled short flat = record {
  rules = subst (λ (list : List Item). AreRules (rules_of list)) (sym (reverse-reverse items)) rules;
  present = λ rank below has. subst (λ (list : List Item). rule_of (rules_of list) (comm_needed (effect_of item.stmt).group) ≡ rule.Absent → ⊥) (sym (reverse-reverse items)) (settled.present rank below has);
  sized = short-sized (effect_of item.stmt).sets short;
  flat = flat;
}

pub kept-more : (version : Version) (nue : ℕ) (items : List Item) (names : List (List ℕ)) (item : Item) (run after : SetupView) (repeats later : List Open) (tallies noted : List Tally)
    → IsKept version nue items names run repeats tallies → is_unknown version (run_of nue (reverse items)) (effect_of item.stmt).group ≡ false → IsMade (effect_of item.stmt)
    → IsNamed (length names) (effect_of item.stmt) → is_too_long (effect_of item.stmt) ≡ false
    → is_too_deep (open_of (reverse items)) (effect_of item.stmt).nesting ≡ false → after ≡ run_of nue (reverse (items ++ item ∷ []))
    → later ≡ repeats_after (effect_of item.stmt).nesting (length items) repeats → AreRules (rules_of (items ++ item ∷ [])) → length noted ≡ nue → IsSettled nue (rules_of items) item
    → ((kind : FaultKind) → some_rank nue (Some item.who) (refuses kind nue (reverse items) (effect_of item.stmt)) ≡ false)
    → ((rank : ℕ) (d : Tally) → rank < nue → get_or noted rank d ≡ noted_at run (turns_in repeats) item.who (effect_of item.stmt) rank (get_or tallies rank d))
    → IsKept version nue (items ++ item ∷ []) names after later noted
kept-more version nue items names item run after repeats later tallies noted k known made named short flat is opens rules long new none counts =
    let e = effect_of item.stmt in
    let counted = λ (rank : ℕ) (d : Tally) (below : rank < nue).
    counts rank d below
    ∙ ap (λ (r : SetupView). noted_at r (turns_in repeats) item.who e rank (get_or tallies rank d)) k.run_is
    ∙ ap (λ (r : List Open). noted_at (run_of nue (reverse items)) (turns_in r) item.who e rank (get_or tallies rank d)) k.repeats_are in
    record {
      some = k.some;
      most = k.most;
      sized = All-push (λ (item : Item). IsSized item.stmt) items item k.sized (short-sized e.sets short);
      run_is = is;
      repeats_are =
          opens
          ∙ ap (λ (r : List Open). repeats_after e.nesting (length items) r) k.repeats_are
          ∙ ap (λ (n : ℕ). repeats_after e.nesting n (open_of (reverse items))) (sym (length-reverse items))
          ∙ ap open_of (sym (past-more items item));
      rules = rules;
      settled = settled-push nue items item k.rules k.settled new;
      have = subst HaveRules (sym (past-more items item)) (k.have, made-rule e.group made.split);
      low = λ comm above. first_split-more items item comm ∙ ap (λ (r : CommRule). or_rule r (split_rule e.group comm)) (k.low comm above) ∙ split-low e.group version (run_of nue (reverse items)) comm known above;
      passed = subst (λ (past : List Item). ArePassed nue past) (sym (past-more items item)) (k.passed, λ kind. none-of nue item.who (refuses kind nue (reverse items) e) (none kind));
      in_line = subst (λ (past : List Item). AreInLine nue past) (sym (past-more items item)) (k.in_line, in_line-new nue items item k.rules new short flat);
      named = All-push (λ (i : Item). IsNamed (length names) (effect_of i.stmt)) items item k.named named;
      ranked = long;
      tallied = subst (λ (past : List Item). AreTallies noted nue past) (sym (past-more items item)) (AreTallies-more tallies noted nue (reverse items) item made k.tallied counted);
    }

uses-named : (few many : ℕ) (used : Uses) → few ≤ many → EachUse (λ u. u.reg < few) used → EachUse (λ u. u.reg < many) used
uses-named few many uses.Nothing up named = tt
uses-named few many (uses.One first) up named = omega (arith, up, named)
uses-named few many (uses.Two first second) up named = (omega (arith, up, named.0), omega (arith, up, named.1))

set-named : (few many : ℕ) (o : Option Target) → few ≤ many → IfSome o (λ target. target.reg < few) → IfSome o (λ target. target.reg < many)
set-named few many None up named = tt
set-named few many (Some target) up named = omega (arith, up, named)

-- what is kept of the statements stays so where the names become more
pub kept-names : (version : Version) (nue : ℕ) (items : List Item) (few many : List (List ℕ)) (run : SetupView) (repeats : List Open) (tallies : List Tally)
    → length few ≤ length many → IsKept version nue items few run repeats tallies → IsKept version nue items many run repeats tallies
kept-names version nue items few many run repeats tallies up k = record {
  some = k.some;
  most = k.most;
  sized = k.sized;
  run_is = k.run_is;
  repeats_are = k.repeats_are;
  rules = k.rules;
  settled = k.settled;
  have = k.have;
  low = k.low;
  passed = k.passed;
  in_line = k.in_line;
  named = All-weaker (λ (i : Item). IsNamed (length few) (effect_of i.stmt)) (λ (i : Item). IsNamed (length many) (effect_of i.stmt))
      (λ i named. (uses-named (length few) (length many) (effect_of i.stmt).uses up named.0, set-named (length few) (length many) (effect_of i.stmt).sets up named.1)) items k.named;
  ranked = k.ranked;
  tallied = k.tallied;
}

-- no split has given a rule
pub rules-none : AreRules (rules_of [])
rules-none zero below = refl
rules-none (suc comm) below = subst (λ (r : CommRule). IsRule (rules_of []) (suc comm) r) (sym (split-at [] (suc comm) (omega arith) below)) (λ is. cc)

-- what is kept of no statements
pub kept-none : (version : Version) (nue : ℕ) (items : List Item) (names : List (List ℕ)) (run : SetupView) (repeats : List Open) (tallies : List Tally)
    → 1 ≤ nue → nue ≤ 48 → items ≡ [] → run ≡ run_of nue [] → repeats ≡ [] → length tallies ≡ nue → AreTallies tallies nue []
    → IsKept version nue items names run repeats tallies
kept-none version nue items names run repeats tallies some most none straight closed long empty =
    subst (λ (items : List Item). IsKept version nue items names run repeats tallies) (sym none) (record {
      some = some;
      most = most;
      sized = All-nil (λ (i : Item). IsSized i.stmt);
      run_is = straight;
      repeats_are = closed;
      rules = rules-none;
      settled = All-nil (IsSettled nue (rules_of []));
      have = tt;
      low = λ comm above. refl;
      passed = tt;
      in_line = tt;
      named = All-nil (λ (i : Item). IsNamed (length names) (effect_of i.stmt));
      ranked = long;
      tallied = empty;
    })
