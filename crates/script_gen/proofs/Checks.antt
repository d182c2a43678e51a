-- A statement that no check refuses stands behind the others.
use Rattle.std.proofs.Common.{◌≡◌, ℕ, zero, suc, ◌+◌, ◌*◌, ◌<◌, ◌≤◌, Bool, true, false, cond, ◌&&◌, ◌||◌, List, [], ◌∷◌, ◌++◌, length, reverse, Option, Some, None, Result, Ok, Err, refl, ◌∙◌, ap, arith, length-append}
use Rattle.std.specs.Prelude.{nat_lt, slice_index, ◌==◌}
use Rattle.std.specs.List.{find, remove}
use Rattle.std.specs.Option.{option_map_or}
use Rattle.std.proofs.lemmas.Bool.{le-ltb}
use Rattle.scc_base.specs.Groups.{list_below, is_with}
use Rattle.scc_base.specs.Setups.{SetupView, members_of, place_of, setup_key}
use Rattle.groups.specs.Collectives.{fold_each, head_of_kind, others_of, other_steps, root_steps, send_each, steps_of}
use Rattle.groups.specs.declared.collectives.Coll.TheVariants as coll
use Rattle.groups.specs.declared.collectives.Step.TheVariants as step
use Rattle.scc_base.specs.declared.kinds.Kind.TheVariants as message_kind
use Rattle.groups.proofs.StepLemmas.{folds_length, sends_length}
use Rattle.script_rules.specs.declared.fault.FaultKind.{FaultKind}
use Rattle.script_rules.specs.declared.fault.FaultKind.TheVariants as kind
use Rattle.script_rules.specs.declared.script.Item.{Item}
use Rattle.script_rules.specs.declared.script.Stmt.{Stmt}
use Rattle.script_rules.specs.declared.script.Who.{Who}
use Rattle.script_rules.specs.declared.version.Version.TheVariants as version
use Rattle.script_rules.specs.Checks.{cost_of, has_no_parent, has_no_root, has_split, is_misshapen, is_not_split, is_stray, is_to_self, is_too_deep, is_too_long, is_unknown, is_unset, length_at, open_of, operations, posts_too_much, bytes_printed, prints, refuses, run_of, some_below, turns_in, turns_too_often}
use Rattle.script_rules.specs.Effects.{effect_of}
use Rattle.script_reader.specs.Faults.{◌>>=◌}
use Rattle.script_rules.specs.Limits.{most_names, most_operations, most_printed}
use Rattle.script_reader.specs.Progress.{ReadingSoFar, fault_table, first_fault, has_fault, is_refused, place}
use Rattle.script_rules.specs.Script.{has_rank}
use Rattle.script_gen.specs.Scripts.{item_of}

pub or_false : (a b : Bool) → a ≡ false → b ≡ false → (a || b) ≡ false
or_false true b p q = p
or_false false b p q = q

-- no rank of the section is refused
none_below : (n : ℕ) (who : Who) (test : ℕ → Bool) → ((rank : ℕ) → rank < n → has_rank who rank ≡ true → test rank ≡ false) → some_below n (λ rank. has_rank who rank && test rank) ≡ false
none_below zero who test clear = refl
none_below (suc n) who test clear =
    or_false _ _ (none_below n who test (λ rank below has. clear rank (omega (arith, below)) has)) (one (has_rank who n) refl)
  where
    one : (b : Bool) → has_rank who n ≡ b → (has_rank who n && test n) ≡ false
    one true is = ap (λ (b : Bool). b && test n) is ∙ clear n (omega arith) is
    one false is = ap (λ (b : Bool). b && test n) is

-- a test that each kind fails finds none, whatever the list and its order
none_found : (test : FaultKind → Bool) → ((kind : FaultKind) → test kind ≡ false) → (kinds : List FaultKind) → find test kinds ≡ None
none_found test fails [] = refl
none_found test fails (kind ∷ kinds) = ap (λ (b : Bool). cond b (Some kind) (find test kinds)) (fails kind) ∙ none_found test fails kinds

-- what the checks ask of a statement behind others
pub record Passes (nue : ℕ) (past : List Item) (who : Who) (s : Stmt) : Type 0 where
  pub known : is_unknown version.One (run_of nue past) (effect_of s).group ≡ false
  pub parented : has_no_parent (run_of nue past) (effect_of s).group ≡ false
  pub closed : is_stray (open_of past) (effect_of s).nesting ≡ false
  pub flat : is_too_deep (open_of past) (effect_of s).nesting ≡ false
  pub turning : turns_too_often (turns_in (open_of past)) (effect_of s).nesting ≡ false
  pub short : is_too_long (effect_of s) ≡ false
  pub clear : (kind : FaultKind) (rank : ℕ) → rank < nue → has_rank who rank ≡ true → refuses kind nue past (effect_of s) rank ≡ false

-- a statement that the checks of its line let pass, and that is refused for no rank of its section
pub passing : (nue : ℕ) (past : List Item) (who : Who) (s : Stmt) → is_unknown version.One (run_of nue past) (effect_of s).group ≡ false → has_no_parent (run_of nue past) (effect_of s).group ≡ false
    → is_stray (open_of past) (effect_of s).nesting ≡ false → is_too_deep (open_of past) (effect_of s).nesting ≡ false
    → turns_too_often (turns_in (open_of past)) (effect_of s).nesting ≡ false → is_too_long (effect_of s) ≡ false
    → ((kind : FaultKind) (rank : ℕ) → rank < nue → has_rank who rank ≡ true → refuses kind nue past (effect_of s) rank ≡ false) → Passes nue past who s
passing nue past who s known parented closed flat turning short clear =
    record { known = known; parented = parented; closed = closed; flat = flat; turning = turning; short = short; clear = clear }

-- where the reader stands in a section
abbrev pub stage : ℕ → List Item → List (List ℕ) → Who → ReadingSoFar
stage nue items names who = record { version = version.One; nue = nue; opening = false; items = items; names = names; section = Some who }

module _ (nue : ℕ) (items : List Item) (names : List (List ℕ)) (who : Who) (s : Stmt) (p : Passes nue (reverse items) who s) where
  not_refused : (kind : FaultKind) → is_refused kind (stage nue items names who) (effect_of s) ≡ false
  not_refused kind = none_below nue who (refuses kind nue (reverse items) (effect_of s)) (p.clear kind)

  -- no fault of any kind: each behind its test, and the kinds of a line's words are none of a statement's
  absent : nat_lt most_names (length names) ≡ false → (kind : FaultKind) → has_fault (stage nue items names who) (effect_of s) kind ≡ false
  absent few kind.RankRange = not_refused kind.RankRange
  absent few kind.SelfMessage = not_refused kind.SelfMessage
  absent few kind.UnknownComm = p.known
  absent few kind.NotSplit = or_false _ _ p.parented (not_refused kind.NotSplit)
  absent few kind.Unset = not_refused kind.Unset
  absent few kind.Shape = not_refused kind.Shape
  absent few kind.StrayEnd = p.closed
  absent few kind.TooDeep = p.flat
  absent few kind.TooManyOps = or_false _ _ p.turning (not_refused kind.TooManyOps)
  absent few kind.TooLong = or_false _ _ p.short (not_refused kind.TooLong)
  absent few kind.TooManyNames = few
  absent few _ = refl

  sound : nat_lt most_names (length names) ≡ false → first_fault (stage nue items names who) (effect_of s) ≡ None
  sound few = none_found (has_fault (stage nue items names who) (effect_of s)) (absent few) fault_table

  pub placed : (line : ℕ) → nat_lt most_names (length names) ≡ false → place line (stage nue items names who) s ≡ Ok (stage nue (items ++ item_of line who s ∷ []) names who)
  placed line few =
      let found : Result Who FaultKind = Ok who in
      ap (λ (o : Option FaultKind). option_map_or Err o found >>= λ w. Ok (record (stage nue items names who) { items = items ++ item_of line w s ∷ [] })) (sound few)

pub not_above : (limit n : ℕ) → n ≤ limit → nat_lt limit n ≡ false
not_above limit n within = le-ltb limit n within

-- no check refuses a statement for a rank
pub clears : (nue : ℕ) (past : List Item) (s : Stmt) (rank : ℕ)
    → has_no_root (run_of nue past) (effect_of s) rank ≡ false
    → is_to_self nue (effect_of s) rank ≡ false
    → is_not_split (has_split past rank) (effect_of s).group ≡ false
    → is_unset (run_of nue past) (length_at nue past rank) (effect_of s) rank ≡ false
    → is_misshapen (run_of nue past) (length_at nue past rank) (effect_of s) rank ≡ false
    → posts_too_much (length_at nue past rank) (effect_of s) ≡ false
    → operations nue past rank + turns_in (open_of past) * cost_of (run_of nue past) (effect_of s).cost rank ≤ most_operations
    → bytes_printed nue past rank + turns_in (open_of past) * prints (length_at nue past rank) (effect_of s) ≤ most_printed
    → (kind : FaultKind) → refuses kind nue past (effect_of s) rank ≡ false
clears nue past s rank root self split set shape posts worked shown kind.RankRange = root
clears nue past s rank root self split set shape posts worked shown kind.SelfMessage = self
clears nue past s rank root self split set shape posts worked shown kind.NotSplit = split
clears nue past s rank root self split set shape posts worked shown kind.Unset = set
clears nue past s rank root self split set shape posts worked shown kind.Shape = shape
clears nue past s rank root self split set shape posts worked shown kind.TooManyOps = not_above most_operations _ worked
clears nue past s rank root self split set shape posts worked shown kind.TooLong = or_false _ _ posts (not_above most_printed _ shown)
clears nue past s rank root self split set shape posts worked shown _ = refl

-- statements that are few operations each
abbrev pub AreLight : ℕ → ℕ → List Item → Type 0
AreLight nue rank [] = Unit {0}
AreLight nue rank (item ∷ past) = AreLight nue rank past × (turns_in (open_of past) * cost_of (run_of nue past) (effect_of item.stmt).cost rank ≤ 1500)

pub part : (b : Bool) (n m : ℕ) → n ≤ m → cond b n 0 ≤ m
part true n m within = within
part false n m within = omega arith

one_more : (a c n : ℕ) → a ≤ 1500 * n → c ≤ 1500 → a + c ≤ 1500 * suc n
one_more a c n before here = omega arith

light_work : (nue rank : ℕ) (past : List Item) → AreLight nue rank past → operations nue past rank ≤ 1500 * length past
light_work nue rank [] light = omega arith
light_work nue rank (item ∷ past) light =
    let before = light_work nue rank past light.0 in
    let here = part (has_rank item.who rank) (turns_in (open_of past) * cost_of (run_of nue past) (effect_of item.stmt).cost rank) 1500 light.1 in
    one_more _ _ _ before here

within_all : (a c n : ℕ) → a ≤ 1500 * n → c ≤ 1500 → n ≤ 60 → a + c ≤ most_operations
within_all a c n before here few = omega arith

pub worked : (nue rank : ℕ) (past : List Item) (item : Item) → AreLight nue rank (item ∷ past) → length past ≤ 60 → operations nue past rank + turns_in (open_of past) * cost_of (run_of nue past) (effect_of item.stmt).cost rank ≤ most_operations
worked nue rank past item light few =
    within_all _ _ _ (light_work nue rank past light.0) light.1 few

-- the steps of a reduction to all
list_below_short : (test : ℕ → Bool) (n : ℕ) → length (list_below test n) ≤ n
list_below_short test zero = omega arith
list_below_short test (suc n) = by (test n) (list_below_short test n)
  where
    by : (b : Bool) → length (list_below test n) ≤ n → length (cond b (list_below test n ++ n ∷ []) (list_below test n)) ≤ suc n
    by true short = omega (arith, short, length-append (list_below test n) (n ∷ []))
    by false short = omega (arith, short)

remove_short : (xs : List ℕ) (i : ℕ) → length (remove xs i) ≤ length xs
remove_short [] zero = omega arith
remove_short [] (suc i) = omega arith
remove_short (x ∷ xs) zero = omega arith
remove_short (x ∷ xs) (suc i) = let rest = remove_short xs i in omega (arith, rest)

root_short : (others : List ℕ) → length others ≤ 48 → length (root_steps (coll.Allreduce 0 0) others) ≤ 150
root_short others few =
    let up = head_of_kind message_kind.AllUp 0 0 in
    let down = head_of_kind message_kind.AllDown 0 0 in
    let all = length-append (fold_each up others ++ send_each down others) (step.Finish ∷ []) in
    let both = length-append (fold_each up others) (send_each down others) in
    omega (arith, all, both, folds_length up others, sends_length down others, few)

pub allreduce_short : (run : SetupView) (rank : ℕ) → run.nue ≤ 48 → length (steps_of run rank (coll.Allreduce 0 0)) ≤ 150
allreduce_short run rank few =
    by (place_of run 0 rank == 0)
  where
    members : length (others_of run 0 rank 0) ≤ 48
    members =
        let below = list_below_short (is_with (setup_key run 0) rank) run.nue in
        let others = remove_short (members_of run 0 rank) 0 in
        omega (arith, below, others, few)

    by : (b : Bool) → length (cond b (root_steps (coll.Allreduce 0 0) (others_of run 0 rank 0)) (other_steps (coll.Allreduce 0 0) (slice_index (members_of run 0 rank) 0))) ≤ 150
    by true = root_short (others_of run 0 rank 0) members
    by false = omega arith
