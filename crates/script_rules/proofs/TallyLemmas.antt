-- The tallies before the first statement, and after one more.
use Rattle.std.proofs.Common.{◌≡◌, ℕ, ◌+◌, ◌*◌, ◌<◌, Bool, true, false, ◌||◌, cond, eqb, ltb, min, List, [], ◌∷◌, ◌++◌, length, get_or, set, take, slice_set, is_none, replicate, Option, Some, None, refl, sym, ap, ◌∙◌, arith, subst, inl, inr}
use Rattle.std.proofs.Math.Path.{fun_ext}
use Rattle.std.proofs.lemmas.Bool.Decides.{eqb_tells, nat_tests}
use Rattle.std.proofs.lemmas.Bool.{cases_lt}
use Rattle.std.proofs.lemmas.List.{length-replicate, length-set, take-append-le, take_all, get_or-set_other, get_or-replicate, get_or_append_left, get_or_push, get_or_past}
use Rattle.std.proofs.lemmas.Grind.{get_or-set_at}
use Rattle.std.specs.Option.{option_map_or, option_or}
use Rattle.std.specs.Prelude.{IfSome}
use Rattle.script_rules.specs.declared.effect.Effect.{Effect}
use Rattle.script_rules.specs.declared.effect.Group.{Group}
use Rattle.script_rules.specs.declared.effect.Group.TheVariants as group
use Rattle.script_rules.specs.declared.effect.Target.{Target}
use Rattle.script_rules.specs.declared.fault.FaultKind.{FaultKind}
use Rattle.script_rules.specs.declared.fault.FaultKind.TheVariants as kind
use Rattle.script_rules.specs.declared.script.Item.{Item}
use Rattle.script_rules.specs.declared.tally.Setting.{Setting}
use Rattle.script_rules.specs.declared.tally.Tally.{Tally}
use Rattle.script_rules.specs.Checks.{cost_of, counts_at, is_misshapen, is_not_split, is_unset, length_at, open_of, operations, posts_too_much, bytes_printed, prints, prints_too_much, refuses, run_of, set_by, set_if, sets_to, turns_in}
use Rattle.script_rules.specs.Effects.{effect_of, is_split_of}
use Rattle.script_rules.specs.Limits.{most_operations, most_printed}
use Rattle.script_rules.specs.Script.{has_rank}
use Rattle.script_rules.specs.Tally.{AreTallies, IsMade, IsSplitMade, IsTally, empty_tally, length_in, tally_after, noted_at, refuses_by, with_length, with_split}

-- each item of a list of defaults is the default
defaults : {A : Type 0} (n k : ℕ) (d : A) → get_or (replicate n d) k d ≡ d
defaults n k d = elim (cases_lt k n) [ inl below ↦ get_or-replicate n k d d below | inr past ↦ get_or_past (replicate n d) k d (omega (arith, past, length-replicate n d)) ]

pub IsTally-empty : (nue rank : ℕ) → IsTally empty_tally nue [] rank
IsTally-empty nue rank = record {
  operations_are = refl;
  printed_are = refl;
  lengths_are = λ reg. defaults {A = Option ℕ} 256 reg None;
  splits_are = λ comm. defaults {A = Bool} 256 comm false;
  lengths_room = length-replicate {A = Option ℕ} 256 None;
  splits_room = length-replicate {A = Bool} 256 false;
}

-- one more tally that is empty
pub empty-more : (tallies : List Tally) (n : ℕ) → length tallies ≡ n → ((k : ℕ) (d : Tally) → k < n → get_or tallies k d ≡ empty_tally) → (k : ℕ) (d : Tally) → k < n + 1 → get_or (tallies ++ empty_tally ∷ []) k d ≡ empty_tally
empty-more tallies n long empty k d below =
    elim (cases_lt k n) [ inl less ↦ get_or_append_left tallies (empty_tally ∷ []) d k (omega arith) ∙ empty k d less | inr past ↦ get_or_push tallies empty_tally d k (omega arith) ]

or_none : (a : Option ℕ) → option_or a None ≡ a
or_none None = refl
or_none (Some x) = refl

or_false : (a : Bool) → (a || false) ≡ a
or_false true = refl
or_false false = refl

or_true : (a : Bool) → (a || true) ≡ true
or_true true = refl
or_true false = refl

-- a length is set if there is none yet, and the other registers keep theirs
set-lengths : (lengths : List (Option ℕ)) (set reg len : ℕ) (had : Option ℕ) → set < length lengths → get_or lengths set None ≡ had
    → get_or (cond (is_none had) (slice_set lengths set (Some len)) lengths) reg None ≡ option_or (get_or lengths reg None) (cond (eqb set reg) (Some len) None)
set-lengths lengths set reg len None within had =
    elim (eqb_tells set reg) [
      | inl same ↦ rw same.0 (
          let gone : get_or lengths reg None ≡ None = subst (λ r. get_or lengths r None ≡ None) same.1 had in
          get_or-set_at lengths set reg (Some len) None (sym same.1) within ∙ sym (rw gone refl)
          )
      | inr other ↦ rw other.0 (get_or-set_other lengths set reg (Some len) None (λ e. other.1 (sym e)) ∙ sym (or_none _))
    ]
set-lengths lengths set reg len (Some x) within had =
    elim (eqb_tells set reg) [
      | inl same ↦ let there : get_or lengths reg None ≡ Some x = subst (λ r. get_or lengths r None ≡ Some x) same.1 had in rw there refl
      | inr other ↦ rw other.0 (sym (or_none _))
    ]

-- a setting's register has a place
abbrev IsPlaced : Option Setting → Type 0
IsPlaced set = IfSome set (λ s. s.reg < 256)

length-set_once : (lengths : List (Option ℕ)) (set : Option Setting) (reg : ℕ) → length lengths ≡ 256 → IsPlaced set → get_or (with_length lengths set) reg None ≡ option_or (get_or lengths reg None) (sets_to set reg)
length-set_once lengths None reg long placed = sym (or_none _)
length-set_once lengths (Some set) reg long placed = set-lengths lengths set.reg reg set.len (get_or lengths set.reg None) (omega (arith, long, placed)) refl

set-room : (lengths : List (Option ℕ)) (set len : ℕ) (had : Option ℕ) → length (cond (is_none had) (slice_set lengths set (Some len)) lengths) ≡ length lengths
set-room lengths set len None = length-set lengths set (Some len)
set-room lengths set len (Some x) = refl

with_length-room : (lengths : List (Option ℕ)) (set : Option Setting) → length (with_length lengths set) ≡ length lengths
with_length-room lengths None = refl
with_length-room lengths (Some set) = set-room lengths set.reg set.len (get_or lengths set.reg None)

-- the register that a statement sets has a place
placed-if : (b : Bool) (had : ℕ → Option ℕ) (t : Target) → t.reg < 256 → IsPlaced (set_if had t b)
placed-if true had t placed = placed
placed-if false had t placed = tt

set-placed : (o : Option Target) (had : ℕ → Option ℕ) (counts : Target → Bool) → IfSome o (λ target. target.reg < 256) → IsPlaced (option_map_or (λ target. set_if had target (counts target)) o None)
set-placed None had counts made = tt
set-placed (Some target) had counts made = placed-if (counts target) had target made

-- the splits with one more
mark-split : (splits : List Bool) (split comm : ℕ) → split < length splits → get_or (slice_set splits split true) comm false ≡ (get_or splits comm false || eqb split comm)
mark-split splits split comm within =
    elim (eqb_tells split comm) [
      | inl same ↦ rw same.0 (get_or-set_at splits split comm true false (sym same.1) within ∙ sym (or_true _))
      | inr other ↦ rw other.0 (get_or-set_other splits split comm true false (λ e. other.1 (sym e)) ∙ sym (or_false _))
    ]

split-marked : (g : Group) (splits : List Bool) (comm : ℕ) → length splits ≡ 256 → IsSplitMade g → get_or (with_split splits g) comm false ≡ (get_or splits comm false || is_split_of g comm)
split-marked (group.Split split rule) splits comm long made = mark-split splits split comm (omega (arith, long, made.0))
split-marked group.World splits comm long made = sym (or_false _)
split-marked (group.Of place) splits comm long made = sym (or_false _)

with_split-room : (g : Group) (splits : List Bool) → length (with_split splits g) ≡ length splits
with_split-room (group.Split split rule) splits = length-set splits split true
with_split-room group.World splits = refl
with_split-room (group.Of place) splits = refl

capped : (a b c x m : ℕ) → a ≡ min b m → c ≡ b + x → min (a + x) m ≡ min c m
capped a b c x m is more = omega arith

-- the lengths after a statement of the rank
lengths-noted : (item : Item) (tally : Tally) (nue : ℕ) (past : List Item) (rank : ℕ) → has_rank item.who rank ≡ true → IsMade (effect_of item.stmt) → IsTally tally nue past rank → (reg : ℕ)
    → get_or (with_length tally.lengths (set_by (run_of nue past) (length_in tally) (effect_of item.stmt) rank)) reg None ≡ length_at nue (item ∷ past) rank reg
lengths-noted item tally nue past rank has made t reg =
    let run = run_of nue past in
    let e = effect_of item.stmt in
    let placed = set-placed e.sets (length_in tally) (λ target. counts_at run e rank target.at) made.set in
    length-set_once tally.lengths (set_by run (length_in tally) e rank) reg t.lengths_room placed
    ∙ ap (λ o. option_or o (sets_to (set_by run (length_in tally) e rank) reg)) (t.lengths_are reg)
    ∙ ap (λ (had : ℕ → Option ℕ). option_or (length_at nue past rank reg) (sets_to (set_by run had e rank) reg)) (fun_ext t.lengths_are)
    ∙ sym (rw has refl)

noted-tally : (item : Item) (tally : Tally) (nue : ℕ) (past : List Item) (rank : ℕ) (has : Bool) → has_rank item.who rank ≡ has → IsMade (effect_of item.stmt) → IsTally tally nue past rank
    → IsTally (cond has (tally_after (run_of nue past) (turns_in (open_of past)) (effect_of item.stmt) rank tally) tally) nue (item ∷ past) rank
noted-tally item tally nue past rank true has made t =
    let e = effect_of item.stmt in
    record {
      operations_are = capped tally.operations (operations nue past rank) (operations nue (item ∷ past) rank) (turns_in (open_of past) * cost_of (run_of nue past) e.cost rank) (most_operations + 1) t.operations_are (rw has refl);
      printed_are =
          ap (λ (had : ℕ → Option ℕ). min (tally.printed + turns_in (open_of past) * prints had e) (most_printed + 1)) (fun_ext t.lengths_are)
          ∙ capped tally.printed (bytes_printed nue past rank) (bytes_printed nue (item ∷ past) rank) (turns_in (open_of past) * prints (length_at nue past rank) e) (most_printed + 1) t.printed_are (rw has refl);
      lengths_are = lengths-noted item tally nue past rank has made t;
      splits_are = λ comm. split-marked e.group tally.splits comm t.splits_room made.split ∙ ap (λ b. b || is_split_of e.group comm) (t.splits_are comm) ∙ sym (rw has refl);
      lengths_room = with_length-room tally.lengths (set_by (run_of nue past) (length_in tally) e rank) ∙ t.lengths_room;
      splits_room = with_split-room e.group tally.splits ∙ t.splits_room;
    }
noted-tally item tally nue past rank false has made t = record {
  operations_are = let same : operations nue (item ∷ past) rank ≡ operations nue past rank + 0 = rw has refl in omega (arith, t.operations_are);
  printed_are = let same : bytes_printed nue (item ∷ past) rank ≡ bytes_printed nue past rank + 0 = rw has refl in omega (arith, t.printed_are);
  lengths_are = λ reg. t.lengths_are reg ∙ sym (or_none _) ∙ sym (rw has refl);
  splits_are = λ comm. t.splits_are comm ∙ sym (or_false _) ∙ sym (rw has refl);
  lengths_room = t.lengths_room;
  splits_room = t.splits_room;
}

-- the tallies after one more item
pub AreTallies-more : (tallies after : List Tally) (nue : ℕ) (past : List Item) (item : Item) → IsMade (effect_of item.stmt) → AreTallies tallies nue past
    → ((rank : ℕ) (d : Tally) → rank < nue → get_or after rank d ≡ noted_at (run_of nue past) (turns_in (open_of past)) item.who (effect_of item.stmt) rank (get_or tallies rank d)) → AreTallies after nue (item ∷ past)
AreTallies-more tallies after nue past item made are noted rank d below =
    subst (λ t. IsTally t nue (item ∷ past) rank) (sym (noted rank d below)) (noted-tally item (get_or tallies rank d) nue past rank (has_rank item.who rank) refl made (are rank d below))

-- a list that is written back over one of its length
pub written-back : {A : Type 0} (n : ℕ) (xs ys : List A) → length xs ≡ n → take n (xs ++ ys) ≡ xs
written-back n xs ys same = take-append-le n xs ys (omega arith) ∙ take_all n xs (omega arith)

over-cap : (a b x m : ℕ) → a ≡ min b (m + 1) → ltb m (a + x) ≡ ltb m (b + x)
over-cap a b x m is = grind (arith, nat_tests)

-- a fault over what is kept is the fault over the statements
pub refuses-same : (kind : FaultKind) (tally : Tally) (nue : ℕ) (past : List Item) (e : Effect) (rank : ℕ) → IsTally tally nue past rank
    → refuses_by kind (run_of nue past) tally (turns_in (open_of past)) e rank ≡ refuses kind nue past e rank
refuses-same kind.NotSplit tally nue past e rank t = ap (λ (split : ℕ → Bool). is_not_split split e.group) (fun_ext t.splits_are)
refuses-same kind.Unset tally nue past e rank t = ap (λ (had : ℕ → Option ℕ). is_unset (run_of nue past) had e rank) (fun_ext t.lengths_are)
refuses-same kind.Shape tally nue past e rank t = ap (λ (had : ℕ → Option ℕ). is_misshapen (run_of nue past) had e rank) (fun_ext t.lengths_are)
refuses-same kind.TooManyOps tally nue past e rank t = over-cap tally.operations (operations nue past rank) (turns_in (open_of past) * cost_of (run_of nue past) e.cost rank) most_operations t.operations_are
refuses-same kind.TooLong tally nue past e rank t =
    ap (λ (had : ℕ → Option ℕ). posts_too_much had e || prints_too_much had tally.printed (turns_in (open_of past)) e) (fun_ext t.lengths_are)
    ∙ ap (λ b. posts_too_much (length_at nue past rank) e || b) (over-cap tally.printed (bytes_printed nue past rank) (turns_in (open_of past) * prints (length_at nue past rank) e) most_printed t.printed_are)
refuses-same _ tally nue past e rank t = refl
