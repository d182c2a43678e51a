use Rattle.std.proofs.Common.{◌≡◌, ◌∙◌, ◌<◌, ◌==◌, ◌≤◌, ◌+◌, ◌-◌, ◌++◌, ℕ, [], ◌∷◌, List, None, Ok, Some, Option, Bool, false, true, ap, arith, cond, drop, length, length-drop, option_map, ok_or, slice_index, subst, sym, take}
use Rattle.std.proofs.lemmas.Bool.{eq-eqb, ltb-true, ne_eqb}
use Rattle.std.proofs.lemmas.List.{take_all}
use Rattle.groups.specs.declared.operations.Ty.{Ty}
use Rattle.script_rules.specs.declared.fault.FaultKind.TheVariants as kind
use Rattle.script_reader.specs.Faults.{◌>>=◌}
use Rattle.script_reader.specs.Said.{value_after}
use Rattle.script_reader.specs.Words.{bytes_above, bytes_below, greatest}
use Rattle.texts.specs.Numbers.{decimal_of}
use Rattle.script_reader.proofs.StopLemmas.{starved}
use Rattle.script_reader.proofs.words.push_value.Goals.{After-greatest, After-greatest-in_default, in_default-via-then-word-lt1, in_default-via-else-word-lt1+in_default-1}
use Rattle.script_reader.proofs.words.push_value.Goals as goal

-- the bytes of the one or of the other
each : {A B C : Type 0} (b : Bool) (given : Option B → C) (f g : A → B) (o p q : Option A) → cond b o p ≡ q → given (cond b (option_map f o) (option_map g p)) ≡ given (option_map (cond b f g) q)
each true given f g o p q is = ap (λ (r : Option _). given (option_map f r)) is
each false given f g o p q is = ap (λ (r : Option _). given (option_map g r)) is

-- a value by what its digits are, where this is whether the first byte is a dash
value : (ty : Ty) (front word : List ℕ) (dashed : Bool) (size : Option ℕ) → (slice_index word 0 == 45) ≡ dashed
    → cond dashed (decimal_of 20 (greatest ty + 1) (drop 1 word)) (decimal_of 20 (greatest ty) word) ≡ size
    → value_after ty front word ≡ (ok_or (option_map (cond dashed (bytes_below ty) (bytes_above ty)) size) kind.BadNumber >>= λ bytes. Ok (front ++ bytes))
value ty front word dashed size first said =
    let given = λ (o : Option (List ℕ)). ok_or o kind.BadNumber >>= λ bytes. Ok (front ++ bytes) in
    let low = decimal_of 20 (greatest ty + 1) (drop 1 word) in
    let high = decimal_of 20 (greatest ty) word in
    ap (λ (b : Bool). given (cond b (option_map (bytes_below ty) low) (option_map (bytes_above ty) high))) first ∙ each dashed given (bytes_below ty) (bytes_above ty) low high size said

-- the first byte of a word without bytes is no dash
empty : (word : List ℕ) → length word < 1 → slice_index word 0 ≡ 45 → ⊥
empty [] short is = cc
empty (b ∷ word) short is = omega (arith, short)

-- the digits after a dash
below : (c : After-greatest) (size : Option ℕ) → size ≡ decimal_of 20 (c.greatest.result + 1) (take (length c.args.word.now - 1) (drop 1 c.args.word.now))
    → value_after c.args.ty c.args.bytes.now.items c.args.word.now ≡ (ok_or (option_map (bytes_below c.args.ty) size) kind.BadNumber >>= λ bytes. Ok (c.args.bytes.now.items ++ bytes))
below c size gives =
    let word = c.args.word.now in
    let all = take_all (length word - 1) (drop 1 word) (omega (arith, length-drop 1 word)) in
    let first : slice_index word 0 ≡ 45 = omega arith in
    value c.args.ty c.args.bytes.now.items word true size (eq-eqb (slice_index word 0) 45 first)
    (sym (gives ∙ ap (λ (n : ℕ). decimal_of 20 (n + 1) (take (length word - 1) (drop 1 word))) c.greatest.ensures ∙ ap (decimal_of 20 (greatest c.args.ty + 1)) all))

-- and with no dash
above : (c : After-greatest-in_default) (size : Option ℕ) → size ≡ decimal_of 20 c.greatest-in_default.result c.args.word.now
    → value_after c.args.ty c.args.bytes.now.items c.args.word.now ≡ (ok_or (option_map (bytes_above c.args.ty) size) kind.BadNumber >>= λ bytes. Ok (c.args.bytes.now.items ++ bytes))
above c size gives =
    let word = c.args.word.now in
    let other : slice_index word 0 ≡ 45 → ⊥ =
    elim c.in_default.branch [
      | in_default-via-then-word-lt1 w ↦ empty word (omega (arith, ltb-true))
      | in_default-via-else-word-lt1+in_default-1 w ↦ λ is. omega (arith, is)
    ] in
    value c.args.ty c.args.bytes.now.items word false size (ne_eqb (slice_index word 0) 45 other)
    (sym (gives ∙ ap (λ (n : ℕ). decimal_of 20 n word) c.greatest-in_default.ensures))

pub push_below-requires : goal.push_below-requires
push_below-requires c = subst (λ (n : ℕ). c.in-Some.size ≤ n + 1) c.greatest.ensures c.in-Some.ensures.within

pub push_above-requires : goal.push_above-requires
push_above-requires c = subst (λ (n : ℕ). c.in-Some-decimal.size ≤ n) c.greatest-in_default.ensures c.in-Some-decimal.ensures.within

pub returns-in_err-push_below-in-Some : goal.returns-in_err-push_below-in-Some
returns-in_err-push_below-in-Some c = starved _ _ _ c.from_residual.ensures.1

pub returns-in_err-push_above-in-Some-decimal : goal.returns-in_err-push_above-in-Some-decimal
returns-in_err-push_above-in-Some-decimal c = starved _ _ _ c.from_residual-in_err-push_above-in-Some-decimal.ensures.1

pub returns-in_ok-push_below-in-Some : goal.returns-in_ok-push_below-in-Some
returns-in_ok-push_below-in-Some c =
    below (goal.at.returns-in_ok-push_below-in-Some c).After-greatest (Some c.in-Some.size) c.in-Some.ensures.gives ∙ ap Ok (sym c.in_ok-push_below-in-Some.ensures)

pub returns-in-None : goal.returns-in-None
returns-in-None c = below (goal.at.returns-in-None c).After-greatest None c.in-None.ensures.gives

pub returns-in_ok-push_above-in-Some-decimal : goal.returns-in_ok-push_above-in-Some-decimal
returns-in_ok-push_above-in-Some-decimal c =
    above (goal.at.returns-in_ok-push_above-in-Some-decimal c).After-greatest-in_default (Some c.in-Some-decimal.size) c.in-Some-decimal.ensures.gives
    ∙ ap Ok (sym c.in_ok-push_above-in-Some-decimal.ensures)

pub returns-in-None-decimal : goal.returns-in-None-decimal
returns-in-None-decimal c = above (goal.at.returns-in-None-decimal c).After-greatest-in_default None c.in-None-decimal.ensures.gives
