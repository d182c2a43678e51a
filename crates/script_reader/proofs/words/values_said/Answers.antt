use Rattle.std.proofs.Common.{◌≡◌, ◌∙◌, ℕ, ◌<◌, ◌+◌, suc, [], List, Ok, Result, add-one, ap, drop, drop-cons, get_or, length, map, subst, sym}
use Rattle.std.proofs.lemmas.List.{at_drop_all}
use Rattle.groups.specs.declared.operations.Ty.{Ty}
use Rattle.script_rules.specs.declared.fault.FaultKind.{FaultKind}
use Rattle.script_reader.specs.Faults.{◌>>=◌, LineGives}
use Rattle.script_reader.specs.Said.{value_after, values_said}
use Rattle.script_reader.proofs.StopLemmas.{stops}
use Rattle.script_reader.proofs.words.values_said.Goals as goal

-- the word before those that are left
first : {A : Type 0} (ty : Ty) (front : List ℕ) (seen : A → List ℕ) (words : List A) (i : ℕ) (d : A) → i < length words
    → values_said ty front (map seen (drop i words)) ≡ (value_after ty front (seen (get_or words i d)) >>= λ bytes. values_said ty bytes (map seen (drop (suc i) words)))
first ty front seen words i d below = ap (λ (left : List _). values_said ty front (map seen left)) (drop-cons words i d below)

-- if it is a value, the words after it continue from its bytes
afterwards : {A : Type 0} (ty : Ty) (front back : List ℕ) (seen : A → List ℕ) (words : List A) (i : ℕ) (d : A) → i < length words
    → value_after ty front (seen (get_or words i d)) ≡ Ok back → values_said ty back (map seen (drop (i + 1) words)) ≡ values_said ty front (map seen (drop i words))
afterwards ty front back seen words i d below is =
    ap (λ (n : ℕ). values_said ty back (map seen (drop n words))) (add-one i)
    ∙ sym (first ty front seen words i d below ∙ ap (λ (r : Result (List ℕ) FaultKind). r >>= λ bytes. values_said ty bytes (map seen (drop (suc i) words))) is)

pub loop-word-init : goal.loop-word-init
loop-word-init c = ap (λ (bytes : List ℕ). values_said c.args.ty bytes (map (λ word. word.now) c.args.words.now)) c.new-bytes.ensures.items

pub loop-word-preserved : goal.loop-word-preserved
loop-word-preserved c =
    afterwards c.args.ty c.loop-word.bytes.items c.push_value.new.bytes.items (λ word. word.now) c.args.words.now c.loop-word.word-index _ c.loop-word-test.true c.in_ok-push_value.ensures
    ∙ c.loop-word.invariant

pub returns-in_err-push_value : goal.returns-in_err-push_value
returns-in_err-push_value c =
    let words = c.args.words.now in
    let left = first c.args.ty c.loop-word.bytes.items (λ word. word.now) words c.loop-word.word-index (record { ref_ptr = (0, 0); now = [] }) c.loop-word-test.true in
    subst (λ (meant : Result (List ℕ) FaultKind). LineGives (λ bytes. bytes) c.from_residual.result meant) (sym left ∙ c.loop-word.invariant)
    (stops (λ bytes. bytes) _ c.from_residual.result _ (λ bytes. values_said c.args.ty bytes (map (λ word. word.now) (drop (suc c.loop-word.word-index) words))) c.from_residual.ensures.1 c.in_err-push_value.ensures)

pub returns : goal.returns
returns c =
    sym c.loop-word.invariant
    ∙ at_drop_all (λ (left : List _). values_said c.args.ty c.loop-word.bytes.items (map (λ word. word.now) left)) c.args.words.now c.loop-word.word-index c.loop-word-test.false
    ∙ ap Ok (sym c.from_vec.ensures)
