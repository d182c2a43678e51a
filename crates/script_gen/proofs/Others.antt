-- What the statements of other ranks leave to a rank: nothing.
use Rattle.std.proofs.Common.{◌≡◌, ℕ, ◌+◌, ◌*◌, ◌≤◌, Bool, true, false, cond, List, [], ◌∷◌, Option, Some, None, unwrap_or, refl, ◌∙◌, ap, arith}
use Rattle.std.specs.Option.{option_or}
use Rattle.std.proofs.lemmas.Bool.{cond-false}
use Rattle.script_rules.specs.declared.script.Item.{Item}
use Rattle.script_rules.specs.Checks.{length_at, open_of, bytes_printed, prints, run_of, set_by, sets_to, turns_in}
use Rattle.script_rules.specs.Effects.{effect_of}
use Rattle.script_rules.specs.Limits.{most_printed}
use Rattle.script_rules.specs.Script.{has_rank}

abbrev pub AreOthers : ℕ → List Item → Type 0
AreOthers rank [] = Unit {0}
AreOthers rank (item ∷ past) = AreOthers rank past × (has_rank item.who rank ≡ false)

pub others_none : (nue rank : ℕ) (past : List Item) → AreOthers rank past → (reg : ℕ) → length_at nue past rank reg ≡ None
others_none nue rank [] others reg = refl
others_none nue rank (item ∷ past) others reg =
    ap (λ (had : Option ℕ). option_or had (cond (has_rank item.who rank) (sets_to (set_by (run_of nue past) (length_at nue past rank) (effect_of item.stmt) rank) reg) None))
    (others_none nue rank past others.0 reg)
    ∙ cond-false _ _ _ others.1

pub others_shown : (nue rank : ℕ) (past : List Item) → AreOthers rank past → bytes_printed nue past rank ≡ 0
others_shown nue rank [] others = refl
others_shown nue rank (item ∷ past) others =
    ap (λ (n : ℕ). n + cond (has_rank item.who rank) (turns_in (open_of past) * prints (length_at nue past rank) (effect_of item.stmt)) 0) (others_shown nue rank past others.0)
    ∙ ap (λ (b : Bool). 0 + cond b (turns_in (open_of past) * prints (length_at nue past rank) (effect_of item.stmt)) 0) others.1

-- a statement that prints nothing
no_part : (b : Bool) (n t : ℕ) → n + cond b (t * 0) 0 ≡ n
no_part true n t = omega arith
no_part false n t = omega arith

pub silent : (nue rank : ℕ) (past : List Item) (item : Item) → prints (length_at nue past rank) (effect_of item.stmt) ≡ 0 → bytes_printed nue (item ∷ past) rank ≡ bytes_printed nue past rank
silent nue rank past item none =
    ap (λ (n : ℕ). bytes_printed nue past rank + cond (has_rank item.who rank) (turns_in (open_of past) * n) 0) none
    ∙ no_part (has_rank item.who rank) (bytes_printed nue past rank) (turns_in (open_of past))

pub still_within : (n t : ℕ) → n ≡ 0 → n + t * 0 ≤ most_printed
still_within n t none = omega (arith, none)

-- a statement that prints a register outside of all repeats
prints_at : (t : ℕ) (had : Option ℕ) (len : ℕ) → t ≡ 1 → had ≡ Some len → t * unwrap_or had 0 ≡ len
prints_at t had len one is = ap (λ (k : ℕ). k * unwrap_or had 0) one ∙ ap (λ (o : Option ℕ). 1 * unwrap_or o 0) is ∙ omega arith

sum_within : (n x m len : ℕ) → n ≤ m → x ≡ len → m + len ≤ most_printed → n + x ≤ most_printed
sum_within n x m len low is within = omega (arith, low, is, within)

pub print_within : (n t : ℕ) (had : Option ℕ) (m len : ℕ) → n ≤ m → t ≡ 1 → had ≡ Some len → m + len ≤ most_printed → n + t * unwrap_or had 0 ≤ most_printed
print_within n t had m len low one is within = sum_within n (t * unwrap_or had 0) m len low (prints_at t had len one is) within

at_most : (b : Bool) (n x m len k : ℕ) → n ≤ m → x ≡ len → m + len ≡ k → n + cond b x 0 ≤ k
at_most true n x m len k low is sum = omega (arith, low, is, sum)
at_most false n x m len k low is sum = omega (arith, low, sum)

pub print_more : (b : Bool) (n t : ℕ) (had : Option ℕ) (m len k : ℕ) → n ≤ m → t ≡ 1 → had ≡ Some len → m + len ≡ k → n + cond b (t * unwrap_or had 0) 0 ≤ k
print_more b n t had m len k low one is sum = at_most b n (t * unwrap_or had 0) m len k low (prints_at t had len one is) sum
