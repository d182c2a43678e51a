-- Values that are sent many at a time.
use Rattle.std.proofs.Common.{◌≡◌, ℕ, zero, suc, ◌+◌, ◌-◌, ◌*◌, ◌≤◌, List, ◌++◌, length, take, drop, ap, refl, sym, ◌∙◌, append_assoc, arith}
use Rattle.std.proofs.lemmas.List.{drop_all, take_rest}
use Rattle.groups.specs.declared.operations.Ty.{Ty}
use Rattle.groups.specs.Folds.{bytes_in, typed_value_at, value_of}
use Rattle.run_program.specs.Texts.{value_text, values_text_from}

-- a value, by its bytes
pub value_here : (ty : Ty) (bytes : List ℕ) (i at k : ℕ) → at ≡ i * bytes_in ty → k ≡ bytes_in ty →
    value_of ty (take k (drop at bytes)) ≡ typed_value_at ty bytes i
value_here ty bytes i at k start wide =
    ap (λ (n : ℕ). value_of ty (take n (drop at bytes))) wide ∙ ap (λ (n : ℕ). value_of ty (take (bytes_in ty) (drop n bytes))) start

-- values, and one more in front of them
pub values-back : (ty : Ty) (bytes : List ℕ) (i j n m : ℕ) → j + 1 ≡ i → m ≡ n + 1 →
    values_text_from ty bytes j m ≡ value_text ty bytes j ++ values_text_from ty bytes i n
values-back ty bytes i j n m next more =
    let one : m ≡ suc n = omega (arith, more) in
    ap (λ (k : ℕ). values_text_from ty bytes j k) one
    ∙ ap (λ (k : ℕ). value_text ty bytes j ++ values_text_from ty bytes k n) next

-- values, and those behind them
pub values-apart : (ty : Ty) (bytes : List ℕ) (first a b last n : ℕ) → first + a ≡ last → n ≡ a + b →
    values_text_from ty bytes first n ≡ values_text_from ty bytes first a ++ values_text_from ty bytes last b
values-apart ty bytes first zero b last n at all =
    let here : first ≡ last = omega (arith, at) in
    let rest : n ≡ b = omega (arith, all) in
    ap (λ (k : ℕ). values_text_from ty bytes first k) rest ∙ ap (λ (k : ℕ). values_text_from ty bytes k b) here
values-apart ty bytes first (suc a) b last n at all =
    let more : n ≡ suc (a + b) = omega (arith, all) in
    ap (λ (k : ℕ). values_text_from ty bytes first k) more
    ∙ ap (λ (t : List ℕ). value_text ty bytes first ++ t) (values-apart ty bytes (first + 1) a b last (a + b) (omega (arith, at)) refl)
    ∙ sym (append_assoc (value_text ty bytes first) (values_text_from ty bytes (first + 1) a) (values_text_from ty bytes last b))

-- the first values, and some more
pub values-more : (ty : Ty) (bytes : List ℕ) (from to : ℕ) → from ≤ to →
    values_text_from ty bytes 0 to ≡ values_text_from ty bytes 0 from ++ values_text_from ty bytes from (to - from)
values-more ty bytes from to ordered = values-apart ty bytes 0 from (to - from) from to (omega arith) (omega (arith, ordered))

-- the first values, some more and the rest
pub values-parts : (ty : Ty) (bytes : List ℕ) (from to n : ℕ) → from ≤ to → to ≤ n →
    values_text_from ty bytes 0 n
    ≡ values_text_from ty bytes 0 from ++ (values_text_from ty bytes from (to - from) ++ values_text_from ty bytes to (n - to))
values-parts ty bytes from to n ordered within =
    values-apart ty bytes 0 from (n - from) from n (omega arith) (omega (arith, ordered, within))
    ∙ ap (λ (t : List ℕ). values_text_from ty bytes 0 from ++ t)
    (values-apart ty bytes from (to - from) (n - to) to (n - from) (omega (arith, ordered)) (omega (arith, ordered, within)))

-- no value yet, at the end of a text
pub values-none : (ty : Ty) (bytes : List ℕ) (to at : ℕ) (text : List ℕ) → length text ≤ at →
    drop at text ≡ values_text_from ty bytes to (to - to)
values-none ty bytes to at text end =
    let none : to - to ≡ 0 = omega arith in
    drop_all at text end ∙ sym (ap (λ (n : ℕ). values_text_from ty bytes to n) none)

-- the rest of a text that is so long
pub rest_of : (n at : ℕ) (text : List ℕ) → length text ≡ n → take (n - at) (drop at text) ≡ drop at text
rest_of n at text long = ap (λ (m : ℕ). take (m - at) (drop at text)) (sym long) ∙ take_rest text at
