use Rattle.std.proofs.Common.{◌≡◌, ℕ, ◌<◌, ◌≤◌, ◌&&◌, List, length, codes, get_or, map, Option, None, refl, sym, ◌∙◌, ap}
use Rattle.std.specs.Str.{bytes_eq}
use Rattle.rcce_audit.specs.Grammar.{nue_of}
use Rattle.rcce_audit.specs.Words.{◌>>=◌, only_if, exact_range_said}
use Rattle.rcce_audit.proofs.ThreeWords.{SaysThree, of_few, of_many, of_three}
use Rattle.rcce_audit.proofs.lines.nue_of.Goals as goal

three_alone : SaysThree nue_of
three_alone = record { none = refl; one = λ a. refl; two = λ a b. refl; more = λ a b c d rest. refl }

no_number : {X : Type 0} (view : X → List ℕ) (d : X) (ws : List X) (number : Option ℕ) → 3 ≤ length ws → length ws < 4 → number ≡ exact_range_said 1 48 (view (get_or ws 2 d)) → number ≡ None → None ≡ nue_of (map view ws)
no_number view d ws number least most gives none =
    sym (ap (λ (o : Option ℕ). o >>= λ n. only_if (bytes_eq (view (get_or ws 0 d)) (codes "rcce") && bytes_eq (view (get_or ws 1 d)) (codes "log")) n) (sym gives ∙ none)) ∙ of_three nue_of view d ws least most

pub returns-in_err-nue-in-len3-clause-gives : goal.returns-in_err-nue-in-len3-clause-gives
returns-in_err-nue-in-len3-clause-gives c =
    c.from_residual.ensures
    ∙ no_number (λ word. word.now) _ c.args.words.now c.range_said.result c.in-len3.len_at_least c.in-len3.len_below c.range_said.ensures.gives c.in_err-nue-in-len3.was

pub returns-in_default-clause-gives : goal.returns-in_default-clause-gives
returns-in_default-clause-gives c = of_few nue_of (λ word. word.now) three_alone c.args.words.now c.in_default.len_below

pub returns-in_default-2-clause-gives : goal.returns-in_default-2-clause-gives
returns-in_default-2-clause-gives c = of_many nue_of (λ word. word.now) three_alone c.args.words.now c.in_default.len_at_least
