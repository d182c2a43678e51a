-- No run of a heap has a line exactly where none of its lines is free.
use Rattle.std.proofs.Common.{◌≡◌, ℕ, ◌+◌, Bool, true, false, List, [], ◌∷◌, Option, None, Some, Result, is_err, IsErr, nat_le, if◌then◌else◌, ◌↔◌, refl, sym, ◌∙◌, ap, arith}
use Rattle.std.proofs.lemmas.Bool.Decides.{nat_tests}
use Rattle.scc_base.specs.Places.{LineRun}
use Rattle.mpb_alloc.specs.declared.heap.Run.{Run}
use Rattle.mpb_alloc.specs.declared.heap.MallocFault.{MallocFault}
use Rattle.mpb_alloc.specs.Heaps.{lowest_fit, answer_by, answer_for, lines_in_runs, longest_of}

err_exactly : (o : Option Run) (longest : ℕ) → is_err (answer_by 1 longest o) ≡ true → o ≡ None
err_exactly None longest e = refl
err_exactly (Some r) longest e = absurd (cc)

pub none_fits : (free : List Run) → lines_in_runs free ≡ 0 → lowest_fit 1 free ≡ None
none_fits [] e = refl
none_fits (r ∷ rs) e =
    let small : nat_le 1 r.lines ≡ false = grind (arith, nat_tests) in
    let rest : lines_in_runs rs ≡ 0 = omega (arith, e) in
    (λ i. if small i then Some r else lowest_fit 1 rs) ∙ none_fits rs rest

pub no_line : (free : List Run) → lowest_fit 1 free ≡ None → lines_in_runs free ≡ 0
no_line [] e = refl
no_line (r ∷ rs) e = by (λ x. no_line rs x) (nat_le 1 r.lines) refl
  where
    by : (lowest_fit 1 rs ≡ None → lines_in_runs rs ≡ 0) → (b : Bool) → nat_le 1 r.lines ≡ b → r.lines + lines_in_runs rs ≡ 0
    by rest true t = let some : Some r ≡ None = sym (λ i. if t i then Some r else lowest_fit 1 rs) ∙ e in absurd (cc)
    by rest false t =
        let none = rest (sym (λ i. if t i then Some r else lowest_fit 1 rs) ∙ e) in
        let empty : r.lines ≡ 0 = grind (arith, nat_tests) in
        omega (arith, none, empty)

-- a line is refused exactly where none is free
pub refused : (free : List Run) (result : Result LineRun MallocFault) → result ≡ answer_for 1 free → IsErr result ↔ (lines_in_runs free ≡ 0)
refused free result e = (
  λ err. no_line free (err_exactly (lowest_fit 1 free) (longest_of free) (sym (ap is_err e) ∙ err)),
  λ none. ap is_err e ∙ ap (λ (o : Option Run). is_err (answer_by 1 (longest_of free) o)) (none_fits free none),
)
