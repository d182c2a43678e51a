-- The cores of ranks: each rank on a core of its own.
use Rattle.std.proofs.Common.{◌≡◌, ◌≢◌, ℕ, zero, suc, ◌+◌, ◌<◌, Bool, true, false, ◌==◌, if◌then◌else◌, List, length, set, Option, Some, refl, sym, ◌∙◌, ap, subst, add-one, arith}
use Rattle.std.specs.Prelude.{is_none}
use Rattle.std.proofs.lemmas.Bool.Decides.{nat_tests}
use Rattle.std.proofs.lemmas.List.{get_or-set_same, get_or-set_other}
use Rattle.scc_base.specs.Setups.{AreApart, host_of}
use Rattle.scc_proto.specs.Words.{rank_below}
use Rattle.scc_proto.proofs.Tests.{eqb_same, eqb_other, same_or_other}

-- none of the first ranks is on the core
step_none : (n : ℕ) (test : Bool) (rest : Option ℕ) → is_none (if test then Some n else rest) ≡ true → (test ≡ false) × (is_none rest ≡ true)
step_none n true rest is = absurd cc
step_none n false rest is = (refl, is)

pub none_below : (n : ℕ) (hosts : List ℕ) (core : ℕ) → is_none (rank_below n hosts core) ≡ true → (r : ℕ) → r < n → host_of hosts r ≡ core → ⊥
none_below zero hosts core none r below at = absurd (omega (arith, below))
none_below (suc n) hosts core none r below at =
    let both = step_none n (host_of hosts n == core) (rank_below n hosts core) none in
    same_or_other ⊥ r n
    (λ t is. absurd (grind (arith, nat_tests, both.0, at, is)))
    (λ t other. none_below n hosts core both.1 r (omega (arith, below, other)) at)

-- one rank more that is on another core
pub none_more : (n : ℕ) (hosts : List ℕ) (core : ℕ) → is_none (rank_below n hosts core) ≡ true → host_of hosts n ≢ core → is_none (rank_below (n + 1) hosts core) ≡ true
none_more n hosts core none other = subst (λ (k : ℕ). is_none (rank_below k hosts core) ≡ true) (sym (add-one n)) (ap (λ (test : Bool). is_none (if test then Some n else rank_below n hosts core)) (eqb_other (host_of hosts n) core other) ∙ none)

-- one of the first ranks is on the core
some_if_found : (n : ℕ) (test : Bool) (rest : Option ℕ) → is_none rest ≡ false → is_none (if test then Some n else rest) ≡ false
some_if_found n true rest is = refl
some_if_found n false rest is = is

pub some_below : (n : ℕ) (hosts : List ℕ) (core r : ℕ) → r < n → host_of hosts r ≡ core → is_none (rank_below n hosts core) ≡ false
some_below zero hosts core r below at = absurd (omega (arith, below))
some_below (suc n) hosts core r below at =
    same_or_other (is_none (rank_below (suc n) hosts core) ≡ false) r n
    (λ t is.
    let here : host_of hosts n ≡ core = ap (host_of hosts) (sym is) ∙ at in
    let test : (host_of hosts n == core) ≡ true = ap (λ (x : ℕ). x == core) here ∙ eqb_same core in
    ap (λ (b : Bool). is_none (if b then Some n else rank_below n hosts core)) test)
    (λ t other. some_if_found n (host_of hosts n == core) (rank_below n hosts core) (some_below n hosts core r (omega (arith, below, other)) at))

-- one rank more, on a core on which no earlier one is
pub apart_more : (n : ℕ) (hosts : List ℕ) (core : ℕ) → n < length hosts → AreApart n hosts → is_none (rank_below n hosts core) ≡ true → AreApart (n + 1) (set hosts n core)
apart_more n hosts core within apart none r q less below same =
    same_or_other ⊥ q n
    (λ t is.
    let low : r < n = omega (arith, less, is) in
    none_below n hosts core none r low (sym (there r low) ∙ same ∙ ap (host_of (set hosts n core)) is ∙ here))
    (λ t other.
    let low : q < n = omega (arith, below, other) in
    apart r q less low (sym (there r (omega (arith, less, low))) ∙ same ∙ there q low))
  where
    here : host_of (set hosts n core) n ≡ core
    here = get_or-set_same hosts n core 0 within

    there : (k : ℕ) → k < n → host_of (set hosts n core) k ≡ host_of hosts k
    there k low = get_or-set_other hosts n k core 0 (λ is. omega (arith, low, is))
