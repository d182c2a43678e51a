-- How looks and takes count as tries.
use Rattle.std.proofs.Common.{◌≡◌, ℕ, zero, suc, ◌+◌, ◌<◌, Bool, true, false, ◌&&◌, ◌==◌, if◌then◌else◌, List, [], ◌∷◌, ◌++◌, Option, length, slice_index, refl, ◌∙◌, ap, arith}
use Rattle.scc_base.specs.Places.{WordAt, line_of_word}
use Rattle.scc_base.specs.declared.events.Event.{Event}
use Rattle.scc_proto.specs.Words.{is_at}
use Rattle.scc_proto.proofs.Tests.{eqb_same}
use Rattle.put_get.specs.Accesses.{loads_of}
use Rattle.sync_flags.specs.Flags.{is_set_in}
use Rattle.sync_flags.specs.Tries.{AtFlag, is_unwanted, failed_from}
use Rattle.sync_flags.specs.Looks.{HaveFailed, looks_of}

-- a word of the flag's line is the flag's word where it has its number
at_word : (p : WordAt) (k : ℕ) → is_at p p.core p.line k ≡ (k == p.word)
at_word p k = λ i. eqb_same p.core i && (eqb_same p.line i && (k == p.word))

-- the count after one load of the line
counted : Bool → Bool → ℕ → ℕ
counted at failed n = if at then (if failed then suc n else 0) else n

picked : (failed : ℕ → Bool) (n w : ℕ) → w < 4
    → counted (3 == w) (failed 3) (counted (2 == w) (failed 2) (counted (1 == w) (failed 1) (counted (0 == w) (failed 0) n))) ≡ counted true (failed w) n
unfolding counted
picked failed n zero lt = refl
picked failed n (suc zero) lt = refl
picked failed n (suc (suc zero)) lt = refl
picked failed n (suc (suc (suc zero))) lt = refl
picked failed n (suc (suc (suc (suc w)))) lt = absurd (omega (arith, lt))

-- a look is one try
pub look_counts : (p : WordAt) (bit : Option ℕ) (want : Bool) (n : ℕ) (words : List ℕ) (es : List Event) → p.word < 4
    → failed_from (AtFlag p bit want) false n (loads_of (line_of_word p) words ++ es)
    ≡ failed_from (AtFlag p bit want) false (if is_unwanted want (is_set_in bit (slice_index words p.word)) then suc n else 0) es
unfolding counted
look_counts p bit want n words es lt =
    let failed : ℕ → Bool = λ k. is_unwanted want (is_set_in bit (slice_index words k)) in
    let aim = AtFlag p bit want in
    (λ i. failed_from aim false
    (counted (at_word p 3 i) (failed 3) (counted (at_word p 2 i) (failed 2) (counted (at_word p 1 i) (failed 1) (counted (at_word p 0 i) (failed 0) n)))) es)
    ∙ ap (λ (m : ℕ). failed_from aim false m es) (picked failed n p.word lt)

add_more : (n m : ℕ) → suc n + m ≡ n + suc m
add_more n m = omega arith

-- vain looks are so many vain tries in a row
pub looks_count : (p : WordAt) (bit : Option ℕ) (want : Bool) (n : ℕ) (looks : List (List ℕ)) (es : List Event) → p.word < 4
    → HaveFailed p bit want looks
    → failed_from (AtFlag p bit want) false n (looks_of (line_of_word p) looks ++ es) ≡ failed_from (AtFlag p bit want) false (n + length looks) es
looks_count p bit want n [] es lt failed = let none : n ≡ n + 0 = omega arith in ap (λ (m : ℕ). failed_from (AtFlag p bit want) false m es) none
looks_count p bit want n (words ∷ rest) es lt failed =
    look_counts p bit want n words (looks_of (line_of_word p) rest ++ es) lt
    ∙ ap (λ (b : Bool). failed_from (AtFlag p bit want) false (if b then suc n else 0) (looks_of (line_of_word p) rest ++ es)) failed.0
    ∙ looks_count p bit want (suc n) rest es lt failed.1
    ∙ ap (λ (m : ℕ). failed_from (AtFlag p bit want) false m es) (add_more n (length rest))
