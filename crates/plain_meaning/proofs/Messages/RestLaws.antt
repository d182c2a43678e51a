-- What a run leaves behind, rank by rank.
use Rattle.std.proofs.Common.{◌≡◌, ℕ, ◌+◌, ◌<◌, ◌≤◌, List, [], ◌∷◌, ◌++◌, length, map, get_or, set, Option, None, sym, ap, ◌∙◌, arith}
use Rattle.std.specs.List.{range_with_len}
use Rattle.std.proofs.lemmas.List.{get_or_read, get_or-set_other}
use Rattle.std.proofs.lemmas.List.FromFn.{length-map-range_with_len, map-range_with_len_more}
use Rattle.script_machine.specs.declared.posts.Posted.{Posted}
use Rattle.plain_meaning.specs.Ends.{Ended, end_of_rank, ends_of}
use Rattle.plain_meaning.specs.Step.{Configuration}
use Rattle.script_machine.specs.Local.{Local, local_at, nobody}

-- what one rank more leaves behind
pub ends_more : (initial ues : List Local) (slots : List (Option Posted)) (before after : List Ended) (i : ℕ) (u : Local) (slot : Option Posted) (made : Ended) →
    before ≡ map (λ rank. end_of_rank (get_or slots rank None) (local_at initial rank)) (range_with_len 0 i) → ((k : ℕ) → i ≤ k → local_at ues k ≡ local_at initial k) → i < length ues → i < length slots
    → u ≡ get_or ues i u → slot ≡ get_or slots i slot → made ≡ end_of_rank slot (get_or ues i u) → after ≡ before ++ made ∷ [] → after ≡ map (λ rank. end_of_rank (get_or slots rank None) (local_at initial rank)) (range_with_len 0 (i + 1))
ends_more initial ues slots before after i u slot made was rest in_ues in_slots here there is now =
    let f : ℕ → Ended = λ rank. end_of_rank (get_or slots rank None) (local_at initial rank) in
    let one : made ≡ f i =
    is ∙ ap (λ (s : Option Posted). end_of_rank s (get_or ues i u)) (get_or_read slots i slot in_slots there None)
    ∙ ap (end_of_rank (get_or slots i None)) (sym here ∙ get_or_read ues i u in_ues here nobody ∙ rest i (omega arith)) in
    now ∙ ap (λ (l : List Ended). l ++ made ∷ []) was ∙ ap (λ (e : Ended). map f (range_with_len 0 i) ++ e ∷ []) one
    ∙ sym (map-range_with_len_more f 0 i i (omega arith))

-- the ranks behind it are as they were
pub rest_more : (initial ues : List Local) (i : ℕ) (v : Local) → ((k : ℕ) → i ≤ k → local_at ues k ≡ local_at initial k) → (k : ℕ) → i + 1 ≤ k → local_at (set ues i v) k ≡ local_at initial k
rest_more initial ues i v rest k above =
    get_or-set_other ues i k v nobody (λ same. omega (arith, same, above)) ∙ rest k (omega arith)

-- each rank leaves something behind
pub ends_length : (c : Configuration Local) → length (ends_of c.cells c.slots) ≡ length c.cells
ends_length c = length-map-range_with_len (λ (rank : ℕ). end_of_rank (get_or c.slots rank None) (local_at c.cells rank)) 0 (length c.cells)
