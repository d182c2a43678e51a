-- The lines of ranks that have got the same are the same.
use Rattle.std.proofs.Common.{◌≡◌, ℕ, zero, suc, ◌+◌, ◌*◌, ◌<◌, ◌≤◌, List, [], ◌∷◌, ◌++◌, map, flat_map, Some, slice_get, slice_index_or, length, refl, ap, arith}
use Rattle.std.specs.List.{range_with_len}
use Rattle.rcce_io.specs.Sending.{joined_texts}
use Rattle.coll_more.specs.Ops.{window}
use Rattle.coll_more.specs.Pieces.{all_of, pieces_for, root_has}
use Rattle.coll_more.specs.declared.kinds.More.{More}
use Rattle.coll_more.specs.declared.kinds.More.TheVariants.{Gather, Scatter, Allgather, Alltoall}
use Rattle.coll_run.specs.Teams.{MemberView}
use Rattle.coll_program.specs.Pieces.{dst_at, dst_of}
use Rattle.coll_program.specs.Texts.{got_line, lines_by, shown_of}

module _ (more : More) (f g : ℕ → List ℕ) where
  lines_from : (a n : ℕ) → ((k : ℕ) → a ≤ k → k < a + n → f k ≡ g k) → joined_texts (map (λ rank. got_line more rank (f rank)) (range_with_len a n)) ≡ joined_texts (map (λ rank. got_line more rank (g rank)) (range_with_len a n))
  lines_from a zero same = refl
  lines_from a (suc n) same = λ i. got_line more a (same a (omega arith) (omega arith) i) ++ lines_from (a + 1) n (λ k low less. same k (omega (arith, low)) (omega (arith, less))) i

shown_within : (more : More) (nue : ℕ) → 1 ≤ nue → shown_of more nue ≤ nue
shown_within Gather nue some = some
shown_within Scatter nue some = omega arith
shown_within Allgather nue some = omega arith
shown_within Alltoall nue some = omega arith

pub lines_same : (more : More) (nue : ℕ) (f g : ℕ → List ℕ) → 1 ≤ nue → ((k : ℕ) → k < nue → f k ≡ g k) → lines_by more nue f ≡ lines_by more nue g
lines_same more nue f g some same =
    lines_from more f g 0 (shown_of more nue) (λ k low less. same k (let within = shown_within more nue some in omega (arith, within, less)))

-- pieces of the same bytes are the same
module _ (f g : ℕ → List ℕ) where
  all_from : (a n : ℕ) → ((k : ℕ) → a ≤ k → k < a + n → f k ≡ g k) → flat_map f (range_with_len a n) ≡ flat_map g (range_with_len a n)
  all_from a zero same = refl
  all_from a (suc n) same = λ i. same a (omega arith) (omega arith) i ++ all_from (a + 1) n (λ k low less. same k (omega (arith, low)) (omega (arith, less))) i

  all_same : (nue : ℕ) → ((k : ℕ) → k < nue → f k ≡ g k) → all_of nue f ≡ all_of nue g
  all_same nue same = all_from 0 nue (λ k low less. same k (omega (arith, less)))

pub pieces_same : (more : More) (nue len : ℕ) (f g : ℕ → List ℕ) (rank : ℕ) → 1 ≤ nue → ((k : ℕ) → k < nue → f k ≡ g k) → pieces_for more nue len f rank ≡ pieces_for more nue len g rank
pieces_same Gather nue len f g rank some same = ap (root_has rank) (all_same f g nue same)
pieces_same Scatter nue len f g rank some same = ap (window (rank * len) len) (same 0 (omega (arith, some)))
pieces_same Allgather nue len f g rank some same = all_same f g nue same
pieces_same Alltoall nue len f g rank some same =
    all_same (λ k. window (rank * len) len (f k)) (λ k. window (rank * len) len (g k)) nue (λ k low. ap (window (rank * len) len) (same k low))

-- what a rank of a team has got
get_is : (xs : List MemberView) (k : ℕ) (d : MemberView) → k < length xs → slice_get xs k ≡ Some (slice_index_or xs k d)
get_is [] k d less = absurd (omega (arith, less))
get_is (x ∷ xs) zero d less = refl
get_is (x ∷ xs) (suc k) d less = get_is xs k d (omega (arith, less))

pub dst_is : (team : List MemberView) (k : ℕ) (d : MemberView) → k < length team → dst_at team k ≡ (slice_index_or team k d).dst
dst_is team k d less = ap dst_of (get_is team k d less)

-- how many ranks have a line
pub shown_some : (more : More) (nue at : ℕ) → 1 ≤ nue → at < shown_of more nue → at < nue
shown_some more nue at some less = let within = shown_within more nue some in omega (arith, within, less)
