-- All ranks make the messages of a collective call in one order, and each message stands in the tables of both its ranks.
use Rattle.std.proofs.Common.{◌≡◌, ◌⊎◌, inl, inr, ⊎_elim, ℕ, zero, suc, ◌+◌, ◌-◌, ◌*◌, ◌/◌, ◌%◌, ◌<◌, ◌≤◌, ◌==◌, Bool, true, false, not, nat_lt, if◌then◌else◌, List, [], ◌∷◌, ◌++◌, length, Option, Some, None, slice_get, refl, sym, ap, ◌∙◌, subst, arith}
use Rattle.std.proofs.lemmas.Bool.{cases_lt}
use Rattle.std.proofs.lemmas.Bool.Decides.{nat_tests}
use Rattle.coll_more.specs.Ops.{is_taking}
use Rattle.coll_more.specs.Tables.{alltoall_calls, piece_calls, for_each, gather_calls, gives, gives_piece, gives_then_takes, rooted_calls, scatter_calls, shares, spread_calls, takes, takes_piece, takes_then_gives}
use Rattle.coll_more.specs.declared.kinds.More.{More}
use Rattle.coll_more.specs.declared.kinds.More.TheVariants.{Gather, Scatter, Allgather, Alltoall}
use Rattle.coll_more.specs.declared.kinds.PieceCall.{PieceCall}
use Rattle.coll_more.specs.declared.kinds.Way.{Way}
use Rattle.coll_more.specs.declared.kinds.Way.TheVariants.{Gives, Takes}
use Rattle.coll_more.proofs.ListLemmas.{get_after, some_same}
use Rattle.coll_more.proofs.TableLemmas.{high_pair, low_pair, pairs_end, root_at, root_none}
use Rattle.coll_run.specs.Order.{IsOtherSide, delay, number_at, message_number}

-- ---- numbers

lt_true : (a b : ℕ) → a < b → nat_lt a b ≡ true
lt_true a b below = grind (arith, nat_tests)

lt_false : (a b : ℕ) → b ≤ a → nat_lt a b ≡ false
lt_false a b past = grind (arith, nat_tests)

up : (more : More) (nue from to : ℕ) → from < to → message_number more nue from to ≡ 2 * (from + to) + delay more nue
up more nue from to less = ap (λ (b : Bool). 2 * (from + to) + (if b then delay more nue else 1)) (lt_true from to less)

down : (more : More) (nue from to : ℕ) → to ≤ from → message_number more nue from to ≡ 2 * (from + to) + 1
down more nue from to past = ap (λ (b : Bool). 2 * (from + to) + (if b then delay more nue else 1)) (lt_false from to past)

-- ---- lists whose numbers rise

-- from one number on, and below another one
abbrev Rises : (PieceCall → ℕ) → (low : ℕ) → List PieceCall → (high : ℕ) → Type 0
Rises number low [] high = low ≤ high
Rises number low (c ∷ cs) high = (low ≤ number c) × Rises number (suc (number c)) cs high

module _ (number : PieceCall → ℕ) where
  lower : (a b high : ℕ) (xs : List PieceCall) → b ≤ a → Rises number a xs high → Rises number b xs high
  lower a b high [] le up = omega (arith, le, up)
  lower a b high (c ∷ cs) le up = (let first = up.0 in omega (arith, le, first), up.1)

  joined : (low mid high : ℕ) (xs ys : List PieceCall) → Rises number low xs mid → Rises number mid ys high → Rises number low (xs ++ ys) high
  joined low mid high [] ys one two = lower mid low high ys one two
  joined low mid high (c ∷ cs) ys one two = (one.0, joined (suc (number c)) mid high cs ys one.1 two)

  each : (calls : ℕ → List PieceCall) (f : ℕ → ℕ) (a n : ℕ) → ((p : ℕ) → a ≤ p → p < a + n → Rises number (f p) (calls p) (f (p + 1))) → Rises number (f a) (for_each calls a n) (f (a + n))
  each calls f a zero all = let same : a ≡ a + 0 = omega arith in let le : f a ≤ f a = omega arith in subst (λ (x : ℕ). f a ≤ f x) same le
  each calls f a (suc n) all =
      let same : a + 1 + n ≡ a + suc n = omega arith in
      joined (f a) (f (a + 1)) (f (a + suc n)) (calls a) (for_each calls (a + 1) n) (all a (omega arith) (omega arith))
      (subst (λ (x : ℕ). Rises number (f (a + 1)) (for_each calls (a + 1) n) (f x)) same
      (each calls f (a + 1) n (λ p low less. all p (omega (arith, low)) (omega (arith, less)))))

  above : (low high i : ℕ) (xs : List PieceCall) (c : PieceCall) → Rises number low xs high → slice_get xs i ≡ Some c → low ≤ number c
  above low high i [] c rise at = absurd (cc)
  above low high zero (d ∷ ds) c rise at = subst (λ (x : PieceCall). low ≤ number x) (some_same d c at) rise.0
  above low high (suc i) (d ∷ ds) c rise at =
      let first = rise.0 in
      let rest = above (suc (number d)) high i ds c rise.1 at in
      omega (arith, first, rest)

  apart : (low high i j : ℕ) (xs : List PieceCall) (c d : PieceCall) → Rises number low xs high → i < j → slice_get xs i ≡ Some c → slice_get xs j ≡ Some d → number c < number d
  apart low high i j [] c d rise less one two = absurd (cc)
  apart low high i zero (x ∷ xs) c d rise less one two = absurd (omega (arith, less))
  apart low high zero (suc j) (x ∷ xs) c d rise less one two =
      let rest : suc (number x) ≤ number d = above (suc (number x)) high j xs d rise.1 two in
      let here : number x < number d = omega (arith, rest) in
      subst (λ (y : PieceCall). number y < number d) (some_same x c one) here
  apart low high (suc i) (suc j) (x ∷ xs) c d rise less one two = apart (suc (number x)) high i j xs c d rise.1 (omega (arith, less)) one two

-- ---- the tables

module _ (nue len : ℕ) where
  gather_rises : (more : More) (rank : ℕ) → rank < nue → Rises (number_at more nue rank) 0 (gather_calls rank nue len) (2 * nue + 1)
  gather_rises more zero low =
      let high : 2 * (1 + (nue - 1)) + 1 ≡ 2 * nue + 1 = omega (arith, low) in
      lower (number_at more nue 0) 3 0 (2 * nue + 1) (for_each (takes_piece len) 1 (nue - 1)) (omega arith)
      (subst (λ (h : ℕ). Rises (number_at more nue 0) 3 (for_each (takes_piece len) 1 (nue - 1)) h) high
      (each (number_at more nue 0) (takes_piece len) (λ p. 2 * p + 1) 1 (nue - 1)
      (λ p some less. let is = down more nue p 0 (omega arith) in (omega (arith, is), omega (arith, is)))))
  gather_rises more (suc r) low = let is = down more nue (suc r) 0 (omega arith) in (omega arith, omega (arith, is, low))

  scatter_rises : (rank : ℕ) → rank < nue → Rises (number_at Scatter nue rank) 0 (scatter_calls rank nue len) (2 * nue)
  scatter_rises zero low =
      let high : 2 * (1 + (nue - 1)) ≡ 2 * nue = omega (arith, low) in
      lower (number_at Scatter nue 0) 2 0 (2 * nue) (for_each (gives_piece len) 1 (nue - 1)) (omega arith)
      (subst (λ (h : ℕ). Rises (number_at Scatter nue 0) 2 (for_each (gives_piece len) 1 (nue - 1)) h) high
      (each (number_at Scatter nue 0) (gives_piece len) (λ p. 2 * p) 1 (nue - 1)
      (λ p some less. let is = up Scatter nue 0 p (omega (arith, some)) in (omega (arith, is), omega (arith, is)))))
  scatter_rises (suc r) low = let is = up Scatter nue 0 (suc r) (omega arith) in (omega arith, omega (arith, is, low))

  spread_rises : (rank : ℕ) → rank < nue → Rises (number_at Allgather nue rank) (2 * nue + 1) (spread_calls rank nue len) (4 * nue)
  spread_rises zero low =
      let high : 2 * (1 + (nue - 1)) + 2 * nue ≡ 4 * nue = omega (arith, low) in
      lower (number_at Allgather nue 0) (2 + 2 * nue) (2 * nue + 1) (4 * nue) (for_each (λ p. shares p 0 (nue * len) ∷ []) 1 (nue - 1)) (omega arith)
      (subst (λ (h : ℕ). Rises (number_at Allgather nue 0) (2 + 2 * nue) (for_each (λ p. shares p 0 (nue * len) ∷ []) 1 (nue - 1)) h) high
      (each (number_at Allgather nue 0) (λ p. shares p 0 (nue * len) ∷ []) (λ p. 2 * p + 2 * nue) 1 (nue - 1)
      (λ p some less. let is = up Allgather nue 0 p (omega (arith, some)) in (omega (arith, is), omega (arith, is)))))
  spread_rises (suc r) low = let is = up Allgather nue 0 (suc r) (omega arith) in (omega (arith, is), omega (arith, is, low))

  alltoall_rises : (rank : ℕ) → rank < nue → Rises (number_at Alltoall nue rank) 0 (alltoall_calls rank nue len) (2 * (nue + rank))
  alltoall_rises rank low =
      let high : 2 * (rank + 1 + (nue - (rank + 1)) + rank) ≡ 2 * (nue + rank) = omega (arith, low) in
      let first : 2 * (0 + rank + rank) ≡ 2 * (rank + rank) = omega arith in
      joined (number_at Alltoall nue rank) 0 (2 * (rank + rank)) (2 * (nue + rank)) (for_each (takes_then_gives len) 0 rank) (for_each (gives_then_takes len) (rank + 1) (nue - (rank + 1)))
      (lower (number_at Alltoall nue rank) (2 * (0 + rank)) 0 (2 * (rank + rank)) (for_each (takes_then_gives len) 0 rank) (omega arith)
      (subst (λ (h : ℕ). Rises (number_at Alltoall nue rank) (2 * (0 + rank)) (for_each (takes_then_gives len) 0 rank) h) first
      (each (number_at Alltoall nue rank) (takes_then_gives len) (λ p. 2 * (p + rank)) 0 rank
      (λ p some less.
      let one = up Alltoall nue p rank (omega (arith, less)) in
      let two = down Alltoall nue rank p (omega (arith, less)) in
      (omega (arith, one), (omega (arith, one, two), omega (arith, two)))))))
      (lower (number_at Alltoall nue rank) (2 * (rank + 1 + rank)) (2 * (rank + rank)) (2 * (nue + rank)) (for_each (gives_then_takes len) (rank + 1) (nue - (rank + 1))) (omega arith)
      (subst (λ (h : ℕ). Rises (number_at Alltoall nue rank) (2 * (rank + 1 + rank)) (for_each (gives_then_takes len) (rank + 1) (nue - (rank + 1))) h) high
      (each (number_at Alltoall nue rank) (gives_then_takes len) (λ p. 2 * (p + rank)) (rank + 1) (nue - (rank + 1))
      (λ p some less.
      let one = up Alltoall nue rank p (omega (arith, some)) in
      let two = down Alltoall nue p rank (omega (arith, some)) in
      (omega (arith, one), (omega (arith, one, two), omega (arith, two)))))))

-- at each rank the numbers of its messages rise
pub rises : (more : More) (nue len rank i j : ℕ) (one other : PieceCall) → rank < nue → i < j → slice_get (piece_calls more rank nue len) i ≡ Some one → slice_get (piece_calls more rank nue len) j ≡ Some other
    → number_at more nue rank one < number_at more nue rank other
rises Gather nue len rank i j one other low less first second = apart (number_at Gather nue rank) 0 (2 * nue + 1) i j (gather_calls rank nue len) one other (gather_rises nue len Gather rank low) less first second
rises Scatter nue len rank i j one other low less first second = apart (number_at Scatter nue rank) 0 (2 * nue) i j (scatter_calls rank nue len) one other (scatter_rises nue len rank low) less first second
rises Allgather nue len rank i j one other low less first second =
    apart (number_at Allgather nue rank) 0 (4 * nue) i j (gather_calls rank nue len ++ spread_calls rank nue len) one other
    (joined (number_at Allgather nue rank) 0 (2 * nue + 1) (4 * nue) (gather_calls rank nue len) (spread_calls rank nue len) (gather_rises nue len Allgather rank low) (spread_rises nue len rank low))
    less first second
rises Alltoall nue len rank i j one other low less first second = apart (number_at Alltoall nue rank) 0 (2 * (nue + rank)) i j (alltoall_calls rank nue len) one other (alltoall_rises nue len rank low) less first second

-- ---- both sides of a message

-- the message stands in the table of its other rank
abbrev Mirrored : (ℕ → List PieceCall) → (rank : ℕ) → PieceCall → Type 0
Mirrored calls rank one = (j : ℕ) × (other : PieceCall) × (slice_get (calls one.peer) j ≡ Some other) × IsOtherSide rank one other

-- a message of two lists stands in one of them, and the other way round
in_one : (xs ys : List PieceCall) (i : ℕ) (x : PieceCall) → slice_get (xs ++ ys) i ≡ Some x → (slice_get xs i ≡ Some x) ⊎ ((k : ℕ) × (slice_get ys k ≡ Some x))
in_one [] ys i x at = inr (i, at)
in_one (y ∷ xs) ys zero x at = inl at
in_one (y ∷ xs) ys (suc i) x at = in_one xs ys i x at

in_front : (xs ys : List PieceCall) (i : ℕ) (x : PieceCall) → slice_get xs i ≡ Some x → slice_get (xs ++ ys) i ≡ Some x
in_front [] ys i x at = absurd (cc)
in_front (y ∷ xs) ys zero x at = at
in_front (y ∷ xs) ys (suc i) x at = in_front xs ys i x at

none_there : (x : PieceCall) (o : Option PieceCall) → o ≡ None → o ≡ Some x → ⊥
none_there x o none some = cc (none, some)

module _ (nue len : ℕ) where
  module _ (root : ℕ → PieceCall) (up_call : PieceCall) (far : (p : ℕ) → (root p).peer ≡ p) (near : up_call.peer ≡ 0) (other_way : (p : ℕ) → is_taking up_call.way ≡ not (is_taking (root p).way))
      (back : (p : ℕ) → is_taking (root p).way ≡ not (is_taking up_call.way)) (long : (p : ℕ) → up_call.len ≡ (root p).len) where
    abbrev table : ℕ → List PieceCall
    table rank = rooted_calls rank (for_each (λ p. root p ∷ []) 1 (nue - 1)) up_call

    -- of the root's messages with each other rank, and that rank's one with the root
    root_mirrored : (rank i : ℕ) (one : PieceCall) → rank < nue → slice_get (table rank) i ≡ Some one → Mirrored table rank one
    root_mirrored zero i one low at =
        ⊎_elim
        (λ (less : i < nue - 1).
        let is : root (i + 1) ≡ one = some_same (root (i + 1)) one (sym (root_at root up_call 0 (nue - 1) i refl less) ∙ at) in
        subst (λ (c : PieceCall). Mirrored table 0 c) is (
          0,
          up_call,
          subst (λ (r : ℕ). slice_get (table r) 0 ≡ Some up_call) (let more : i + 1 ≡ suc i = omega arith in sym (far (i + 1) ∙ more)) refl,
          record { peer = near; way = other_way (i + 1); len = long (i + 1) },
        ))
        (λ (past : nue - 1 ≤ i). absurd (none_there one (slice_get (table 0) i) (root_none root up_call 0 (nue - 1) i refl past) at))
        (cases_lt i (nue - 1))
    root_mirrored (suc r) zero one low at =
        subst (λ (c : PieceCall). Mirrored table (suc r) c) (some_same up_call one at) (
          r,
          root (r + 1),
          subst (λ (k : ℕ). slice_get (table k) r ≡ Some (root (r + 1))) (sym near) (root_at root up_call 0 (nue - 1) r refl (omega (arith, low))),
          record { peer = (let more : r + 1 ≡ suc r = omega arith in far (r + 1) ∙ more); way = back (r + 1); len = sym (long (r + 1)) },
        )
    root_mirrored (suc r) (suc i) one low at = absurd (cc)

  gather_mirrored : (rank i : ℕ) (one : PieceCall) → rank < nue → slice_get (gather_calls rank nue len) i ≡ Some one → Mirrored (λ r. gather_calls r nue len) rank one
  gather_mirrored rank i one low at = root_mirrored (λ p. takes p (p * len) len) (gives 0 0 len) (λ p. refl) refl (λ p. refl) (λ p. refl) (λ p. refl) rank i one low at

  scatter_mirrored : (rank i : ℕ) (one : PieceCall) → rank < nue → slice_get (scatter_calls rank nue len) i ≡ Some one → Mirrored (λ r. scatter_calls r nue len) rank one
  scatter_mirrored rank i one low at = root_mirrored (λ p. gives p (p * len) len) (takes 0 0 len) (λ p. refl) refl (λ p. refl) (λ p. refl) (λ p. refl) rank i one low at

  spread_mirrored : (rank i : ℕ) (one : PieceCall) → rank < nue → slice_get (spread_calls rank nue len) i ≡ Some one → Mirrored (λ r. spread_calls r nue len) rank one
  spread_mirrored rank i one low at = root_mirrored (λ p. shares p 0 (nue * len)) (takes 0 0 (nue * len)) (λ p. refl) refl (λ p. refl) (λ p. refl) (λ p. refl) rank i one low at

  allgather_mirrored : (rank i : ℕ) (one : PieceCall) → rank < nue → slice_get (piece_calls Allgather rank nue len) i ≡ Some one → Mirrored (λ r. piece_calls Allgather r nue len) rank one
  allgather_mirrored rank i one low at =
      ⊎_elim
      (λ (front : slice_get (gather_calls rank nue len) i ≡ Some one).
      let (j, other, there, is) = gather_mirrored rank i one low front in
      (j, other, in_front (gather_calls one.peer nue len) (spread_calls one.peer nue len) j other there, is))
      (λ (afterwards : (k : ℕ) × (slice_get (spread_calls rank nue len) k ≡ Some one)).
      let (j, other, there, is) = spread_mirrored rank afterwards.0 one low afterwards.1 in
      (length (gather_calls one.peer nue len) + j, other, get_after (gather_calls one.peer nue len) (spread_calls one.peer nue len) (length (gather_calls one.peer nue len) + j) j refl ∙ there, is))
      (in_one (gather_calls rank nue len) (spread_calls rank nue len) i one at)

  -- a pair of an alltoall
  abbrev piece : Way → ℕ → PieceCall
  piece way p = record { peer = p; way = way; first = p * len; len = len }

  test_even : (k n : ℕ) → k % 2 ≡ n % 2 → (one other : Way) → (if k % 2 == 0 then one else other) ≡ (if n % 2 == 0 then one else other)
  test_even k n same one other = ap (λ (x : ℕ). if x == 0 then one else other) same

  turned : (b : Bool) (one other : Way) → is_taking one ≡ not (is_taking other) → is_taking other ≡ not (is_taking one) → is_taking (if b then other else one) ≡ not (is_taking (if b then one else other))
  turned true one other first second = second
  turned false one other first second = first

  alltoall_mirrored : (rank i : ℕ) (one : PieceCall) → rank < nue → slice_get (alltoall_calls rank nue len) i ≡ Some one → Mirrored (λ r. alltoall_calls r nue len) rank one
  alltoall_mirrored rank i one low at =
      ⊎_elim
      (λ (less : i / 2 < rank).
      let k : ℕ = 2 * (rank - 1) + i % 2 in
      let half : (2 * (rank - 1) + i % 2) / 2 + 1 ≡ rank = omega (arith, less) in
      let odd : (2 * (rank - 1) + i % 2) % 2 ≡ i % 2 = omega arith in
      let is : piece (if i % 2 == 0 then Takes else Gives) (i / 2) ≡ one = some_same _ one (sym (low_pair rank nue len i less) ∙ at) in
      subst (λ (c : PieceCall). Mirrored (λ r. alltoall_calls r nue len) rank c) is (
        2 * (rank - 1) + i % 2,
        piece (if i % 2 == 0 then Gives else Takes) rank,
        high_pair (i / 2) nue len (2 * (rank - 1) + i % 2) (omega (arith, half, less)) (omega (arith, half, low))
            ∙ (λ t. Some (piece (test_even (2 * (rank - 1) + i % 2) i odd Gives Takes t) (half t))),
        record { peer = refl; way = turned (i % 2 == 0) Takes Gives refl refl; len = refl },
      ))
      (λ (high : rank ≤ i / 2).
      ⊎_elim
      (λ (within : i / 2 + 1 < nue).
      let half : (2 * rank + i % 2) / 2 ≡ rank = omega arith in
      let odd : (2 * rank + i % 2) % 2 ≡ i % 2 = omega arith in
      let is : piece (if i % 2 == 0 then Gives else Takes) (i / 2 + 1) ≡ one = some_same _ one (sym (high_pair rank nue len i high within) ∙ at) in
      subst (λ (c : PieceCall). Mirrored (λ r. alltoall_calls r nue len) rank c) is (
        2 * rank + i % 2,
        piece (if i % 2 == 0 then Takes else Gives) rank,
        low_pair (i / 2 + 1) nue len (2 * rank + i % 2) (omega (arith, half, high))
            ∙ (λ t. Some (piece (test_even (2 * rank + i % 2) i odd Takes Gives t) (half t))),
        record { peer = refl; way = turned (i % 2 == 0) Gives Takes refl refl; len = refl },
      ))
      (λ (past : nue ≤ i / 2 + 1). absurd (none_there one (slice_get (alltoall_calls rank nue len) i) (pairs_end rank nue len i high past) at))
      (cases_lt (i / 2 + 1) nue))
      (cases_lt (i / 2) rank)

pub mirrored : (more : More) (nue len rank i : ℕ) (one : PieceCall) → rank < nue → slice_get (piece_calls more rank nue len) i ≡ Some one
    → (j : ℕ) × (other : PieceCall) × (slice_get (piece_calls more one.peer nue len) j ≡ Some other) × IsOtherSide rank one other
mirrored Gather nue len rank i one low at = gather_mirrored nue len rank i one low at
mirrored Scatter nue len rank i one low at = scatter_mirrored nue len rank i one low at
mirrored Allgather nue len rank i one low at = allgather_mirrored nue len rank i one low at
mirrored Alltoall nue len rank i one low at = alltoall_mirrored nue len rank i one low at
