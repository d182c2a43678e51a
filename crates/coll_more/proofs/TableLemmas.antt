-- The messages of a table by their places.
use Rattle.std.proofs.Common.{◌≡◌, ℕ, zero, suc, ◌+◌, ◌-◌, ◌*◌, ◌/◌, ◌%◌, ◌<◌, ◌≤◌, ◌==◌, Bool, true, false, if◌then◌else◌, List, [], ◌∷◌, length, Some, None, slice_get, refl, ap, ◌∙◌, arith, length-append}
use Rattle.std.proofs.lemmas.Option.{slice_get_within}
use Rattle.coll_more.specs.Tables.{alltoall_calls, piece_calls, for_each, gather_calls, gives, gives_then_takes, rooted_calls, shares, spread_calls, takes, takes_then_gives}
use Rattle.coll_more.specs.declared.kinds.More.{More}
use Rattle.coll_more.specs.declared.kinds.More.TheVariants.{Gather, Scatter, Allgather, Alltoall}
use Rattle.coll_more.specs.declared.kinds.PieceCall.{PieceCall}
use Rattle.coll_more.specs.declared.kinds.Way.{Way}
use Rattle.coll_more.specs.declared.kinds.Way.TheVariants.{Gives, Takes}
use Rattle.coll_more.proofs.ListLemmas.{get_after, get_front}

-- one message a rank
module _ (f : ℕ → PieceCall) where
  abbrev ones : ℕ → ℕ → List PieceCall
  ones a n = for_each (λ p. f p ∷ []) a n

  one_at : (a n k : ℕ) → k < n → slice_get (ones a n) k ≡ Some (f (a + k))
  one_at a zero k less = absurd (omega (arith, less))
  one_at a (suc n) zero less = let same : a ≡ a + 0 = omega arith in ap (λ (p : ℕ). Some (f p)) same
  one_at a (suc n) (suc k) less = let same : a + 1 + k ≡ a + suc k = omega arith in one_at (a + 1) n k (omega (arith, less)) ∙ ap (λ (p : ℕ). Some (f p)) same

  none_at : (a n k : ℕ) → n ≤ k → slice_get (ones a n) k ≡ None
  none_at a zero k past = refl
  none_at a (suc n) zero past = absurd (omega (arith, past))
  none_at a (suc n) (suc k) past = none_at (a + 1) n k (omega (arith, past))

  ones_many : (a n : ℕ) → length (ones a n) ≡ n
  ones_many a zero = refl
  ones_many a (suc n) = ap suc (ones_many (a + 1) n)

  -- the root's messages, and the one of another rank
  pub root_at : (call : PieceCall) (rank n k : ℕ) → rank ≡ 0 → k < n → slice_get (rooted_calls rank (ones 1 n) call) k ≡ Some (f (k + 1))
  root_at call rank n k root less =
      let same : 1 + k ≡ k + 1 = omega arith in
      ap (λ (r : ℕ). slice_get (rooted_calls r (ones 1 n) call) k) root ∙ one_at 1 n k less ∙ ap (λ (p : ℕ). Some (f p)) same

  pub root_none : (call : PieceCall) (rank n k : ℕ) → rank ≡ 0 → n ≤ k → slice_get (rooted_calls rank (ones 1 n) call) k ≡ None
  root_none call rank n k root past = ap (λ (r : ℕ). slice_get (rooted_calls r (ones 1 n) call) k) root ∙ none_at 1 n k past

  pub root_many : (call : PieceCall) (rank n : ℕ) → rank ≡ 0 → length (rooted_calls rank (ones 1 n) call) ≡ n
  root_many call rank n root = ap (λ (r : ℕ). length (rooted_calls r (ones 1 n) call)) root ∙ ones_many 1 n

-- two messages a rank
module _ (f g : ℕ → PieceCall) where
  abbrev twos : ℕ → ℕ → List PieceCall
  twos a n = for_each (λ p. f p ∷ g p ∷ []) a n

  abbrev of_pair : ℕ → ℕ → PieceCall
  of_pair p k = if k % 2 == 0 then f p else g p

  pair_at : (a n k : ℕ) → k / 2 < n → slice_get (twos a n) k ≡ Some (of_pair (a + k / 2) k)
  pair_at a zero k less = absurd (omega (arith, less))
  pair_at a (suc n) zero less = let same : a ≡ a + 0 / 2 = omega arith in ap (λ (p : ℕ). Some (f p)) same
  pair_at a (suc n) (suc zero) less = let same : a ≡ a + 1 / 2 = omega arith in ap (λ (p : ℕ). Some (g p)) same
  pair_at a (suc n) (suc (suc k)) less =
      let half : a + 1 + k / 2 ≡ a + suc (suc k) / 2 = omega arith in
      let odd : k % 2 ≡ suc (suc k) % 2 = omega arith in
      pair_at (a + 1) n k (omega (arith, less))
      ∙ (λ i. Some (if odd i == 0 then f (half i) else g (half i)))

  pair_none : (a n k : ℕ) → n ≤ k / 2 → slice_get (twos a n) k ≡ None
  pair_none a zero k past = refl
  pair_none a (suc n) zero past = absurd (omega (arith, past))
  pair_none a (suc n) (suc zero) past = absurd (omega (arith, past))
  pair_none a (suc n) (suc (suc k)) past = pair_none (a + 1) n k (omega (arith, past))

  twos_many : (a n : ℕ) → length (twos a n) ≡ 2 * n
  twos_many a zero = refl
  twos_many a (suc n) = let more = twos_many (a + 1) n in omega (arith, more)

-- a message of an alltoall
abbrev piece_call : Way → ℕ → ℕ → PieceCall
piece_call way p len = record { peer = p; way = way; first = p * len; len = len }

split_way : (k p len : ℕ) (one other : Way) → (if k % 2 == 0 then piece_call one p len else piece_call other p len) ≡ piece_call (if k % 2 == 0 then one else other) p len
split_way k p len one other = by (k % 2 == 0)
  where
    by : (b : Bool) → (if b then piece_call one p len else piece_call other p len) ≡ piece_call (if b then one else other) p len
    by true = refl
    by false = refl

module _ (rank nue len k : ℕ) where
  abbrev low_part : List PieceCall
  low_part = for_each (takes_then_gives len) 0 rank

  abbrev high_part : List PieceCall
  high_part = for_each (gives_then_takes len) (rank + 1) (nue - (rank + 1))

  low_many : length low_part ≡ 2 * rank
  low_many = twos_many (λ p. takes p (p * len) len) (λ p. gives p (p * len) len) 0 rank

  pub low_pair : k / 2 < rank → slice_get (alltoall_calls rank nue len) k ≡ Some (piece_call (if k % 2 == 0 then Takes else Gives) (k / 2) len)
  low_pair low =
      let many = low_many in
      let within : k < length low_part = omega (arith, low, many) in
      let same : 0 + k / 2 ≡ k / 2 = omega arith in
      get_front low_part high_part k within
      ∙ pair_at (λ p. takes p (p * len) len) (λ p. gives p (p * len) len) 0 rank k low
      ∙ ap (λ (p : ℕ). Some (if k % 2 == 0 then piece_call Takes p len else piece_call Gives p len)) same
      ∙ ap (λ (c : PieceCall). Some c) (split_way k (k / 2) len Takes Gives)

  high_is : rank ≤ k / 2 → slice_get (alltoall_calls rank nue len) k ≡ slice_get high_part (k - 2 * rank)
  high_is high =
      let many = low_many in
      let rest : k ≡ length low_part + (k - 2 * rank) = omega (arith, high, many) in
      get_after low_part high_part k (k - 2 * rank) rest

  pub high_pair : rank ≤ k / 2 → k / 2 + 1 < nue → slice_get (alltoall_calls rank nue len) k ≡ Some (piece_call (if k % 2 == 0 then Gives else Takes) (k / 2 + 1) len)
  high_pair high within =
      let less : (k - 2 * rank) / 2 < nue - (rank + 1) = omega (arith, high, within) in
      let half : rank + 1 + (k - 2 * rank) / 2 ≡ k / 2 + 1 = omega (arith, high) in
      let odd : (k - 2 * rank) % 2 ≡ k % 2 = omega (arith, high) in
      high_is high
      ∙ pair_at (λ p. gives p (p * len) len) (λ p. takes p (p * len) len) (rank + 1) (nue - (rank + 1)) (k - 2 * rank) less
      ∙ (λ i. Some (if odd i == 0 then piece_call Gives (half i) len else piece_call Takes (half i) len))
      ∙ ap (λ (c : PieceCall). Some c) (split_way k (k / 2 + 1) len Gives Takes)

  pub pairs_end : rank ≤ k / 2 → nue ≤ k / 2 + 1 → slice_get (alltoall_calls rank nue len) k ≡ None
  pairs_end high past =
      let none : nue - (rank + 1) ≤ (k - 2 * rank) / 2 = omega (arith, high, past) in
      high_is high ∙ pair_none (λ p. gives p (p * len) len) (λ p. takes p (p * len) len) (rank + 1) (nue - (rank + 1)) (k - 2 * rank) none

-- ---- how many there are

few_rooted : (f : ℕ → PieceCall) (call : PieceCall) (rank n nue : ℕ) → n ≤ nue → 0 < nue → length (rooted_calls rank (for_each (λ p. f p ∷ []) 1 n) call) ≤ nue
few_rooted f call zero n nue le some = let many = ones_many f 1 n in omega (arith, le, many)
few_rooted f call (suc r) n nue le some = omega (arith, some)

pub few_calls : (more : More) (rank nue len : ℕ) → rank < nue → length (piece_calls more rank nue len) ≤ 2 * nue
few_calls Gather rank nue len low =
    let few = few_rooted (λ p. takes p (p * len) len) (gives 0 0 len) rank (nue - 1) nue (omega arith) (omega (arith, low)) in
    omega (arith, few)
few_calls Scatter rank nue len low =
    let few = few_rooted (λ p. gives p (p * len) len) (takes 0 0 len) rank (nue - 1) nue (omega arith) (omega (arith, low)) in
    omega (arith, few)
few_calls Allgather rank nue len low =
    let one = few_rooted (λ p. takes p (p * len) len) (gives 0 0 len) rank (nue - 1) nue (omega arith) (omega (arith, low)) in
    let two = few_rooted (λ p. shares p 0 (nue * len)) (takes 0 0 (nue * len)) rank (nue - 1) nue (omega arith) (omega (arith, low)) in
    let both = length-append (gather_calls rank nue len) (spread_calls rank nue len) in
    omega (arith, one, two, both)
few_calls Alltoall rank nue len low =
    let one = twos_many (λ p. takes p (p * len) len) (λ p. gives p (p * len) len) 0 rank in
    let two = twos_many (λ p. gives p (p * len) len) (λ p. takes p (p * len) len) (rank + 1) (nue - (rank + 1)) in
    let both = length-append (for_each (takes_then_gives len) 0 rank) (for_each (gives_then_takes len) (rank + 1) (nue - (rank + 1))) in
    omega (arith, one, two, both, low)

-- the place of the next message fits its number
pub next_fits : (more : More) (rank nue len k : ℕ) (call : PieceCall) → rank < nue → nue ≤ 48 → slice_get (piece_calls more rank nue len) k ≡ Some call → k + 1 < 256
next_fits more rank nue len k call low few at =
    let inside = slice_get_within (piece_calls more rank nue len) k call at in
    let most = few_calls more rank nue len low in
    omega (arith, inside, most, few)
