-- Each message of a table is between ranks of the run and inside its bytes, and no receive writes where an earlier message read or
-- wrote, or where the own piece stands.
use Rattle.std.proofs.Common.{◌≡◌, ◌≢◌, ◌⊎◌, ℕ, zero, suc, ◌+◌, ◌-◌, ◌*◌, ◌<◌, ◌≤◌, ◌==◌, max, Bool, true, false, List, [], ◌∷◌, ◌++◌, Some, slice_get, refl, sym, ap, subst, arith, inl, inr, add-mul, append-nil, mul-le-mul_right}
use Rattle.coll_more.specs.Ops.{is_taking}
use Rattle.scc_proto.proofs.Tests.{eqb_other, same_by_eqb}
use Rattle.coll_more.proofs.ListLemmas.{some_same}
use Rattle.coll_more.specs.Tables.{alltoall_calls, piece_calls, dst_len_of, for_each, gather_calls, gives, gives_piece, gives_then_takes, has_own, rooted_calls, scatter_calls, shares, spread_calls, src_len_of, takes, takes_piece, takes_then_gives}
use Rattle.coll_more.specs.declared.kinds.More.{More}
use Rattle.coll_more.specs.declared.kinds.More.TheVariants.{Gather, Scatter, Allgather, Alltoall}
use Rattle.coll_more.specs.declared.kinds.PieceCall.{PieceCall}
use Rattle.coll_more.specs.declared.kinds.Way.{Way}
use Rattle.coll_more.specs.declared.kinds.Way.TheVariants.{Gives, Shares, Takes}

-- ---- what holds of each message

abbrev pub Each : (PieceCall → Type 0) → List PieceCall → Type 0
Each P [] = Unit {0}
Each P (x ∷ xs) = P x × Each P xs

each_both : (P : PieceCall → Type 0) (xs ys : List PieceCall) → Each P xs → Each P ys → Each P (xs ++ ys)
each_both P [] ys one two = two
each_both P (x ∷ xs) ys one two = (one.0, each_both P xs ys one.1 two)

each_rank : (P : PieceCall → Type 0) (f : ℕ → List PieceCall) (a n : ℕ) → ((p : ℕ) → a ≤ p → p < a + n → Each P (f p)) → Each P (for_each f a n)
each_rank P f a zero h = tt
each_rank P f a (suc n) h = each_both P (f a) (for_each f (a + 1) n) (h a (omega arith) (omega arith)) (each_rank P f (a + 1) n (λ p low less. h p (omega (arith, low)) (omega (arith, less))))

pub each_at : (P : PieceCall → Type 0) (xs : List PieceCall) (k : ℕ) (x : PieceCall) → Each P xs → slice_get xs k ≡ Some x → P x
each_at P [] k x all at = absurd (cc)
each_at P (y ∷ ys) zero x all at = subst P (some_same y x at) all.0
each_at P (y ∷ ys) (suc k) x all at = each_at P ys k x all.1 at

each_rooted : (P : PieceCall → Type 0) (calls : List PieceCall) (call : PieceCall) (rank : ℕ) → (rank ≡ 0 → Each P calls) → (0 < rank → P call) → Each P (rooted_calls rank calls call)
each_rooted P calls call zero one two = one refl
each_rooted P calls call (suc r) one two = (two (omega arith), tt)

-- ---- products

pub next_piece : (p len : ℕ) → (p + 1) * len ≡ p * len + len
next_piece p len = let sum = add-mul p 1 len in omega (arith, sum)

pub before_piece : (p q len : ℕ) → p < q → p * len + len ≤ q * len
before_piece p q len less =
    let le : (p + 1) * len ≤ q * len = mul-le-mul_right len (omega (arith, less)) in
    let sum = next_piece p len in
    omega (arith, le, sum)

pub whole_within : (nue len : ℕ) → nue ≤ 48 → len ≤ 1024 → nue * len ≤ 65536
whole_within nue len few short =
    let le : nue * len ≤ 48 * len = mul-le-mul_right len few in
    omega (arith, le, short)

-- ---- a message that can be made

-- where the bytes of a message stand
abbrev pub room_by : Way → (src dst : ℕ) → ℕ
room_by Gives src dst = src
room_by Shares src dst = dst
room_by Takes src dst = dst

-- a receive stays away from the own piece
abbrev pub IsApart : Bool → (rank len : ℕ) → PieceCall → Type 0
IsApart true rank len call = is_taking call.way ≡ true → (call.first + call.len ≤ rank * len) ⊎ (rank * len + len ≤ call.first)
IsApart false rank len call = Unit {0}

pub record IsGood (rank nue len : ℕ) (own : Bool) (src dst : ℕ) (call : PieceCall) : Type 0 where
  pub below : call.peer < nue
  pub other : rank ≢ call.peer
  pub inside : call.first + call.len ≤ room_by call.way src dst
  pub short : call.len ≤ 65536
  pub apart : IsApart own rank len call

module _ (nue len : ℕ) (few : nue ≤ 48) (fits : len ≤ 1024) where
  all_fits : nue * len ≤ 65536
  all_fits = whole_within nue len few fits

  -- ---- by kinds

  -- a piece of a rank with a number above 0 at the root
  root_takes : (own : Bool) (src rank dst p : ℕ) → rank ≡ 0 → dst ≡ nue * len → 1 ≤ p → p < nue → IsGood rank nue len own src dst (takes p (p * len) len)
  root_takes own src rank dst p root all some less =
      let end = before_piece p nue len less in
      record {
        below = less;
        other = λ same. absurd (omega (arith, same, root, some));
        inside = omega (arith, end, all);
        short = omega (arith, fits);
        apart = by own;
      }
    where
      by : (b : Bool) → IsApart b rank len (takes p (p * len) len)
      by true =
          let first = before_piece 0 p len (omega (arith, some)) in
          let none : rank * len ≡ 0 * len = ap (λ (r : ℕ). r * len) root in
          λ is. inr (omega (arith, first, none))
      by false = tt

  never : (own : Bool) (rank : ℕ) (call : PieceCall) → is_taking call.way ≡ false → IsApart own rank len call
  never true rank call gives_it = λ is. absurd (cc)
  never false rank call gives_it = tt

  root_gives : (own : Bool) (src rank dst p : ℕ) → rank ≡ 0 → src ≡ nue * len → 1 ≤ p → p < nue → IsGood rank nue len own src dst (gives p (p * len) len)
  root_gives own src rank dst p root all some less =
      let end = before_piece p nue len less in
      record {
        below = less;
        other = λ same. absurd (omega (arith, same, root, some));
        inside = omega (arith, end, all);
        short = omega (arith, fits);
        apart = never own rank (gives p (p * len) len) refl;
      }

  root_shares : (own : Bool) (src rank dst p : ℕ) → rank ≡ 0 → dst ≡ nue * len → 1 ≤ p → p < nue → IsGood rank nue len own src dst (shares p 0 (nue * len))
  root_shares own src rank dst p root all some less =
      let most = all_fits in
      record {
        below = less;
        other = λ same. absurd (omega (arith, same, root, some));
        inside = omega (arith, all);
        short = omega (arith, most);
        apart = never own rank (shares p 0 (nue * len)) refl;
      }

  -- the one message of another rank
  up : (own : Bool) (src rank dst : ℕ) → 0 < rank → rank < nue → src ≡ len → IsGood rank nue len own src dst (gives 0 0 len)
  up own src rank dst other less is = record {
    below = omega (arith, less);
    other = λ same. absurd (omega (arith, same, other));
    inside = omega (arith, is);
    short = omega (arith, fits);
    apart = never own rank (gives 0 0 len) refl;
  }

  down : (own : Bool) (src rank dst most : ℕ) → own ≡ false → 0 < rank → rank < nue → dst ≡ most → most ≤ 65536 → IsGood rank nue len own src dst (takes 0 0 most)
  down own src rank dst most none other less is within = record {
    below = omega (arith, less);
    other = λ same. absurd (omega (arith, same, other));
    inside = omega (arith, is);
    short = within;
    apart = subst (λ (b : Bool). IsApart b rank len (takes 0 0 most)) (sym none) tt;
  }

  module _ (rank : ℕ) (low : rank < nue) where
    not_root : 0 < rank → (rank == 0) ≡ false
    not_root other = eqb_other rank 0 (λ e. absurd (omega (arith, e, other)))

    at_root_is : rank ≡ 0 → src_len_of Scatter rank nue len ≡ nue * len
    at_root_is root = ap (λ (r : ℕ). src_len_of Scatter r nue len) root

    gather_dst : rank ≡ 0 → dst_len_of Gather rank nue len ≡ nue * len
    gather_dst root = ap (λ (r : ℕ). dst_len_of Gather r nue len) root

    good_gather : (src dst : ℕ) → src ≡ len → (rank ≡ 0 → dst ≡ nue * len) → Each (IsGood rank nue len (rank == 0) src dst) (gather_calls rank nue len)
    good_gather src dst one two = each_rooted (IsGood rank nue len (rank == 0) src dst) (for_each (takes_piece len) 1 (nue - 1)) (gives 0 0 len) rank
        (λ root. each_rank (IsGood rank nue len (rank == 0) src dst) (takes_piece len) 1 (nue - 1) (λ p some less. (root_takes (rank == 0) src rank dst p root (two root) some (omega (arith, less, low)), tt)))
        (λ other. up (rank == 0) src rank dst other low one)

    good_scatter : Each (IsGood rank nue len (rank == 0) (src_len_of Scatter rank nue len) len) (scatter_calls rank nue len)
    good_scatter = each_rooted (IsGood rank nue len (rank == 0) (src_len_of Scatter rank nue len) len) (for_each (gives_piece len) 1 (nue - 1)) (takes 0 0 len) rank
        (λ root. each_rank (IsGood rank nue len (rank == 0) (src_len_of Scatter rank nue len) len) (gives_piece len) 1 (nue - 1) (λ p some less. (root_gives (rank == 0) (src_len_of Scatter rank nue len) rank len p root (at_root_is root) some (omega (arith, less, low)), tt)))
        (λ other. down (rank == 0) (src_len_of Scatter rank nue len) rank len len (not_root other) other low refl (omega (arith, fits)))

    good_spread : Each (IsGood rank nue len (rank == 0) len (nue * len)) (spread_calls rank nue len)
    good_spread = each_rooted (IsGood rank nue len (rank == 0) len (nue * len)) (for_each (λ p. shares p 0 (nue * len) ∷ []) 1 (nue - 1)) (takes 0 0 (nue * len)) rank
        (λ root. each_rank (IsGood rank nue len (rank == 0) len (nue * len)) (λ p. shares p 0 (nue * len) ∷ []) 1 (nue - 1) (λ p some less. (root_shares (rank == 0) len rank (nue * len) p root refl some (omega (arith, less, low)), tt)))
        (λ other. down (rank == 0) len rank (nue * len) (nue * len) (not_root other) other low refl all_fits)

    -- a piece of an alltoall
    pair_takes : (p : ℕ) → p < nue → rank ≢ p → (p < rank) ⊎ (rank < p) → IsGood rank nue len true (nue * len) (nue * len) (takes p (p * len) len)
    pair_takes p less other side =
        let end = before_piece p nue len less in
        record { below = less; other = other; inside = end; short = omega (arith, fits); apart = λ is. by side }
      where
        by : (p < rank) ⊎ (rank < p) → (p * len + len ≤ rank * len) ⊎ (rank * len + len ≤ p * len)
        by (inl under) = inl (before_piece p rank len under)
        by (inr over) = inr (before_piece rank p len over)

    pair_gives : (p : ℕ) → p < nue → rank ≢ p → IsGood rank nue len true (nue * len) (nue * len) (gives p (p * len) len)
    pair_gives p less other =
        let end = before_piece p nue len less in
        record { below = less; other = other; inside = end; short = omega (arith, fits); apart = never true rank (gives p (p * len) len) refl }

    good_alltoall : Each (IsGood rank nue len true (nue * len) (nue * len)) (alltoall_calls rank nue len)
    good_alltoall = each_both (IsGood rank nue len true (nue * len) (nue * len)) (for_each (takes_then_gives len) 0 rank) (for_each (gives_then_takes len) (rank + 1) (nue - (rank + 1)))
        (each_rank (IsGood rank nue len true (nue * len) (nue * len)) (takes_then_gives len) 0 rank (λ p some less.
        let under : p < rank = omega (arith, less) in
        let other : rank ≢ p = λ same. absurd (omega (arith, same, under)) in
        (pair_takes p (omega (arith, under, low)) other (inl under), (pair_gives p (omega (arith, under, low)) other, tt))))
        (each_rank (IsGood rank nue len true (nue * len) (nue * len)) (gives_then_takes len) (rank + 1) (nue - (rank + 1)) (λ p some less.
        let over : rank < p = omega (arith, some) in
        let within : p < nue = omega (arith, less, some, low) in
        let other : rank ≢ p = λ same. absurd (omega (arith, same, over)) in
        (pair_gives p within other, (pair_takes p within other (inr over), tt))))

    pub good_calls : (more : More) → Each (IsGood rank nue len (has_own more rank) (src_len_of more rank nue len) (dst_len_of more rank nue len)) (piece_calls more rank nue len)
    good_calls Gather = good_gather len (dst_len_of Gather rank nue len) refl gather_dst
    good_calls Scatter = good_scatter
    good_calls Allgather = each_both (IsGood rank nue len (rank == 0) len (nue * len)) (gather_calls rank nue len) (spread_calls rank nue len) (good_gather len (nue * len) refl (λ root. refl)) good_spread
    good_calls Alltoall = good_alltoall

-- the own piece is inside src and dst
pub own_room : (more : More) (rank nue len : ℕ) → rank < nue → has_own more rank ≡ true
    → (rank * len + len ≤ src_len_of more rank nue len) × (rank * len + len ≤ dst_len_of more rank nue len)
own_room Gather zero nue len low has = let end = before_piece 0 nue len low in (omega arith, omega (arith, end))
own_room Gather (suc r) nue len low has = let none = same_by_eqb (suc r) 0 has in absurd (omega (arith, none))
own_room Scatter zero nue len low has = let end = before_piece 0 nue len low in (omega (arith, end), omega arith)
own_room Scatter (suc r) nue len low has = let none = same_by_eqb (suc r) 0 has in absurd (omega (arith, none))
own_room Allgather zero nue len low has = let end = before_piece 0 nue len low in (omega arith, omega (arith, end))
own_room Allgather (suc r) nue len low has = let none = same_by_eqb (suc r) 0 has in absurd (omega (arith, none))
own_room Alltoall rank nue len low has = let end = before_piece rank nue len low in (end, end)

-- ---- receives go up

-- how far dst is read or written once this message is made
abbrev reach_by : Way → (end m : ℕ) → ℕ
reach_by Gives end m = m
reach_by Shares end m = max m end
reach_by Takes end m = max m end

-- each receive begins behind all bytes of dst that were read or written before
abbrev pub Rising : ℕ → List PieceCall → Type 0
Rising m [] = Unit {0}
Rising m (x ∷ xs) = (is_taking x.way ≡ true → m ≤ x.first) × Rising (reach_by x.way (x.first + x.len) m) xs

-- a message reads or writes dst
abbrev pub is_of_dst : Way → Bool
is_of_dst Gives = false
is_of_dst way = true

reach_more : (w : Way) (end m : ℕ) → m ≤ reach_by w end m
reach_more Gives end m = omega arith
reach_more Shares end m = omega arith
reach_more Takes end m = omega arith

reach_end : (w : Way) (end m : ℕ) → is_of_dst w ≡ true → end ≤ reach_by w end m
reach_end Gives end m is = absurd (cc)
reach_end Shares end m is = omega arith
reach_end Takes end m is = omega arith

rising_at : (m : ℕ) (xs : List PieceCall) (k : ℕ) (x : PieceCall) → Rising m xs → slice_get xs k ≡ Some x → is_taking x.way ≡ true → m ≤ x.first
rising_at m [] k x up at is = absurd (cc)
rising_at m (y ∷ ys) zero x up at is = subst (λ (z : PieceCall). is_taking z.way ≡ true → m ≤ z.first) (some_same y x at) up.0 is
rising_at m (y ∷ ys) (suc k) x up at is =
    let more = reach_more y.way (y.first + y.len) m in
    let rest = rising_at (reach_by y.way (y.first + y.len) m) ys k x up.1 at is in
    omega (arith, more, rest)

pub later_after : (m : ℕ) (xs : List PieceCall) (j k : ℕ) (x y : PieceCall) → Rising m xs → slice_get xs j ≡ Some x → slice_get xs k ≡ Some y → j < k → is_of_dst x.way ≡ true → is_taking y.way ≡ true
    → x.first + x.len ≤ y.first
later_after m [] j k x y up one two less of is = absurd (cc)
later_after m (z ∷ zs) zero zero x y up one two less of is = absurd (omega (arith, less))
later_after m (z ∷ zs) zero (suc k) x y up one two less of is =
    let rest = rising_at (reach_by z.way (z.first + z.len) m) zs k y up.1 two is in
    subst (λ (v : PieceCall). is_of_dst v.way ≡ true → v.first + v.len ≤ y.first) (some_same z x one)
    (λ here. let end = reach_end z.way (z.first + z.len) m here in omega (arith, end, rest)) of
later_after m (z ∷ zs) (suc j) zero x y up one two less of is = absurd (omega (arith, less))
later_after m (z ∷ zs) (suc j) (suc k) x y up one two less of is =
    later_after (reach_by z.way (z.first + z.len) m) zs j k x y up.1 one two (omega (arith, less)) of is

-- ---- the tables go up

up_to : (a b len m : ℕ) → b ≡ a + 0 → m ≤ a * len → m ≤ b * len
up_to a b len m same le = let at : a ≡ b = omega (arith, same) in subst (λ (x : ℕ). m ≤ x * len) at le

reach_next : (a len m : ℕ) → m ≤ a * len → max m (a * len + len) ≤ (a + 1) * len
reach_next a len m le = let next = next_piece a len in omega (arith, le, next)

module _ (len : ℕ) where
  -- what comes behind goes up from there on
  abbrev After : ℕ → List PieceCall → Type 0
  After b rest = (m : ℕ) → m ≤ b * len → Rising m rest

  rising_takes : (a n b m : ℕ) (rest : List PieceCall) → b ≡ a + n → m ≤ a * len → After b rest → Rising m (for_each (takes_piece len) a n ++ rest)
  rising_takes a zero b m rest end le afterwards = afterwards m (up_to a b len m end le)
  rising_takes a (suc n) b m rest end le afterwards = (λ is. le, rising_takes (a + 1) n b (max m (a * len + len)) rest (omega (arith, end)) (reach_next a len m le) afterwards)

  rising_low : (a n b m : ℕ) (rest : List PieceCall) → b ≡ a + n → m ≤ a * len → After b rest → Rising m (for_each (takes_then_gives len) a n ++ rest)
  rising_low a zero b m rest end le afterwards = afterwards m (up_to a b len m end le)
  rising_low a (suc n) b m rest end le afterwards =
      (λ is. le, (λ is. absurd (cc), rising_low (a + 1) n b (max m (a * len + len)) rest (omega (arith, end)) (reach_next a len m le) afterwards))

  rising_high : (a n m : ℕ) → m ≤ a * len → Rising m (for_each (gives_then_takes len) a n)
  rising_high a zero m le = tt
  rising_high a (suc n) m le = (λ is. absurd (cc), (λ is. le, rising_high (a + 1) n (max m (a * len + len)) (reach_next a len m le)))

  rising_gives : (a n m : ℕ) → Rising m (for_each (gives_piece len) a n)
  rising_gives a zero m = tt
  rising_gives a (suc n) m = (λ is. absurd (cc), rising_gives (a + 1) n m)

  rising_shares : (all a n m : ℕ) → Rising m (for_each (λ p. shares p 0 all ∷ []) a n)
  rising_shares all a zero m = tt
  rising_shares all a (suc n) m = (λ is. absurd (cc), rising_shares all (a + 1) n (max m (0 + all)))

  rising_gather : (rank nue : ℕ) → Rising 0 (gather_calls rank nue len)
  rising_gather zero nue =
      subst (Rising 0) (append-nil (for_each (takes_piece len) 1 (nue - 1))) (rising_takes 1 (nue - 1) (1 + (nue - 1)) 0 [] refl (omega arith) (λ m le. tt))
  rising_gather (suc r) nue = (λ is. absurd (cc), tt)

  rising_allgather : (rank nue : ℕ) → Rising 0 (gather_calls rank nue len ++ spread_calls rank nue len)
  rising_allgather zero nue = rising_takes 1 (nue - 1) (1 + (nue - 1)) 0 (for_each (λ p. shares p 0 (nue * len) ∷ []) 1 (nue - 1)) refl (omega arith) (λ m le. rising_shares (nue * len) 1 (nue - 1) m)
  rising_allgather (suc r) nue = (λ is. absurd (cc), (λ is. omega arith, tt))

  rising_scatter : (rank nue : ℕ) → Rising 0 (scatter_calls rank nue len)
  rising_scatter zero nue = rising_gives 1 (nue - 1) 0
  rising_scatter (suc r) nue = (λ is. omega arith, tt)

  pub rising_calls : (more : More) (rank nue : ℕ) → Rising 0 (piece_calls more rank nue len)
  rising_calls Gather rank nue = rising_gather rank nue
  rising_calls Scatter rank nue = rising_scatter rank nue
  rising_calls Allgather rank nue = rising_allgather rank nue
  rising_calls Alltoall rank nue =
      rising_low 0 rank rank 0 (for_each (gives_then_takes len) (rank + 1) (nue - (rank + 1))) (omega arith) (omega arith)
      (λ m le. rising_high (rank + 1) (nue - (rank + 1)) m (let next = next_piece rank len in omega (arith, le, next)))
