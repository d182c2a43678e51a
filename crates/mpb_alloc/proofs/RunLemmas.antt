-- Lists of runs: what taking a front and giving a run back does to their order and to their lines.
use Rattle.std.proofs.Common.{◌≡◌, ℕ, ◌+◌, ◌-◌, ◌<◌, ◌≤◌, Bool, true, false, cond, ◌==◌, nat_le, nat_lt, List, [], ◌∷◌, ◌++◌, Some, length, refl, ap, subst, ◌⊎◌, inl, inr, max, arith}
use Rattle.std.proofs.lemmas.Bool.{cond_both, ltb-true, ltb-false, leb-true, eqb-false, cases_lt}
use Rattle.std.proofs.lemmas.Bool.Decides.{nat_tests}
use Rattle.mpb_alloc.specs.declared.heap.Run.{Run}
use Rattle.mpb_alloc.specs.Heaps.{line_after, has_line, StandApart, IsHeapRun, StandWithin, lines_in_runs, times_at, rest_of_run, taken_from, joined_runs, given_back, lowest_fit}

pub apart_from_lower : (rs : List Run) (low lower : ℕ) → lower ≤ low → StandApart low rs → StandApart lower rs
apart_from_lower [] low lower h s = tt
apart_from_lower (r ∷ rs) low lower h s = (omega arith, s.1, s.2, s.3)

pub within_from_apart : (rs : List Run) (low : ℕ) → 225 ≤ low → StandApart low rs → StandWithin rs
within_from_apart [] low h s = tt
within_from_apart (r ∷ rs) low h s =
    ((omega arith, s.1, s.2), within_from_apart rs (line_after r + 1) (omega arith) s.3)

pub within-append : (rs ss : List Run) → StandWithin rs → StandWithin ss → StandWithin (rs ++ ss)
within-append [] ss a b = b
within-append (r ∷ rs) ss a b = (a.0, within-append rs ss a.1 b)

pub lines_in_runs-append : (rs ss : List Run) → lines_in_runs (rs ++ ss) ≡ lines_in_runs rs + lines_in_runs ss
lines_in_runs-append [] ss = omega arith
lines_in_runs-append (r ∷ rs) ss = omega (arith, lines_in_runs-append rs ss)

pub times_at-append : (l : ℕ) (rs ss : List Run) → times_at l (rs ++ ss) ≡ times_at l rs + times_at l ss
times_at-append l [] ss = omega arith
times_at-append l (r ∷ rs) ss = omega (arith, times_at-append l rs ss)

-- a list of runs has as many lines as runs, or more
pub length-le-lines_in_runs : (rs : List Run) → StandWithin rs → length rs ≤ lines_in_runs rs
length-le-lines_in_runs [] s = omega arith
length-le-lines_in_runs (r ∷ rs) s = let h = s.0 in omega (arith, length-le-lines_in_runs rs s.1)

-- the lowest run that fits, and what stands beside it
pub record Found (n : ℕ) (r : Run) (rs : List Run) : Type 0 where
  pub front : List Run
  pub back : List Run
  pub is : rs ≡ front ++ r ∷ back
  pub taken : taken_from n rs ≡ front ++ (rest_of_run n r ++ back)
  pub enough : n ≤ r.lines

pub found : (n : ℕ) (r : Run) (rs : List Run) → lowest_fit n rs ≡ Some r → Found n r rs
found n r [] h = absurd (cc)
found n r (x ∷ xs) h = by (found n r xs) (nat_le n x.lines) refl h
  where
    by : (lowest_fit n xs ≡ Some r → Found n r xs) → (b : Bool) → nat_le n x.lines ≡ b
        → cond b (Some x) (lowest_fit n xs) ≡ Some r → Found n r (x ∷ xs)
    by later true e h =
        let same : x ≡ r = cc in
        subst (λ y. Found n y (x ∷ xs)) same (record {
          front = [];
          back = xs;
          is = refl;
          taken = rw e refl;
          enough = leb-true n x.lines e;
        })
    by later false e h =
        let f = later h in
        record {
          front = x ∷ f.front;
          back = f.back;
          is = ap (λ ys. x ∷ ys) f.is;
          taken = rw e (ap (λ ys. x ∷ ys) f.taken);
          enough = f.enough;
        }

-- what is left of a run stands where the run stood
pub rest_apart : (n low : ℕ) (r : Run) (rs : List Run) → 0 < n → n ≤ r.lines → low ≤ r.first → line_after r ≤ 256
    → StandApart (line_after r + 1) rs → StandApart low (rest_of_run n r ++ rs)
rest_apart n low r rs some enough h k s =
    cond_both (r.lines == n) [] ((record { first = r.first + n; lines = r.lines - n }) ∷ []) (λ xs. StandApart low (xs ++ rs))
    (λ e. apart_from_lower rs (line_after r + 1) low (omega arith) s)
    (λ e. (omega arith, left e, omega arith, apart_from_lower rs (line_after r + 1) (r.first + n + (r.lines - n) + 1) (omega arith) s))
  where
    left : (r.lines == n) ≡ false → 0 < r.lines - n
    left e = let ne = eqb-false r.lines n e in omega arith

pub taken_apart : (n low : ℕ) (rs : List Run) → 0 < n → StandApart low rs → StandApart low (taken_from n rs)
taken_apart n low [] some s = tt
taken_apart n low (r ∷ rs) some s =
    cond_both (nat_le n r.lines) (rest_of_run n r ++ rs) (r ∷ taken_from n rs) (StandApart low)
    (λ e. rest_apart n low r rs some (leb-true n r.lines e) s.0 s.2 s.3)
    (λ e. (s.0, s.1, s.2, taken_apart n (line_after r + 1) rs some s.3))

-- no line of the buffer is in one of the runs
abbrev pub IsClear : Run → List Run → Type 0
IsClear b [] = Unit {0}
IsClear b (r ∷ rs) = ((line_after b ≤ r.first) ⊎ (line_after r ≤ b.first)) × IsClear b rs

-- two runs of which one begins where the other ends
abbrev pub Touches : Run → Run → Type 0
Touches b r = (line_after b ≡ r.first) ⊎ (line_after r ≡ b.first)

touches : (b r : Run) → (line_after b ≤ r.first) ⊎ (line_after r ≤ b.first) → r.first ≤ line_after b → b.first ≤ line_after r → Touches b r
touches b r (inl a) h k = inl (omega arith)
touches b r (inr a) h k = inr (omega arith)

clear_joined : (b r : Run) (low : ℕ) (rs : List Run) → Touches b r → 0 < b.lines → 0 < r.lines → line_after r + 1 ≤ low
    → StandApart low rs → IsClear b rs → IsClear (joined_runs b r) rs
clear_joined b r low [] t bl rl h s c = tt
clear_joined b r low (x ∷ xs) t bl rl h s c =
    (inl (at t c.0), clear_joined b r (line_after x + 1) xs t bl rl (omega arith) s.3 c.1)
  where
    at : Touches b r → (line_after b ≤ x.first) ⊎ (line_after x ≤ b.first) → line_after (joined_runs b r) ≤ x.first
    at (inl t) c = let h0 = s.0 in omega arith
    at (inr t) (inl c) = let h0 = s.0 in omega arith
    at (inr t) (inr c) = let h0 = s.0 in let h1 = s.1 in omega arith

pub given_apart : (b : Run) (low : ℕ) (rs : List Run) → low ≤ b.first → 0 < b.lines → line_after b ≤ 256
    → StandApart low rs → StandApart low (given_back b rs)
given_apart b low [] h l e s = (h, l, e, tt)
given_apart b low (r ∷ rs) h l e s =
    cond_both (nat_lt (line_after b) r.first) (b ∷ r ∷ rs)
    (cond (nat_lt (line_after r) b.first) (r ∷ given_back b rs) (given_back (joined_runs b r) rs)) (StandApart low)
    (λ t. let u = ltb-true (line_after b) r.first t in (h, l, e, (omega arith, s.1, s.2, s.3)))
    (λ t.
    cond_both (nat_lt (line_after r) b.first) (r ∷ given_back b rs) (given_back (joined_runs b r) rs) (StandApart low)
    (λ u. let v = ltb-true (line_after r) b.first u in
    (s.0, s.1, s.2, given_apart b (line_after r + 1) rs (omega arith) l e s.3))
    (λ u. let h0 = s.0 in let h1 = s.1 in let h2 = s.2 in
    given_apart (joined_runs b r) low rs (omega arith) (omega arith) (omega arith)
    (apart_from_lower rs (line_after r + 1) low (omega arith) s.3)))

pub lines_in_runs-given_back : (b : Run) (low : ℕ) (rs : List Run) → 0 < b.lines → StandApart low rs → IsClear b rs
    → lines_in_runs (given_back b rs) ≡ b.lines + lines_in_runs rs
lines_in_runs-given_back b low [] l s c = refl
lines_in_runs-given_back b low (r ∷ rs) l s c =
    cond_both (nat_lt (line_after b) r.first) (b ∷ r ∷ rs)
    (cond (nat_lt (line_after r) b.first) (r ∷ given_back b rs) (given_back (joined_runs b r) rs))
    (λ xs. lines_in_runs xs ≡ b.lines + (r.lines + lines_in_runs rs))
    (λ t. refl)
    (λ t.
    cond_both (nat_lt (line_after r) b.first) (r ∷ given_back b rs) (given_back (joined_runs b r) rs)
    (λ xs. lines_in_runs xs ≡ b.lines + (r.lines + lines_in_runs rs))
    (λ u. omega (arith, lines_in_runs-given_back b (line_after r + 1) rs l s.3 c.1))
    (λ u.
    joins (λ one. lines_in_runs-given_back (joined_runs b r) (line_after r + 1) rs one s.3)
    (touches b r c.0 (ltb-false (line_after b) r.first t) (ltb-false (line_after r) b.first u))))
  where
    joins : (0 < (joined_runs b r).lines → IsClear (joined_runs b r) rs → lines_in_runs (given_back (joined_runs b r) rs) ≡ (joined_runs b r).lines + lines_in_runs rs)
        → Touches b r → lines_in_runs (given_back (joined_runs b r) rs) ≡ b.lines + (r.lines + lines_in_runs rs)
    joins later t =
        let h1 = s.1 in
        let one : 0 < (joined_runs b r).lines = omega arith in
        let both : (joined_runs b r).lines ≡ b.lines + r.lines = sum t in
        omega (arith, later one (clear_joined b r (line_after r + 1) rs t l s.1 (omega arith) s.3 c.1))
      where
        sum : Touches b r → (joined_runs b r).lines ≡ b.lines + r.lines
        sum (inl t) = let h1 = s.1 in omega arith
        sum (inr t) = let h1 = s.1 in omega arith

-- 1 where the run has the line
abbrev pub one_at : ℕ → Run → ℕ
one_at l r = cond (has_line l r) 1 0

one_at-joined_runs : (l : ℕ) (b r : Run) → Touches b r → one_at l (joined_runs b r) ≡ one_at l b + one_at l r
one_at-joined_runs l b r (inl t) = grind (arith, nat_tests)
one_at-joined_runs l b r (inr t) = grind (arith, nat_tests)

pub times_at-given_back : (l : ℕ) (b : Run) (low : ℕ) (rs : List Run) → 0 < b.lines → StandApart low rs → IsClear b rs
    → times_at l (given_back b rs) ≡ one_at l b + times_at l rs
times_at-given_back l b low [] n s c = refl
times_at-given_back l b low (r ∷ rs) n s c =
    cond_both (nat_lt (line_after b) r.first) (b ∷ r ∷ rs)
    (cond (nat_lt (line_after r) b.first) (r ∷ given_back b rs) (given_back (joined_runs b r) rs))
    (λ xs. times_at l xs ≡ one_at l b + (one_at l r + times_at l rs))
    (λ t. refl)
    (λ t.
    cond_both (nat_lt (line_after r) b.first) (r ∷ given_back b rs) (given_back (joined_runs b r) rs)
    (λ xs. times_at l xs ≡ one_at l b + (one_at l r + times_at l rs))
    (λ u. omega (arith, times_at-given_back l b (line_after r + 1) rs n s.3 c.1))
    (λ u.
    joins (λ one. times_at-given_back l (joined_runs b r) (line_after r + 1) rs one s.3)
    (touches b r c.0 (ltb-false (line_after b) r.first t) (ltb-false (line_after r) b.first u))))
  where
    joins : (0 < (joined_runs b r).lines → IsClear (joined_runs b r) rs → times_at l (given_back (joined_runs b r) rs) ≡ one_at l (joined_runs b r) + times_at l rs)
        → Touches b r → times_at l (given_back (joined_runs b r) rs) ≡ one_at l b + (one_at l r + times_at l rs)
    joins later t =
        let h1 = s.1 in
        let one : 0 < (joined_runs b r).lines = omega arith in
        omega (arith, one_at-joined_runs l b r t, later one (clear_joined b r (line_after r + 1) rs t n s.1 (omega arith) s.3 c.1))

-- a buffer whose lines are in no run is clear of them
pub clear_from_times : (b : Run) (rs : List Run) → IsHeapRun b → StandWithin rs
    → ((l : ℕ) → 225 ≤ l → l < 256 → one_at l b + times_at l rs ≤ 1) → IsClear b rs
clear_from_times b [] w s h = tt
clear_from_times b (r ∷ rs) w s h = (
  apart (cases_lt r.first (line_after b)) (cases_lt b.first (line_after r)),
  clear_from_times b rs w s.1 (λ l a z. omega (arith, h l a z)),
)
  where
    apart : (r.first < line_after b) ⊎ (line_after b ≤ r.first) → (b.first < line_after r) ⊎ (line_after r ≤ b.first)
        → (line_after b ≤ r.first) ⊎ (line_after r ≤ b.first)
    apart (inr k) m = inl k
    apart (inl k) (inr m) = inr m
    apart (inl k) (inl m) =
        let w0 = w.0 in let w1 = w.1 in let w2 = w.2 in let s0 = s.0 in
        let l : ℕ = max b.first r.first in
        let in_b : one_at l b ≡ 1 = grind (arith, nat_tests) in
        let in_r : one_at l r ≡ 1 = grind (arith, nat_tests) in
        absurd (omega (arith, h l (omega arith) (omega arith)))
