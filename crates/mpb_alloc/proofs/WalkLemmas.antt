-- A walk along a list of runs, place by place.
use Rattle.std.proofs.Common.{◌≡◌, ℕ, suc, ◌+◌, ◌-◌, ◌<◌, ◌≤◌, true, false, ◌==◌, nat_le, nat_lt, List, ◌∷◌, ◌++◌, Some, length, get_or, take, drop, refl, ap, sym, subst, ◌∙◌, arith, drop-cons, insert, remove, length-append}
use Rattle.std.proofs.Math.Seq.{take-append_seam, drop-append_seam}
use Rattle.std.proofs.lemmas.Grind.{common_steps}
use Rattle.std.proofs.lemmas.List.{length-take, length-drop}
use Rattle.std.proofs.lemmas.Bool.{le-leb, le-ltb, eq-eqb, ne_eqb, and_from}
use Rattle.mpb_alloc.specs.declared.heap.Run.{Run}
use Rattle.mpb_alloc.specs.Heaps.{line_after, IsHeapRun, StandWithin, rest_of_run, taken_from, joined_runs, given_back, is_run, without_buffer, lowest_fit}

-- what stands from a place on begins with the run at that place
pub drop_here : (xs : List Run) (i : ℕ) (r : Run) → i < length xs → r ≡ get_or xs i r → drop i xs ≡ r ∷ drop (suc i) xs
drop_here xs i r h e = drop-cons xs i r h ∙ ap (λ x. x ∷ drop (suc i) xs) (sym e)

-- no run before the place fits
pub record Passed (n at : ℕ) (free : List Run) : Type 0 where
  pub fit : lowest_fit n free ≡ lowest_fit n (drop at free)
  pub taken : taken_from n free ≡ take at free ++ taken_from n (drop at free)
  pub within : StandWithin (drop at free)

-- a run that does not fit is passed
pub passed_one : (n at : ℕ) (free : List Run) (r : Run) → at < length free → r ≡ get_or free at r → Passed n at free
    → r.lines < n → Passed n (at + 1) free
passed_one n at free r h e p few = record {
  fit = grind (arith, common_steps);
  taken = grind (arith, common_steps);
  within = grind (arith, common_steps);
}

-- the run at the place is the lowest that fits
pub record Fits (n at : ℕ) (free : List Run) (r : Run) : Type 0 where
  pub fit : lowest_fit n free ≡ Some r
  pub taken : taken_from n free ≡ take at free ++ (rest_of_run n r ++ drop (suc at) free)
  pub within : IsHeapRun r

pub fits_here : (n at : ℕ) (free : List Run) (r : Run) → at < length free → r ≡ get_or free at r → Passed n at free
    → n ≤ r.lines → Fits n at free r
fits_here n at free r h e p enough =
    let t : nat_le n r.lines ≡ true = le-leb n r.lines enough in
    let d = drop_here free at r h e in
    let w : StandWithin (r ∷ drop (suc at) free) = subst StandWithin d p.within in
    record { fit = p.fit ∙ rw (d, t) refl; taken = p.taken ∙ rw (d, t) refl; within = w.0 }

length_front : (i : ℕ) (xs : List Run) → i ≤ length xs → length (take i xs) ≡ i
length_front i xs h = omega (arith, length-take i xs)

take_seam : (i : ℕ) (xs ys : List Run) → i ≤ length xs → take i (take i xs ++ ys) ≡ take i xs
take_seam i xs ys h =
    subst (λ k. take k (take i xs ++ ys) ≡ take i xs) (length_front i xs h) (take-append_seam (take i xs) ys)

drop_seam : (i : ℕ) (xs ys : List Run) → i ≤ length xs → drop i (take i xs ++ ys) ≡ ys
drop_seam i xs ys h =
    subst (λ k. drop k (take i xs ++ ys) ≡ ys) (length_front i xs h) (drop-append_seam (take i xs) ys)

-- one run in place of another
pub replaced : (i : ℕ) (xs : List Run) (x : Run) → i < length xs
    → insert (remove xs i) i x ≡ take i xs ++ (x ∷ drop (suc i) xs)
replaced i xs x h =
    let le : i ≤ length xs = omega arith in
    rw (take_seam i xs (drop (suc i) xs) le, drop_seam i xs (drop (suc i) xs) le) refl

-- what is left of a run in its place
pub rest_stays : (n at : ℕ) (free : List Run) (r : Run) → Fits n at free r → n ≡ r.lines
    → remove free at ≡ taken_from n free
rest_stays n at free r f e =
    let t : (r.lines == n) ≡ true = eq-eqb r.lines n (sym e) in
    sym (f.taken ∙ rw t refl)

pub rest_replaces : (n at : ℕ) (free : List Run) (r : Run) → at < length free → Fits n at free r → n < r.lines
    → insert (remove free at) at (record { first = r.first + n; lines = r.lines - n }) ≡ taken_from n free
rest_replaces n at free r h f e =
    let t : (r.lines == n) ≡ false = ne_eqb r.lines n (λ q. absurd (omega arith)) in
    replaced at free _ h ∙ sym (f.taken ∙ rw t refl)

-- a run on its way back: what stood before the place stays, and what stands from there on takes the run
pub record Giving (first : Run) (initial : List Run) (now : Run) (at : ℕ) (free : List Run) : Type 0 where
  pub is : given_back first initial ≡ take at free ++ given_back now (drop at free)
  pub within : StandWithin (drop at free)
  pub whole : IsHeapRun now
  pub room : length free < 31
  pub bound : at ≤ length free

-- the run at the place is joined_runs with it
pub giving_joined : (first : Run) (initial : List Run) (run : Run) (at : ℕ) (free : List Run) (other : Run)
    → Giving first initial run at free → at < length free → other ≡ get_or free at other
    → other.first ≤ line_after run → run.first ≤ line_after other → Giving first initial (joined_runs run other) at (remove free at)
giving_joined first initial run at free other g h e a b =
    let d = drop_here free at other h e in
    let le : at ≤ length free = omega arith in
    let w : StandWithin (other ∷ drop (suc at) free) = subst StandWithin d g.within in
    let o = w.0 in
    let r = g.whole in
    let t : nat_lt (line_after run) other.first ≡ false = le-ltb (line_after run) other.first a in
    let u : nat_lt (line_after other) run.first ≡ false = le-ltb (line_after other) run.first b in
    let len : length (remove free at) + 1 ≡ length free = simp (length-append, length-take, length-drop) (omega arith) in
    let room = g.room in
    record {
      is = g.is ∙ rw (d, t, u, take_seam at free (drop (suc at) free) le, drop_seam at free (drop (suc at) free) le) refl;
      within = subst StandWithin (sym (drop_seam at free (drop (suc at) free) le)) w.1;
      whole = (omega arith, omega arith, omega arith);
      room = omega arith;
      bound = omega arith;
    }

-- the run at the place ends before the one on its way back, and stays
pub giving_passed : (first : Run) (initial : List Run) (run : Run) (at : ℕ) (free : List Run) (other : Run)
    → Giving first initial run at free → at < length free → other ≡ get_or free at other
    → other.first ≤ line_after run → line_after other < run.first → Giving first initial run (at + 1) free
giving_passed first initial run at free other g h e a b = record {
  is = grind (arith, common_steps);
  within = grind (arith, common_steps);
  whole = g.whole;
  room = g.room;
  bound = omega arith;
}

-- the buffer at the place is the one
pub strikes_here : (b : Run) (at : ℕ) (out : List Run) (other : Run) → at < length out → other ≡ get_or out at other
    → b.first ≡ other.first → b.lines ≡ other.lines → without_buffer b out ≡ take at out ++ without_buffer b (drop at out)
    → remove out at ≡ without_buffer b out
strikes_here b at out other h e f l is =
    let d = drop_here out at other h e in
    let t : is_run b other ≡ true =
    and_from (b.first == other.first) (b.lines == other.lines) (eq-eqb b.first other.first f) (eq-eqb b.lines other.lines l) in
    sym (is ∙ rw (d, t) refl)
