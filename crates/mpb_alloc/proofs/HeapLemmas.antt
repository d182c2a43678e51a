-- The heap after a buffer went out and after one came back.
use Rattle.std.proofs.Common.{◌≡◌, ℕ, zero, suc, ◌+◌, ◌-◌, ◌<◌, ◌≤◌, Bool, true, false, cond, ◌==◌, nat_le, List, [], ◌∷◌, ◌++◌, Option, None, Some, is_some, Err, length, get_or, refl, ap, sym, subst, ◌∙◌, ◌⊎◌, inl, inr, max, arith, Contains, option_map}
use Rattle.std.proofs.lemmas.Bool.{lt-leb, le-leb, leb-true, leb-false, eqb-true, eqb-false, eq-eqb, cases_lt, and_parts, and_from, cond_both}
use Rattle.mpb_alloc.specs.declared.heap.Run.{Run}
use Rattle.mpb_alloc.specs.declared.heap.MallocFault.TheVariants.{Full}
use Rattle.scc_base.specs.Places.{LineRun}
use Rattle.mpb_alloc.specs.Heaps.{IsHeapRun, StandWithin, lines_in_runs, times_at, rest_of_run, taken_from, given_back, is_run, without_buffer, lowest_fit, longest_of, run_of_lines, front_of, LineHeap, IsHeap, answer_for}
use Rattle.mpb_alloc.proofs.RunLemmas.{within_from_apart, within-append, lines_in_runs-append, times_at-append, length-le-lines_in_runs, Found, found, taken_apart, given_apart, lines_in_runs-given_back, times_at-given_back, one_at, clear_from_times}
use Rattle.std.proofs.lemmas.Bool.Decides.{nat_tests}

-- a run that fits is there exactly where the longest fits
pub fits_longest : (n : ℕ) (rs : List Run) → 0 < n → nat_le n (longest_of rs) ≡ is_some (lowest_fit n rs)
fits_longest n [] h = lt-leb n 0 h
fits_longest n (r ∷ rs) h =
    cond_both (nat_le n r.lines) (Some r) (lowest_fit n rs) (λ o. nat_le n (max r.lines (longest_of rs)) ≡ is_some o)
    (λ e. let a = leb-true n r.lines e in le-leb n (max r.lines (longest_of rs)) (omega arith))
    (λ e.
    let a = leb-false n r.lines e in
    same (cases_lt (longest_of rs) n) a ∙ fits_longest n rs h)
  where
    same : (longest_of rs < n) ⊎ (n ≤ longest_of rs) → r.lines < n → nat_le n (max r.lines (longest_of rs)) ≡ nat_le n (longest_of rs)
    same (inl k) a = lt-leb n (max r.lines (longest_of rs)) (omega arith) ∙ sym (lt-leb n (longest_of rs) k)
    same (inr k) a = le-leb n (max r.lines (longest_of rs)) (omega arith) ∙ sym (le-leb n (longest_of rs) k)

none_below : {A B : Type 0} (f : A → B) (o : Option A) → None ≡ option_map f o → o ≡ None
none_below f None e = refl
none_below f (Some x) e = absurd (cc)

pub some_below : {A B : Type 0} (f : A → B) (o : Option A) (b : B) → Some b ≡ option_map f o → (r : A) × (o ≡ Some r) × (b ≡ f r)
some_below f None b e = absurd (cc)
some_below f (Some x) b e = (x, refl, (cc))

taken_unfit : (n : ℕ) (rs : List Run) → lowest_fit n rs ≡ None → taken_from n rs ≡ rs
taken_unfit n [] e = refl
taken_unfit n (r ∷ rs) e = by (taken_unfit n rs) (nat_le n r.lines) refl e
  where
    by : (lowest_fit n rs ≡ None → taken_from n rs ≡ rs) → (b : Bool) → nat_le n r.lines ≡ b
        → cond b (Some r) (lowest_fit n rs) ≡ None → taken_from n (r ∷ rs) ≡ r ∷ rs
    by later true e h = absurd (cc)
    by later false e h = rw e (ap (λ xs. r ∷ xs) (later h))

-- where no run fits, the free runs stay and the answer is the fault
pub taken_none : (n : ℕ) (rs : List Run) → None ≡ option_map (front_of n) (lowest_fit n rs) → taken_from n rs ≡ rs
taken_none n rs e = taken_unfit n rs (none_below (front_of n) (lowest_fit n rs) e)

pub answer_none : (n : ℕ) (rs : List Run) → None ≡ option_map (front_of n) (lowest_fit n rs)
    → answer_for n rs ≡ Err (Full n (longest_of rs))
answer_none n rs e = rw (none_below (front_of n) (lowest_fit n rs) e) refl

-- a buffer goes out
pub record Goes (h : LineHeap) (n : ℕ) (b : LineRun) : Type 0 where
  pub heap : IsHeap (record { free = taken_from n h.free; out = h.out ++ run_of_lines b ∷ [] })
  pub room : length h.out < 31

split_once : (l n : ℕ) (r : Run) → 0 < n → n ≤ r.lines
    → one_at l (record { first = r.first; lines = n }) + times_at l (rest_of_run n r) ≡ one_at l r
split_once l n r h k =
    cond_both (r.lines == n) [] ((record { first = r.first + n; lines = r.lines - n }) ∷ [])
    (λ xs. one_at l (record { first = r.first; lines = n }) + times_at l xs ≡ one_at l r)
    (λ e. let f = eqb-true r.lines n e in grind (arith, nat_tests))
    (λ e. let f = eqb-false r.lines n e in grind (arith, nat_tests))

split_lines : (n : ℕ) (r : Run) → n ≤ r.lines → n + lines_in_runs (rest_of_run n r) ≡ r.lines
split_lines n r k =
    cond_both (r.lines == n) [] ((record { first = r.first + n; lines = r.lines - n }) ∷ [])
    (λ xs. n + lines_in_runs xs ≡ r.lines)
    (λ e. let f = eqb-true r.lines n e in omega arith)
    (λ e. omega arith)

within_at : (front back : List Run) (r : Run) → StandWithin (front ++ r ∷ back) → IsHeapRun r
within_at [] back r s = s.0
within_at (x ∷ front) back r s = within_at front back r s.1

pub goes : (h : LineHeap) (n : ℕ) (b : LineRun) → IsHeap h → 0 < n → Some b ≡ option_map (front_of n) (lowest_fit n h.free)
    → Goes h n b
goes h n b s some e =
    let w = some_below (front_of n) (lowest_fit n h.free) b e in
    let f = found n w.0 h.free w.1 in
    let within : StandWithin (f.front ++ w.0 ∷ f.back) = subst StandWithin f.is (within_from_apart h.free 225 (omega arith) s.free_apart) in
    subst (λ x. Goes h n x) (sym w.2) (went h n w.0 s some f (within_at f.front f.back w.0 within))
  where
    went : (h : LineHeap) (n : ℕ) (r : Run) → IsHeap h → 0 < n → Found n r h.free → IsHeapRun r → Goes h n (front_of n r)
    went h n r s some f w =
        let enough = f.enough in
        let w0 = w.0 in let w1 = w.1 in let w2 = w.2 in
        let free_lines : lines_in_runs h.free ≡ lines_in_runs f.front + (r.lines + lines_in_runs f.back) =
        ap lines_in_runs f.is ∙ lines_in_runs-append f.front (r ∷ f.back) in
        let taken_lines : lines_in_runs (taken_from n h.free) ≡ lines_in_runs f.front + (lines_in_runs (rest_of_run n r) + lines_in_runs f.back) =
        rw f.taken (simp lines_in_runs-append) in
        let all = s.all_lines in
        let out_len = length-le-lines_in_runs h.out s.out_within in
        record {
          heap = record {
            free_apart = taken_apart n 225 h.free some s.free_apart;
            out_within = within-append h.out _ s.out_within ((w0, some, omega arith), tt);
            all_lines = simp lines_in_runs-append (omega (arith, split_lines n r enough));
            each_once = λ l a z.
                let one = s.each_once l a z in
                let free_times : times_at l h.free ≡ times_at l f.front + (one_at l r + times_at l f.back) =
                ap (times_at l) f.is ∙ times_at-append l f.front (r ∷ f.back) in
                let taken_times : times_at l (taken_from n h.free) ≡ times_at l f.front + (times_at l (rest_of_run n r) + times_at l f.back) =
                rw f.taken (simp times_at-append) in
                let out_times : times_at l (h.out ++ run_of_lines (front_of n r) ∷ []) ≡ times_at l h.out + (one_at l (run_of_lines (front_of n r)) + 0) =
                times_at-append l h.out (run_of_lines (front_of n r) ∷ []) in
                omega (arith, split_once l n r some enough);
          };
          room = omega arith;
        }

-- a buffer that is out, and the others
pub record Struck (b : Run) (out : List Run) : Type 0 where
  pub lines : lines_in_runs out ≡ b.lines + lines_in_runs (without_buffer b out)
  pub times : (l : ℕ) → times_at l out ≡ one_at l b + times_at l (without_buffer b out)
  pub within : StandWithin out → IsHeapRun b × StandWithin (without_buffer b out)

same_run : (a b : Run) → a.first ≡ b.first → a.lines ≡ b.lines → a ≡ b
same_run a b p q = λ i. record { first = p i; lines = q i }

struck_first : (b r : Run) (rs : List Run) → is_run b r ≡ true → Struck b (r ∷ rs)
struck_first b r rs t =
    let parts = and_parts (b.first == r.first) (b.lines == r.lines) t in
    let same : b ≡ r = same_run b r (eqb-true b.first r.first parts.0) (eqb-true b.lines r.lines parts.1) in
    record {
      lines = rw t (ap (λ x. x.lines + lines_in_runs rs) (sym same));
      times = λ l. rw t (ap (λ x. one_at l x + times_at l rs) (sym same));
      within = λ s. rw t (subst IsHeapRun (sym same) s.0, s.1);
    }

struck_later : (b r : Run) (rs : List Run) → is_run b r ≡ false → Struck b rs → Struck b (r ∷ rs)
struck_later b r rs t s = record {
  lines = rw t (let e = s.lines in omega arith);
  times = λ l. rw t (let e = s.times l in omega arith);
  within = λ w. rw t ((s.within w.1).0, (w.0, (s.within w.1).1));
}

pub struck : (b : Run) (out : List Run) (k : ℕ) → k < length out → get_or out k b ≡ b → Struck b out
struck b [] k h e = absurd (omega arith)
struck b (r ∷ rs) k h e = by (λ j. struck b rs j) (is_run b r) refl k h e
  where
    by : ((j : ℕ) → j < length rs → get_or rs j b ≡ b → Struck b rs) → (t : Bool) → is_run b r ≡ t
        → (k : ℕ) → k < length (r ∷ rs) → get_or (r ∷ rs) k b ≡ b → Struck b (r ∷ rs)
    by later true t k h e = struck_first b r rs t
    by later false t zero h e =
        let same : is_run b r ≡ true =
        and_from (b.first == r.first) (b.lines == r.lines) (eq-eqb b.first r.first (ap (λ x. x.first) (sym e))) (eq-eqb b.lines r.lines (ap (λ x. x.lines) (sym e))) in
        absurd (cc)
    by later false t (suc j) h e = struck_later b r rs t (later j (omega arith) e)

-- a buffer comes back
pub record Comes (h : LineHeap) (b : Run) : Type 0 where
  pub heap : IsHeap (record { free = given_back b h.free; out = without_buffer b h.out })
  pub room : length h.free < 31
  pub within : StandWithin h.free
  pub whole : IsHeapRun b

pub comes : (h : LineHeap) (b : Run) → IsHeap h → Contains h.out b → Comes h b
comes h b s c =
    let k = struck b h.out c.0 c.1 c.2 in
    let w = k.within s.out_within in
    let w0 = w.0.0 in let w1 = w.0.1 in let w2 = w.0.2 in
    let lines = k.lines in
    let all = s.all_lines in
    let within = within_from_apart h.free 225 (omega arith) s.free_apart in
    let free_len = length-le-lines_in_runs h.free within in
    let clear = clear_from_times b h.free w.0 within (λ l a z. let one = s.each_once l a z in let t = k.times l in omega arith) in
    record {
      heap = record {
        free_apart = given_apart b 225 h.free w0 w1 w2 s.free_apart;
        out_within = w.1;
        all_lines = omega (arith, lines_in_runs-given_back b 225 h.free w1 s.free_apart clear);
        each_once = λ l a z.
            let one = s.each_once l a z in
            let t = k.times l in
            omega (arith, times_at-given_back l b 225 h.free w1 s.free_apart clear);
      };
      room = omega arith;
      within = within;
      whole = w.0;
    }
