-- Parts of a list, and what a change in one part leaves of the others.
use Rattle.std.proofs.Common.{◌≡◌, ℕ, ◌+◌, ◌-◌, ◌≤◌, List, ◌++◌, length, take, drop, sym, ap, ◌∙◌, arith, length-take-le, length-drop, take-append-drop}
use Rattle.std.proofs.lemmas.List.{drop-drop, drop-take, drop_at, take-take, take_at}
use Rattle.coll_more.specs.Ops.{window}

pub window_long : (first len : ℕ) (bytes : List ℕ) → first + len ≤ length bytes → length (window first len bytes) ≡ len
window_long first len bytes fits =
    let rest = length-drop first bytes in
    length-take-le len (drop first bytes) (omega (arith, rest, fits))

module _ (old new : List ℕ) where
  -- a part in front of the change
  pub window_front : (m a b : ℕ) → a + b ≤ m → take m new ≡ take m old → window a b new ≡ window a b old
  window_front m a b fits same =
      sym (cut new) ∙ ap (λ (l : List ℕ). drop a (take (a + b) l)) same ∙ cut old
    where
      cut : (l : List ℕ) → drop a (take (a + b) (take m l)) ≡ window a b l
      cut l = ap (drop a) (take-take (a + b) m l fits) ∙ drop-take a b l

  -- a part behind the change
  pub window_back : (m a b : ℕ) → m ≤ a → drop m new ≡ drop m old → window a b new ≡ window a b old
  window_back m a b fits same =
      sym (cut new) ∙ ap (λ (l : List ℕ). take b (drop (a - m) l)) same ∙ cut old
    where
      cut : (l : List ℕ) → take b (drop (a - m) (drop m l)) ≡ window a b l
      cut l = let sum : m + (a - m) ≡ a = omega (arith, fits) in ap (take b) (drop-drop (a - m) m l ∙ ap (λ (n : ℕ). drop n l) sum)

  -- three parts are the whole
  pub same_parts : (a b : ℕ) → take a new ≡ take a old → window a b new ≡ window a b old → drop (a + b) new ≡ drop (a + b) old → new ≡ old
  same_parts a b front middle afterwards =
      sym (parts new) ∙ (λ i. front i ++ (middle i ++ afterwards i)) ∙ parts old
    where
      parts : (l : List ℕ) → take a l ++ (window a b l ++ drop (a + b) l) ≡ l
      parts l =
          ap (λ (x : List ℕ). take a l ++ (window a b l ++ x)) (sym (drop-drop b a l)) ∙ ap (λ (x : List ℕ). take a l ++ x) (take-append-drop b (drop a l)) ∙ take-append-drop a l

-- ---- a part that is written

module _ (front part rest : List ℕ) (first len : ℕ) (at : length front ≡ first) (long : length part ≡ len) where
  pub window_part : window first len (front ++ (part ++ rest)) ≡ part
  window_part = ap (take len) (drop_at front (part ++ rest) first at) ∙ take_at part rest len long

  pub drop_part : drop (first + len) (front ++ (part ++ rest)) ≡ rest
  drop_part = sym (drop-drop len first (front ++ (part ++ rest))) ∙ ap (drop len) (drop_at front (part ++ rest) first at) ∙ drop_at part rest len long

-- a list that was cut there, and behind the part
pub window_of_parts : (whole front afterwards part rest : List ℕ) (first len : ℕ) → whole ≡ front ++ afterwards → afterwards ≡ part ++ rest
    → length front ≡ first → length part ≡ len → window first len whole ≡ part
window_of_parts whole front afterwards part rest first len cut then at long =
    ap (window first len) (cut ∙ ap (λ (x : List ℕ). front ++ x) then) ∙ window_part front part rest first len at long
