-- The line that a lab's evictor names leaves, and no other.
use Rattle.std.proofs.Common.{◌≡◌, ◌≢◌, ◌&&◌, ℕ, zero, suc, ◌+◌, ◌<◌, ◌≤◌, ◌==◌, nat_lt, Bool, true, false, not, if◌then◌else◌, List, [], ◌∷◌, ◌++◌, drop, length, map, remove, slice_get, Option, None, Some, IfSome, is_some, refl, sym, ◌∙◌, ap, subst, arith}
use Rattle.std.specs.List.{range_with_len}
use Rattle.scc_base.specs.Places.{LineAt, same_line}
use Rattle.std.proofs.lemmas.Bool.Decides.{nat_tests}
use Rattle.scc_proto.proofs.Tests.{eqb_same, true_not_false}
use Rattle.line_cache.specs.declared.cache.Entry.{Entry}
use Rattle.line_cache.specs.Lines.{AreDistinct, IsCache, IsPlaceOf, with_filled_line, cached_words, most_lines}
use Rattle.line_cache.specs.Eviction.{MayAnswer, answers_of}
use Rattle.line_cache.proofs.LineLemmas.{cache-push, cache-remove, held-push, held-remove, not_held, same_line-is}
use Rattle.put_get.specs.Cores.{Private, Fills, Kept, Dropped}
use Rattle.lab_plain.specs.Scenes.{is_evicted, lines_after_evictor, without_line}
use Rattle.lab_run.specs.Evicting.{IsPlaceIn, named_answer}

at_place : (answer : ℕ → Option ℕ) (from n k : ℕ) → k < n → slice_get (map answer (range_with_len from n)) k ≡ Some (answer (from + k))
at_place answer from zero k below = absurd (omega (arith, below))
at_place answer from (suc n) zero below = let same : from ≡ from + 0 = omega arith in ap (λ (j : ℕ). Some (answer j)) same
at_place answer from (suc n) (suc k) below =
    let same : from + 1 + k ≡ from + suc k = omega arith in
    at_place answer (from + 1) n k (omega (arith, below)) ∙ ap (λ (j : ℕ). Some (answer j)) same

-- an evictor with one possible answer returns it
answered_so : (answer : ℕ → Option ℕ) (held : ℕ) (r : Option ℕ) → held ≤ most_lines → MayAnswer (answers_of answer) held r → r ≡ answer held
unfolding answers_of
answered_so answer held r few given =
    let here : 0 + held ≡ held = omega arith in
    let at = at_place answer 0 (most_lines + 1) held (omega (arith, few)) ∙ ap (λ (k : ℕ). Some (answer k)) here in
    subst (λ (o : Option (Option ℕ)). IfSome o (λ only. r ≡ only)) at given

-- ---- places

-- the place of a line in a list, after it was added at the end
pub place_new : (es : List Entry) (e : Entry) (line : LineAt) → line ≡ e.line → IsPlaceOf (es ++ e ∷ []) line (Some (length es))
place_new [] e line is = (sym is, omega arith)
place_new (x ∷ es) e line is = let rest = place_new es e line is in (rest.0, omega (arith, rest.1))

place_left : (es : List Entry) (e : Entry) (line : LineAt) (at : ℕ) → IsPlaceOf es line (Some at) → IsPlaceOf (es ++ e ∷ []) line (Some at)
place_left [] e line at place = absurd (omega (arith, place.1))
place_left (x ∷ es) e line zero place = (place.0, omega arith)
place_left (x ∷ es) e line (suc at) place = let rest = place_left es e line at (place.0, omega (arith, place.1)) in (rest.0, omega (arith, rest.1))

pub place_old : (es : List Entry) (e : Entry) (line : LineAt) (at : Option ℕ) → same_line e.line line ≡ false → IsPlaceOf es line at → IsPlaceOf (es ++ e ∷ []) line at
place_old es e line None other none = held-push es e line none other
place_old es e line (Some at) other place = place_left es e line at place

-- ---- what leaves

less : (a b : ℕ) → a ≢ b → a ≤ b → a < b
less a b other few = omega (arith, other, few)

-- the entries that stay when a new one comes in
cache_front : (es : List Entry) (line : LineAt) (full : Bool) → (length es == most_lines) ≡ full → IsCache es → cached_words es line ≡ None
    → (length (if full then drop 1 es else es) < most_lines) × IsCache (if full then drop 1 es else es) × (cached_words (if full then drop 1 es else es) line ≡ None)
cache_front es line false not_full cache new =
    (omega (arith, less (length es) most_lines (λ same. true_not_false (sym (ap (λ (n : ℕ). n == most_lines) same ∙ eqb_same most_lines) ∙ not_full)) cache.few), cache, new)
cache_front [] line true is_full cache new = (omega arith, cache, new)
cache_front (x ∷ es) line true is_full cache new = (omega (arith, cache.few), cache-remove (x ∷ es) 0 cache, held-remove (x ∷ es) 0 line new)

pub cache_filled : (es : List Entry) (line : LineAt) (words : List ℕ) → IsCache es → cached_words es line ≡ None → IsCache (with_filled_line es line words)
cache_filled es line words cache new =
    let front = cache_front es line (length es == most_lines) refl cache new in
    cache-push (if length es == most_lines then drop 1 es else es) (record { line = line; words = words }) front.0 front.1 front.2

kept_first : (line : LineAt) (e : Entry) (es : List Entry) → same_line e.line line ≡ false → without_line line (e ∷ es) ≡ e ∷ without_line line es
kept_first line e es other = ap (λ (b : Bool). if not b then e ∷ without_line line es else without_line line es) other

left_first : (line : LineAt) (e : Entry) (es : List Entry) → same_line e.line line ≡ true → without_line line (e ∷ es) ≡ without_line line es
left_first line e es same = ap (λ (b : Bool). if not b then e ∷ without_line line es else without_line line es) same

without_none : (line : LineAt) (es : List Entry) → cached_words es line ≡ None → without_line line es ≡ es
without_none line [] none = refl
without_none line (e ∷ es) none = let n = not_held e es line none in kept_first line e es n.0 ∙ ap (λ (l : List Entry). e ∷ l) (without_none line es n.1)

pub line_self : (line : LineAt) → same_line line line ≡ true
line_self line = grind (arith, nat_tests)

some_held : (es : List Entry) (line : LineAt) (at : ℕ) → IsPlaceOf es line (Some at) → is_some (cached_words es line) ≡ true
some_held [] line at place = absurd (omega (arith, place.1))
some_held (e ∷ es) line zero place = ap (λ (b : Bool). is_some (if b then Some e.words else cached_words es line)) (ap (λ (l : LineAt). same_line l line) place.0 ∙ line_self line)
some_held (e ∷ es) line (suc at) place = by (same_line e.line line) (some_held es line at (place.0, omega (arith, place.1)))
  where
    by : (b : Bool) → is_some (cached_words es line) ≡ true → is_some (if b then Some e.words else cached_words es line) ≡ true
    by true some = refl
    by false some = some

-- the words of a line that has a place are held
pub words_held : (es : List Entry) (line : LineAt) (at : Option ℕ) → is_some at ≡ true → IsPlaceOf es line at → (words : List ℕ) × (cached_words es line ≡ Some words)
words_held es line None some place = absurd (true_not_false (sym some))
words_held es line (Some at) some place = by (cached_words es line) refl (some_held es line at place)
  where
    by : (o : Option (List ℕ)) → cached_words es line ≡ o → is_some (cached_words es line) ≡ true → (words : List ℕ) × (cached_words es line ≡ Some words)
    by None is there = absurd (true_not_false (sym there ∙ ap (λ (x : Option (List ℕ)). is_some x) is))
    by (Some words) is there = (words, is)

none_some : (o : Option (List ℕ)) → o ≡ None → is_some o ≡ true → ⊥
none_some o none some = true_not_false (sym some ∙ ap (λ (x : Option (List ℕ)). is_some x) none)

removed_is : (es : List Entry) (line : LineAt) (at : ℕ) → AreDistinct es → IsPlaceOf es line (Some at) → remove es at ≡ without_line line es
removed_is [] line at distinct place = absurd (omega (arith, place.1))
removed_is (e ∷ es) line zero distinct place =
    sym (left_first line e es (ap (λ (l : LineAt). same_line l line) place.0 ∙ line_self line) ∙ without_none line es (subst (λ (l : LineAt). cached_words es l ≡ None) place.0 distinct.0))
removed_is (e ∷ es) line (suc at) distinct place = by (same_line e.line line) refl
    (removed_is es line at distinct.1 (place.0, omega (arith, place.1))) (some_held es line at (place.0, omega (arith, place.1)))
  where
    by : (b : Bool) → same_line e.line line ≡ b → remove es at ≡ without_line line es → is_some (cached_words es line) ≡ true → e ∷ remove es at ≡ without_line line (e ∷ es)
    by true same rest some = absurd (none_some (cached_words es line) (subst (λ (l : LineAt). cached_words es l ≡ None) (same_line-is e.line line same) distinct.0) some)
    by false other rest some = ap (λ (l : List Entry). e ∷ l) rest ∙ sym (kept_first line e es other)

-- ---- a fill

pub record Leaves (evict : Option LineAt) (es : List Entry) (at : Option ℕ) (now : List Entry) : Type 0 where
  pub lines : now ≡ lines_after_evictor evict es
  pub left : is_some at ≡ is_evicted evict es

leaves_none : (evict : Option LineAt) (es : List Entry) → IsPlaceIn evict es None → Leaves evict es None es
leaves_none None es place = record { lines = refl; left = refl }
leaves_none (Some line) es place = record { lines = sym (without_none line es place); left = sym (ap (λ (o : Option (List ℕ)). is_some o) place) }

some_none : {P : Type 0} (at : ℕ) → Some at ≡ None → P
some_none at same = true_not_false (ap (λ (o : Option ℕ). is_some o) same)

pub leaves_some : (evict : Option LineAt) (es : List Entry) (at : ℕ) → AreDistinct es → IsPlaceIn evict es (Some at) → Leaves evict es (Some at) (remove es at)
leaves_some None es at distinct place = some_none at place
leaves_some (Some line) es at distinct place = record { lines = removed_is es line at distinct place; left = sym (some_held es line at place) }

named_within : (evict : Option LineAt) (es : List Entry) (at : Option ℕ) → IsPlaceIn evict es at → named_answer (record { at = at; count = 0 }) (length es) ≡ at
named_within evict es None place = refl
named_within None es (Some at) place = some_none at place
named_within (Some line) es (Some at) place = ap (λ (b : Bool). if b then Some at else None) (within (omega (arith, place.1)))
  where
    within : at < length es → (nat_lt at (length es) && not (0 == 18446744073709551615)) ≡ true
    within below = grind (arith, nat_tests)

-- a line came in, and the line that the evictor named left, if it was cached then
pub filled_left : (evict : Option LineAt) (at : Option ℕ) (c : Private) (line : LineAt) (words : List ℕ) (d : Private) → IsCache c.lines → cached_words c.lines line ≡ None
    → IsPlaceIn evict (with_filled_line c.lines line words) at → c.answers ≡ answers_of (named_answer (record { at = at; count = 0 })) → Fills c line words d
    → Leaves evict (with_filled_line c.lines line words) at d.lines × (d.out ≡ c.out)
filled_left evict at c line words d cache new place answers (Kept given is) =
    let came = cache_filled c.lines line words cache new in
    let none : None ≡ at = answered_so _ (length (with_filled_line c.lines line words)) None came.few (subst (λ (table : List (Option ℕ)). MayAnswer table (length (with_filled_line c.lines line words)) None) answers given)
    ∙ named_within evict (with_filled_line c.lines line words) at place in (
      subst (λ (now : List Entry). Leaves evict (with_filled_line c.lines line words) at now) (sym (ap (λ (x : Private). x.lines) is))
          (subst (λ (a : Option ℕ). Leaves evict (with_filled_line c.lines line words) a (with_filled_line c.lines line words)) none
          (leaves_none evict (with_filled_line c.lines line words) (subst (λ (a : Option ℕ). IsPlaceIn evict (with_filled_line c.lines line words) a) (sym none) place))),
      ap (λ (x : Private). x.out) is,
    )
filled_left evict at c line words d cache new place answers (Dropped k below given is) =
    let came = cache_filled c.lines line words cache new in
    let some : Some k ≡ at = answered_so _ (length (with_filled_line c.lines line words)) (Some k) came.few (subst (λ (table : List (Option ℕ)). MayAnswer table (length (with_filled_line c.lines line words)) (Some k)) answers given)
    ∙ named_within evict (with_filled_line c.lines line words) at place in (
      subst (λ (now : List Entry). Leaves evict (with_filled_line c.lines line words) at now) (sym (ap (λ (x : Private). x.lines) is))
          (subst (λ (a : Option ℕ). Leaves evict (with_filled_line c.lines line words) a (remove (with_filled_line c.lines line words) k)) some
          (leaves_some evict (with_filled_line c.lines line words) k came.distinct (subst (λ (a : Option ℕ). IsPlaceIn evict (with_filled_line c.lines line words) a) (sym some) place))),
      ap (λ (x : Private). x.out) is,
    )
