-- Tries over events that are put together: one vain try more, and no vain try left after one that was not vain.
use Rattle.std.proofs.Common.{◌≡◌, ℕ, zero, suc, ◌+◌, ◌<◌, ◌≤◌, Bool, true, false, not, ◌&&◌, ◌||◌, ◌==◌, if◌then◌else◌, List, [], ◌∷◌, ◌++◌, Option, None, Some, slice_index, refl, sym, ◌∙◌, ap, arith}
use Rattle.scc_base.specs.Places.{WordAt, line_of_word}
use Rattle.scc_base.specs.declared.events.Event.{Event}
use Rattle.scc_base.specs.declared.events.Spot.{Spot}
use Rattle.scc_proto.proofs.Tests.{eqb_same}
use Rattle.put_get.specs.Accesses.{loads_of}
use Rattle.sync_flags.specs.Flags.{is_set_in}
use Rattle.sync_flags.specs.Tries.{Aim, AtFlag, AtWord, is_unwanted, is_write, is_changing, is_try, has_failed, tries_from, tries_at, failed_from, failed_tries, changing_after, all_failed, has_write, spot_of, Tried, NoTry, Failed, Fruitful}
use Rattle.sync_flags.proofs.FailedLemmas.{as_tries, failed-append}

pub changing-append : (changing : Bool) (a b : List Event) → changing_after changing (a ++ b) ≡ changing_after (changing_after changing a) b
changing-append changing [] b = refl
changing-append changing (e ∷ a) b = changing-append (is_changing changing e.access e.value) a b

pub tries-append : (aim : Aim) (changing : Bool) (n : ℕ) (a b : List Event)
    → tries_from aim changing n (a ++ b) ≡ tries_from aim (changing_after changing a) (tries_from aim changing n a) b
tries-append aim changing n [] b = refl
tries-append aim changing n (e ∷ a) b =
    tries-append aim (is_changing changing e.access e.value) (if is_try changing aim e then suc n else n) a b

one_added : (t : Bool) (n one none : ℕ) → one ≡ 1 + none → (if t then suc n else n) + none ≡ n + (if t then one else none)
one_added true n one none e = omega (arith, e)
one_added false n one none e = refl

count_by_test : (aim : Aim) (changing t : Bool) (es : List Event)
    → (if t then tries_from aim changing 1 es else tries_from aim changing 0 es) ≡ tries_from aim changing (if t then 1 else 0) es
count_by_test aim changing true es = refl
count_by_test aim changing false es = refl

-- the tries are counted on from those before
pub tries_add : (aim : Aim) (changing : Bool) (n : ℕ) (es : List Event) → tries_from aim changing n es ≡ n + tries_from aim changing 0 es
tries_add aim changing n [] = omega arith
tries_add aim changing n (e ∷ es) =
    let now = is_changing changing e.access e.value in
    let t = is_try changing aim e in
    tries_add aim now (if t then suc n else n) es
    ∙ one_added t n (tries_from aim now 1 es) (tries_from aim now 0 es) (tries_add aim now 1 es)
    ∙ ap (λ (k : ℕ). n + k) (count_by_test aim now t es)

-- ---- no try, and one that was not vain

same_anyhow : (b : Bool) (k : ℕ) → (if b then k else k) ≡ k
same_anyhow true k = refl
same_anyhow false k = refl

none_next : (aim : Aim) (changing t : Bool) (e : Event) (es : List Event) → is_try changing aim e ≡ t
    → tries_from aim (is_changing changing e.access e.value) (if t then 1 else 0) es ≡ 0
    → (tries_from aim (is_changing changing e.access e.value) 0 es ≡ 0
    → (all_failed aim (is_changing changing e.access e.value) es ≡ true) × (failed_from aim (is_changing changing e.access e.value) 0 es ≡ 0))
    → (all_failed aim changing (e ∷ es) ≡ true) × (failed_from aim changing 0 (e ∷ es) ≡ 0)
none_next aim changing true e es a none again =
    let more = tries_add aim (is_changing changing e.access e.value) 1 es in absurd (omega (arith, more, none))
none_next aim changing false e es a none again =
    let rest = again none in (
      (λ i. (not (a i) || has_failed aim e) && rest.0 i),
      (λ i. failed_from aim (is_changing changing e.access e.value) (if a i then (if has_failed aim e then 1 else 0) else (if is_write e.access then 0 else 0)) es)
          ∙ ap (λ (k : ℕ). failed_from aim (is_changing changing e.access e.value) k es) (same_anyhow (is_write e.access) 0) ∙ rest.1,
    )

-- where no try was made, no try was not vain, and none is counted
pub none_tried : (aim : Aim) (changing : Bool) (es : List Event) → tries_from aim changing 0 es ≡ 0
    → (all_failed aim changing es ≡ true) × (failed_from aim changing 0 es ≡ 0)
none_tried aim changing [] none = (refl, refl)
none_tried aim changing (e ∷ es) none =
    none_next aim changing (is_try changing aim e) e es refl none (none_tried aim (is_changing changing e.access e.value) es)

fruitful_next : (aim : Aim) (changing t x : Bool) (n : ℕ) (e : Event) (es : List Event) → is_try changing aim e ≡ t → has_failed aim e ≡ x
    → tries_from aim (is_changing changing e.access e.value) (if t then 1 else 0) es ≡ 1
    → ((not t || x) && all_failed aim (is_changing changing e.access e.value) es) ≡ false
    → (tries_from aim (is_changing changing e.access e.value) 0 es ≡ 1 → all_failed aim (is_changing changing e.access e.value) es ≡ false
    → (m : ℕ) → failed_from aim (is_changing changing e.access e.value) m es ≡ 0)
    → failed_from aim changing n (e ∷ es) ≡ 0
fruitful_next aim changing true true n e es a b one failed again =
    let more = tries_add aim (is_changing changing e.access e.value) 1 es in
    let none : tries_from aim (is_changing changing e.access e.value) 0 es ≡ 0 = omega (arith, more, one) in
    let all = (none_tried aim (is_changing changing e.access e.value) es none).0 in
    let not_so : true ≡ false = sym all ∙ failed in absurd (cc)
fruitful_next aim changing true false n e es a b one failed again =
    let more = tries_add aim (is_changing changing e.access e.value) 1 es in
    let none : tries_from aim (is_changing changing e.access e.value) 0 es ≡ 0 = omega (arith, more, one) in
    (λ i. failed_from aim (is_changing changing e.access e.value) (if a i then (if b i then suc n else 0) else (if is_write e.access then 0 else n)) es)
    ∙ (none_tried aim (is_changing changing e.access e.value) es none).1
fruitful_next aim changing false x n e es a b one failed again =
    (λ i. failed_from aim (is_changing changing e.access e.value) (if a i then (if has_failed aim e then suc n else 0) else (if is_write e.access then 0 else n)) es)
    ∙ again one failed (if is_write e.access then 0 else n)

-- one try that was not vain leaves no vain one
pub fruitful : (aim : Aim) (changing : Bool) (n : ℕ) (es : List Event) → tries_from aim changing 0 es ≡ 1 → all_failed aim changing es ≡ false
    → failed_from aim changing n es ≡ 0
fruitful aim changing n [] one failed = absurd (cc)
fruitful aim changing n (e ∷ es) one failed =
    fruitful_next aim changing (is_try changing aim e) (has_failed aim e) n e es refl refl one failed
    (λ o v m. fruitful aim (is_changing changing e.access e.value) m es o v)

-- ---- the events of a call, and those of one turn more

-- one vain try more, in a turn that writes nothing
pub one_more : (aim : Aim) (n : ℕ) (events more : List Event) → changing_after false events ≡ false → n ≤ failed_tries aim events
    → tries_at aim more ≡ 1 → all_failed aim false more ≡ true → has_write more ≡ false → n + 1 ≤ failed_tries aim (events ++ more)
one_more aim n events more settled enough one failed quiet =
    let add = tries_add aim false (failed_tries aim events) more in
    let count : failed_tries aim (events ++ more) ≡ tries_from aim false (failed_tries aim events) more
    = failed-append aim false 0 events more ∙ ap (λ (b : Bool). failed_from aim b (failed_tries aim events) more) settled
    ∙ as_tries aim false (failed_tries aim events) more failed quiet in
    omega (arith, add, count, one, enough)

-- a turn whose one try was not vain
pub none_left : (aim : Aim) (events more : List Event) → changing_after false events ≡ false → tries_at aim more ≡ 1 → all_failed aim false more ≡ false
    → failed_tries aim (events ++ more) ≡ 0
none_left aim events more settled one failed =
    failed-append aim false 0 events more ∙ ap (λ (b : Bool). failed_from aim b (failed_tries aim events) more) settled
    ∙ fruitful aim false (failed_tries aim events) more one failed

-- a turn that waits has made one try, which was vain
pub record Waited (aim : Option Aim) (events : List Event) (spot : Spot) : Type 0 where
  pub at : Aim
  pub is : aim ≡ Some at
  pub one : tries_at at events ≡ 1
  pub failed : all_failed at false events ≡ true
  pub spot_is : spot ≡ spot_of at

some_is : (spot other : Spot) → Some spot ≡ Some other → spot ≡ other
some_is spot other e = cc

pub some_aim : (a b : Aim) → Some a ≡ Some b → a ≡ b
some_aim a b e = cc

pub waited : {aim : Option Aim} {events : List Event} {spot : Spot} → Tried aim events (Some spot) → Waited aim events spot
waited (NoTry none w) = absurd (cc)
waited {spot = spot} (Failed at is one failed w) = record { at = at; is = is; one = one; failed = failed; spot_is = some_is spot (spot_of at) w }
waited (Fruitful at is one failed w) = absurd (cc)

-- a turn that has an aim and does not wait has made one try, which was not vain
pub went_on : {aim : Option Aim} {events : List Event} → Tried aim events None → (at : Aim) → aim ≡ Some at
    → (tries_at at events ≡ 1) × (all_failed at false events ≡ false)
went_on (NoTry none w) at is = absurd (cc)
went_on (Failed other is one failed w) at here = absurd (cc)
went_on {events = events} (Fruitful other is one failed w) at here =
    let same : other ≡ at = some_aim other at (sym is ∙ here) in
    (ap (λ (x : Aim). tries_at x events) (sym same) ∙ one, ap (λ (x : Aim). all_failed x false events) (sym same) ∙ failed)

-- ---- the loads of a line are one try at a word of it

true_end : (b : Bool) → (b && true) ≡ b
true_end true = refl
true_end false = refl

word_at : (core line word value : ℕ) (words : List ℕ) → word < 4
    → (tries_at (AtWord (record { core = core; line = line; word = word }) value) (loads_of (record { core = core; line = line }) words) ≡ 1)
    × (all_failed (AtWord (record { core = core; line = line; word = word }) value) false (loads_of (record { core = core; line = line }) words) ≡ not (slice_index words word == value))
word_at core line zero value words low = rw (eqb_same core) (rw (eqb_same line) (refl, true_end (not (slice_index words 0 == value))))
word_at core line (suc zero) value words low = rw (eqb_same core) (rw (eqb_same line) (refl, true_end (not (slice_index words 1 == value))))
word_at core line (suc (suc zero)) value words low = rw (eqb_same core) (rw (eqb_same line) (refl, true_end (not (slice_index words 2 == value))))
word_at core line (suc (suc (suc zero))) value words low = rw (eqb_same core) (rw (eqb_same line) (refl, true_end (not (slice_index words 3 == value))))
word_at core line (suc (suc (suc (suc word)))) value words low = absurd (omega (arith, low))

flag_at : (core line word : ℕ) (bit : Option ℕ) (want : Bool) (words : List ℕ) → word < 4
    → (tries_at (AtFlag (record { core = core; line = line; word = word }) bit want) (loads_of (record { core = core; line = line }) words) ≡ 1)
    × (all_failed (AtFlag (record { core = core; line = line; word = word }) bit want) false (loads_of (record { core = core; line = line }) words)
    ≡ is_unwanted want (is_set_in bit (slice_index words word)))
flag_at core line zero bit want words low = rw (eqb_same core) (rw (eqb_same line) (refl, true_end (is_unwanted want (is_set_in bit (slice_index words 0)))))
flag_at core line (suc zero) bit want words low = rw (eqb_same core) (rw (eqb_same line) (refl, true_end (is_unwanted want (is_set_in bit (slice_index words 1)))))
flag_at core line (suc (suc zero)) bit want words low = rw (eqb_same core) (rw (eqb_same line) (refl, true_end (is_unwanted want (is_set_in bit (slice_index words 2)))))
flag_at core line (suc (suc (suc zero))) bit want words low = rw (eqb_same core) (rw (eqb_same line) (refl, true_end (is_unwanted want (is_set_in bit (slice_index words 3)))))
flag_at core line (suc (suc (suc (suc word)))) bit want words low = absurd (omega (arith, low))

-- the loads are one try at the word, which was vain where the word has another value
pub word_tried : (p : WordAt) (value : ℕ) (words : List ℕ) → p.word < 4 → (tries_at (AtWord p value) (loads_of (line_of_word p) words) ≡ 1)
    × (all_failed (AtWord p value) false (loads_of (line_of_word p) words) ≡ not (slice_index words p.word == value))
word_tried p value words low = word_at p.core p.line p.word value words low

-- and one try at a flag in it
pub flag_tried : (p : WordAt) (bit : Option ℕ) (want : Bool) (words : List ℕ) → p.word < 4
    → (tries_at (AtFlag p bit want) (loads_of (line_of_word p) words) ≡ 1)
    × (all_failed (AtFlag p bit want) false (loads_of (line_of_word p) words) ≡ is_unwanted want (is_set_in bit (slice_index words p.word)))
flag_tried p bit want words low = flag_at p.core p.line p.word bit want words low
