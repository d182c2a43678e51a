-- A row of vain tries at the end of a call is a part of its events without a store and a free, in which each try
-- was vain.
use Rattle.std.proofs.Common.{◌≡◌, ℕ, suc, ◌≤◌, ◌↔◌, Bool, true, false, not, ◌&&◌, ◌||◌, ◌==◌, if◌then◌else◌, List, [], ◌∷◌, ◌++◌, refl, ◌∙◌, ap, subst, arith}
use Rattle.scc_base.specs.declared.events.Access.{Access}
use Rattle.scc_base.specs.declared.events.Access.TheVariants.{Load, Store, Take, Free}
use Rattle.scc_base.specs.declared.events.Event.{Event}
use Rattle.scc_proto.specs.Words.{is_at}
use Rattle.put_get.specs.Transfers.{is_load}
use Rattle.sync_flags.specs.Tries.{Aim, AtFlag, AtWord, AtRegister, is_take, is_write, is_changing, is_try, has_failed, tries_from, failed_after, failed_from, failed_tries, TryFailed, changing_after, all_failed, has_write, EndsFailed}

both : (a b : Bool) → (a && b) ≡ true → (a ≡ true) × (b ≡ true)
both true b t = (refl, t)
both false b t = absurd (cc)

neither : (a b : Bool) → (a || b) ≡ false → (a ≡ false) × (b ≡ false)
neither true b t = absurd (cc)
neither false b t = (refl, t)

-- ---- a part without a write, of which each try was vain, counts all its tries

one_count : (t v w : Bool) (n : ℕ) → (not t || v) ≡ true → w ≡ false → (if t then (if v then suc n else 0) else (if w then 0 else n)) ≡ (if t then suc n else n)
one_count true true w n a b = refl
one_count true false w n a b = absurd (cc)
one_count false v w n a b = λ i. if b i then 0 else n

pub as_tries : (aim : Aim) (changing : Bool) (n : ℕ) (es : List Event) → all_failed aim changing es ≡ true → has_write es ≡ false
    → failed_from aim changing n es ≡ tries_from aim changing n es
as_tries aim changing n [] v w = refl
as_tries aim changing n (e ∷ es) v w =
    let each = both (not (is_try changing aim e) || has_failed aim e) (all_failed aim (is_changing changing e.access e.value) es) v in
    let none = neither (is_write e.access) (has_write es) w in
    ap (λ (m : ℕ). failed_from aim (is_changing changing e.access e.value) m es)
    (one_count (is_try changing aim e) (has_failed aim e) (is_write e.access) n each.0 none.0)
    ∙ as_tries aim (is_changing changing e.access e.value) (if is_try changing aim e then suc n else n) es each.1 none.1

more_tries : (aim : Aim) (changing : Bool) (n m : ℕ) (es : List Event) → n ≤ m → tries_from aim changing n es ≤ tries_from aim changing m es
more_tries aim changing n m [] h = h
more_tries aim changing n m (e ∷ es) h = more_tries aim (is_changing changing e.access e.value) _ _ es (one (is_try changing aim e))
  where
    one : (t : Bool) → (if t then suc n else n) ≤ (if t then suc m else m)
    one true = omega (arith, h)
    one false = h

pub failed-append : (aim : Aim) (changing : Bool) (n : ℕ) (a b : List Event)
    → failed_from aim changing n (a ++ b) ≡ failed_from aim (changing_after changing a) (failed_from aim changing n a) b
failed-append aim changing n [] b = refl
failed-append aim changing n (e ∷ a) b = failed-append aim (is_changing changing e.access e.value) (failed_after aim changing n e) a b

-- ---- where the row begins

data Row (aim : Aim) (changing : Bool) (n : ℕ) (es : List Event) : Type 0 where
  Whole : all_failed aim changing es ≡ true → has_write es ≡ false → Row aim changing n es
  Part : (before last : List Event) → es ≡ before ++ last → failed_from aim changing n es ≡ tries_from aim (changing_after changing before) 0 last
      → all_failed aim (changing_after changing before) last ≡ true → has_write last ≡ false → Row aim changing n es

no_load : (access : Access) → is_load access ≡ true → is_write access ≡ false
no_load Load t = refl
no_load Store t = absurd (cc)
no_load Take t = absurd (cc)
no_load Free t = absurd (cc)

no_take : (access : Access) → is_take access ≡ true → is_write access ≡ false
no_take Load t = absurd (cc)
no_take Store t = absurd (cc)
no_take Take t = refl
no_take Free t = absurd (cc)

-- a try is no store and no free
no_write : (aim : Aim) (changing : Bool) (e : Event) → is_try changing aim e ≡ true → is_write e.access ≡ false
no_write (AtFlag place bit want) changing e t =
    let second = both (not changing) (is_load e.access && is_at place e.place.core e.place.line e.place.word) t in
    no_load e.access (both (is_load e.access) (is_at place e.place.core e.place.line e.place.word) second.1).0
no_write (AtWord place value) changing e t =
    let second = both (not changing) (is_load e.access && is_at place e.place.core e.place.line e.place.word) t in
    no_load e.access (both (is_load e.access) (is_at place e.place.core e.place.line e.place.word) second.1).0
no_write (AtRegister core) changing e t = no_take e.access (both (is_take e.access) (e.place.core == core) t).0

row_next : (aim : Aim) (changing : Bool) (n : ℕ) (e : Event) (es : List Event)
    → Row aim (is_changing changing e.access e.value) (failed_after aim changing n e) es → Row aim changing n (e ∷ es)
row_next aim changing n e es (Part before last p count v w) = Part (e ∷ before) last (ap (λ (x : List Event). e ∷ x) p) count v w
row_next aim changing n e es (Whole v w) = by (is_try changing aim e) (has_failed aim e) (is_write e.access) refl refl refl
  where
    anew : failed_after aim changing n e ≡ 0 → Row aim changing n (e ∷ es)
    anew zero =
        let now = is_changing changing e.access e.value in
        Part (e ∷ []) es refl (ap (λ (m : ℕ). failed_from aim now m es) zero ∙ as_tries aim now 0 es v w) v w

    goes_on : (not (is_try changing aim e) || has_failed aim e) ≡ true → is_write e.access ≡ false → Row aim changing n (e ∷ es)
    goes_on failed quiet = Whole (λ i. failed i && v i) (λ i. quiet i || w i)

    by : (t x q : Bool) → is_try changing aim e ≡ t → has_failed aim e ≡ x → is_write e.access ≡ q → Row aim changing n (e ∷ es)
    by true true q a b c = goes_on (λ i. not (a i) || b i) (no_write aim changing e a)
    by true false q a b c = anew (λ i. if a i then (if b i then suc n else 0) else (if is_write e.access then 0 else n))
    by false x true a b c = anew (λ i. if a i then (if has_failed aim e then suc n else 0) else (if c i then 0 else n))
    by false x false a b c = goes_on (λ i. not (a i) || has_failed aim e) c

row_of : (aim : Aim) (changing : Bool) (n : ℕ) (es : List Event) → Row aim changing n es
row_of aim changing n [] = Whole refl refl
row_of aim changing n (e ∷ es) = row_next aim changing n e es (row_of aim (is_changing changing e.access e.value) (failed_after aim changing n e) es)

-- ---- the law

ends_by : (aim : Aim) (polls : ℕ) (events : List Event) → Row aim false 0 events → polls ≤ failed_tries aim events → EndsFailed aim polls events
ends_by aim polls events (Whole v w) h = record {
  before = [];
  last = events;
  parts = refl;
  enough = subst (λ (m : ℕ). polls ≤ m) (as_tries aim false 0 events v w) h;
  failed = v;
  no_write = w;
}
ends_by aim polls events (Part before last p count v w) h =
    record { before = before; last = last; parts = p; enough = subst (λ (m : ℕ). polls ≤ m) count h; failed = v; no_write = w }

pub try_failed : (aim : Aim) (polls : ℕ) (events : List Event) → TryFailed aim polls events ↔ EndsFailed aim polls events
try_failed aim polls events = (ends_by aim polls events (row_of aim false 0 events), back)
  where
    back : EndsFailed aim polls events → TryFailed aim polls events
    back r =
        let now = changing_after false r.before in
        let count : failed_tries aim events ≡ tries_from aim now (failed_from aim false 0 r.before) r.last
        = ap (λ (es : List Event). failed_tries aim es) r.parts ∙ failed-append aim false 0 r.before r.last ∙ as_tries aim now (failed_from aim false 0 r.before) r.last r.failed r.no_write in
        let none : 0 ≤ failed_from aim false 0 r.before = omega arith in
        let more = more_tries aim now 0 (failed_from aim false 0 r.before) r.last none in
        let enough = r.enough in
        omega (arith, count, more, enough)
