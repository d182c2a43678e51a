-- What the barriers' flags need of a record: its flips, and the counts of the barrier that is open.
use Rattle.std.proofs.Common.{◌≡◌, ◌≢◌, ℕ, suc, ◌-◌, ◌%◌, ◌<◌, ◌≤◌, ◌==◌, Bool, true, false, true≢false, ◌&&◌, nat_lt, nat_le, if◌then◌else◌, Option, Some, None, is_some, refl, sym, ◌∙◌, ap, subst, arith}
use Rattle.std.proofs.lemmas.Bool.Decides.{nat_tests}
use Rattle.scc_proto.specs.Stages.{Stage, Idle, Drafting, Sending, Between, Taking, Barrier, Record}
use Rattle.scc_proto.specs.Views.{View}
use Rattle.scc_proto.specs.Groups.{is_open, has_seen, holds_back, releases, InStep}
use Rattle.scc_proto.specs.Passed.{is_gathering, gathered_barriers}

-- how many members a rank has seen and released in a barrier
pub record Counts : Type 0 where
  pub seen : ℕ
  pub released : ℕ

-- the open barrier of a communicator
abbrev pub bar_at : ℕ → Stage → Option Counts
bar_at comm (Barrier c seen released) = if c == comm then Some (record { seen = seen; released = released }) else None
bar_at comm Idle = None
bar_at comm (Drafting header chunk) = None
bar_at comm (Sending to part message chunk) = None
bar_at comm (Between from message) = None
bar_at comm (Taking from message chunk) = None

abbrev pub seen_in : ℕ → Option Counts → Bool
seen_in place None = false
seen_in place (Some x) = nat_le place x.seen

abbrev pub holds_in : ℕ → Option Counts → Bool
holds_in place None = false
holds_in place (Some x) = nat_lt x.released place

abbrev pub gathers_in : ℕ → Option Counts → Bool
gathers_in last None = false
gathers_in last (Some x) = nat_lt x.seen last

abbrev pub releases_in : ℕ → ℕ → Option Counts → ℕ
releases_in place flips bar = if holds_in place bar then flips - 1 else flips

abbrev pub gathered_in : ℕ → ℕ → Option Counts → ℕ
gathered_in last flips bar = if gathers_in last bar then flips - 1 else flips

pub is_open-bar : (comm : ℕ) (st : Stage) → is_open comm st ≡ is_some (bar_at comm st)
is_open-bar comm (Barrier c seen released) = test (c == comm)
  where
    test : (b : Bool) → b ≡ is_some {T = Counts} (if b then Some (record { seen = seen; released = released }) else None)
    test true = refl
    test false = refl
is_open-bar comm Idle = refl
is_open-bar comm (Drafting header chunk) = refl
is_open-bar comm (Sending to part message chunk) = refl
is_open-bar comm (Between from message) = refl
is_open-bar comm (Taking from message chunk) = refl

pub has_seen-bar : (comm place : ℕ) (st : Stage) → has_seen comm place st ≡ seen_in place (bar_at comm st)
has_seen-bar comm place (Barrier c seen released) = test (c == comm)
  where
    test : (b : Bool) → (b && nat_le place seen) ≡ seen_in place (if b then Some (record { seen = seen; released = released }) else None)
    test true = refl
    test false = refl
has_seen-bar comm place Idle = refl
has_seen-bar comm place (Drafting header chunk) = refl
has_seen-bar comm place (Sending to part message chunk) = refl
has_seen-bar comm place (Between from message) = refl
has_seen-bar comm place (Taking from message chunk) = refl

pub holds_back-bar : (comm place : ℕ) (st : Stage) → holds_back comm place st ≡ holds_in place (bar_at comm st)
holds_back-bar comm place (Barrier c seen released) = test (c == comm)
  where
    test : (b : Bool) → (b && nat_lt released place) ≡ holds_in place (if b then Some (record { seen = seen; released = released }) else None)
    test true = refl
    test false = refl
holds_back-bar comm place Idle = refl
holds_back-bar comm place (Drafting header chunk) = refl
holds_back-bar comm place (Sending to part message chunk) = refl
holds_back-bar comm place (Between from message) = refl
holds_back-bar comm place (Taking from message chunk) = refl

pub is_gathering-bar : (comm last : ℕ) (st : Stage) → is_gathering comm last st ≡ gathers_in last (bar_at comm st)
is_gathering-bar comm last (Barrier c seen released) = test (c == comm)
  where
    test : (b : Bool) → (b && nat_lt seen last) ≡ gathers_in last (if b then Some (record { seen = seen; released = released }) else None)
    test true = refl
    test false = refl
is_gathering-bar comm last Idle = refl
is_gathering-bar comm last (Drafting header chunk) = refl
is_gathering-bar comm last (Sending to part message chunk) = refl
is_gathering-bar comm last (Between from message) = refl
is_gathering-bar comm last (Taking from message chunk) = refl

pub releases-bar : (comm place : ℕ) (rec : Record) → releases comm place rec ≡ releases_in place (rec.flips comm) (bar_at comm rec.stage)
releases-bar comm place rec = ap (λ (b : Bool). if b then rec.flips comm - 1 else rec.flips comm) (holds_back-bar comm place rec.stage)

pub gathered-bar : (comm last : ℕ) (rec : Record) → gathered_barriers comm last rec ≡ gathered_in last (rec.flips comm) (bar_at comm rec.stage)
gathered-bar comm last rec = ap (λ (b : Bool). if b then rec.flips comm - 1 else rec.flips comm) (is_gathering-bar comm last rec.stage)

-- a member against its root: the member's release flag and place, the root's flips and open barrier, and the
-- member's own
pub record Level (place release root_flips : ℕ) (root : Option Counts) (flips : ℕ) (own : Option Counts) : Type 0 where
  pub release_flag : release ≡ releases_in place root_flips root % 2
  pub entered : releases_in place root_flips root ≤ flips
  pub not_ahead : flips ≤ suc (releases_in place root_flips root)
  pub waits : flips ≡ suc (releases_in place root_flips root) → is_some own ≡ true
  pub seen : seen_in place root ≡ true → root_flips ≤ flips

pub level_of : (view : View) (comm place r : ℕ) (root member : Record) → InStep view comm place r root member
    → Level place (view.release comm r) (root.flips comm) (bar_at comm root.stage) (member.flips comm) (bar_at comm member.stage)
level_of view comm place r root member step = record {
  release_flag = step.release_flag ∙ ap (λ (n : ℕ). n % 2) same;
  entered = subst (λ (n : ℕ). n ≤ member.flips comm) same step.entered;
  not_ahead = subst (λ (n : ℕ). member.flips comm ≤ suc n) same step.not_ahead;
  waits = λ is. sym (is_open-bar comm member.stage) ∙ step.waits (is ∙ ap suc (sym same));
  seen = λ is. step.seen (has_seen-bar comm place root.stage ∙ is);
}
  where
    same : releases comm place root ≡ releases_in place (root.flips comm) (bar_at comm root.stage)
    same = releases-bar comm place root

pub step_of : (view : View) (comm place r : ℕ) (root member : Record)
    → Level place (view.release comm r) (root.flips comm) (bar_at comm root.stage) (member.flips comm) (bar_at comm member.stage) → InStep view comm place r root member
step_of view comm place r root member level = record {
  release_flag = level.release_flag ∙ ap (λ (n : ℕ). n % 2) (sym same);
  entered = subst (λ (n : ℕ). n ≤ member.flips comm) (sym same) level.entered;
  not_ahead = subst (λ (n : ℕ). member.flips comm ≤ suc n) (sym same) level.not_ahead;
  waits = λ is. is_open-bar comm member.stage ∙ level.waits (is ∙ ap suc same);
  seen = λ is. level.seen (sym (has_seen-bar comm place root.stage) ∙ is);
}
  where
    same : releases comm place root ≡ releases_in place (root.flips comm) (bar_at comm root.stage)
    same = releases-bar comm place root

-- a member that is in no barrier enters one
pub level_enters : (place release root_flips flips : ℕ) (root : Option Counts) (x : Counts) → Level place release root_flips root flips None → Level place release root_flips root (suc flips) (Some x)
level_enters place release root_flips flips root x level = record {
  release_flag = level.release_flag;
  entered = let entered = level.entered in omega (arith, entered);
  not_ahead = let level_now = level.not_ahead in let open_now = level.waits in grind arith;
  waits = λ is. refl;
  seen = λ is. let seen = level.seen is in omega (arith, seen);
}

-- a root that is in no barrier enters one
pub level_root_enters : (place release root_flips flips : ℕ) (own : Option Counts) → place ≢ 0 → Level place release root_flips None flips own → Level place release (suc root_flips) (Some (record { seen = 0; released = 0 })) flips own
level_root_enters place release root_flips flips own member level = record {
  release_flag = level.release_flag ∙ ap (λ (n : ℕ). n % 2) same;
  entered = subst (λ (n : ℕ). n ≤ flips) same level.entered;
  not_ahead = subst (λ (n : ℕ). flips ≤ suc n) same level.not_ahead;
  waits = λ is. level.waits (is ∙ ap suc (sym same));
  seen = λ is. absurd (grind (arith, nat_tests));
}
  where
    held : nat_lt 0 place ≡ true
    held = grind (arith, nat_tests)

    same : root_flips ≡ (if nat_lt 0 place then suc root_flips - 1 else suc root_flips)
    same = let less : root_flips ≡ suc root_flips - 1 = omega arith in less ∙ sym (ap (λ (b : Bool). if b then suc root_flips - 1 else suc root_flips) held)

-- a root sees a member that has entered its barrier
pub level_root_sees : (place release root_flips flips : ℕ) (x : Counts) (own : Option Counts) → (place ≡ suc x.seen → root_flips ≤ flips) → Level place release root_flips (Some x) flips own
    → Level place release root_flips (Some (record { seen = suc x.seen; released = x.released })) flips own
level_root_sees place release root_flips flips x own has_entered level = record {
  release_flag = level.release_flag;
  entered = level.entered;
  not_ahead = level.not_ahead;
  waits = level.waits;
  seen = λ is. by_place (place == suc x.seen) refl is;
}
  where
    by_place : (b : Bool) → (place == suc x.seen) ≡ b → nat_le place (suc x.seen) ≡ true → root_flips ≤ flips
    by_place true at is = has_entered (grind (arith, nat_tests))
    by_place false other is = level.seen (grind (arith, nat_tests))

-- what is known of a member whose flag shows the root's own value
pub level_same_value : (place release root_flips flips : ℕ) (x : Counts) (own : Option Counts) → x.released < place → 1 ≤ root_flips → flips % 2 ≡ root_flips % 2 → Level place release root_flips (Some x) flips own → root_flips ≡ flips
level_same_value place release root_flips flips x own held some same level =
    let holds : nat_lt x.released place ≡ true = grind (arith, nat_tests) in
    let lag : releases_in place root_flips (Some x) ≡ root_flips - 1 = ap (λ (b : Bool). if b then root_flips - 1 else root_flips) holds in
    let low : root_flips - 1 ≤ flips = subst (λ (n : ℕ). n ≤ flips) lag level.entered in
    let top : flips ≤ suc (root_flips - 1) = subst (λ (n : ℕ). flips ≤ suc n) lag level.not_ahead in
    omega (arith, some, same, low, top)

-- the root's barrier after it has released one more member
abbrev pub released_bar : ℕ → Counts → Option Counts
released_bar last x = if suc x.released == last then None else Some (record { seen = x.seen; released = suc x.released })

-- after a release a root holds back whom it held back before, but for the member released
holds_after : (place last : ℕ) (x : Counts) → place ≤ last → place ≢ suc x.released → holds_in place (released_bar last x) ≡ nat_lt x.released place
holds_after place last x within other = by_last (suc x.released == last) refl
  where
    by_last : (b : Bool) → (suc x.released == last) ≡ b → holds_in place (if b then None else Some (record { seen = x.seen; released = suc x.released })) ≡ nat_lt x.released place
    by_last true at = grind (arith, nat_tests)
    by_last false at = grind (arith, nat_tests)

holds_none : (place last : ℕ) (x : Counts) → place ≡ suc x.released → holds_in place (released_bar last x) ≡ false
holds_none place last x at = by_last (suc x.released == last)
  where
    by_last : (b : Bool) → holds_in place (if b then None else Some (record { seen = x.seen; released = suc x.released })) ≡ false
    by_last true = refl
    by_last false = grind (arith, nat_tests)

seen_after : (place last : ℕ) (x : Counts) → seen_in place (released_bar last x) ≡ true → nat_le place x.seen ≡ true
seen_after place last x is = by_last (suc x.released == last) is
  where
    by_last : (b : Bool) → seen_in place (if b then None else Some (record { seen = x.seen; released = suc x.released })) ≡ true → nat_le place x.seen ≡ true
    by_last true is = absurd (true≢false (sym is))
    by_last false is = is

-- a root releases another member
pub level_root_releases_other : (place release root_flips flips last : ℕ) (x : Counts) (own : Option Counts) → place ≤ last → place ≢ suc x.released → Level place release root_flips (Some x) flips own → Level place release root_flips (released_bar last x) flips own
level_root_releases_other place release root_flips flips last x own within other level = record {
  release_flag = level.release_flag ∙ ap (λ (n : ℕ). n % 2) same;
  entered = subst (λ (n : ℕ). n ≤ flips) same level.entered;
  not_ahead = subst (λ (n : ℕ). flips ≤ suc n) same level.not_ahead;
  waits = λ is. level.waits (is ∙ ap suc (sym same));
  seen = λ is. level.seen (seen_after place last x is);
}
  where
    same : releases_in place root_flips (Some x) ≡ releases_in place root_flips (released_bar last x)
    same = ap (λ (b : Bool). if b then root_flips - 1 else root_flips) (sym (holds_after place last x within other))

-- a root that has seen all releases this member
pub level_root_releases : (place release root_flips flips last : ℕ) (x : Counts) (own : Option Counts) → place ≤ last → place ≡ suc x.released → x.seen ≡ last → 1 ≤ root_flips → Level place release root_flips (Some x) flips own
    → Level place (root_flips % 2) root_flips (released_bar last x) flips own
level_root_releases place release root_flips flips last x own within at all some level = record {
  release_flag = ap (λ (n : ℕ). n % 2) now;
  entered = subst (λ (n : ℕ). n ≤ flips) now has_entered;
  not_ahead = subst (λ (n : ℕ). flips ≤ suc n) now (omega (arith, top));
  waits = λ is. absurd (let same : flips ≡ suc root_flips = is ∙ ap suc (sym now) in omega (arith, same, top));
  seen = λ is. has_entered;
}
  where
    now : root_flips ≡ releases_in place root_flips (released_bar last x)
    now = sym (ap (λ (b : Bool). if b then root_flips - 1 else root_flips) (holds_none place last x at))

    held : nat_lt x.released place ≡ true
    held = grind (arith, nat_tests)

    lag : releases_in place root_flips (Some x) ≡ root_flips - 1
    lag = ap (λ (b : Bool). if b then root_flips - 1 else root_flips) held

    top : flips ≤ root_flips
    top = let most : flips ≤ suc (root_flips - 1) = subst (λ (n : ℕ). flips ≤ suc n) lag level.not_ahead in omega (arith, most, some)

    has_entered : root_flips ≤ flips
    has_entered = level.seen (grind (arith, nat_tests))

-- a member that is released leaves its barrier
pub level_leaves : (place release root_flips flips : ℕ) (root : Option Counts) (x : Counts) → release ≡ flips % 2 → Level place release root_flips root flips (Some x) → Level place release root_flips root flips None
level_leaves place release root_flips flips root x shows level = record {
  release_flag = level.release_flag;
  entered = level.entered;
  not_ahead = level.not_ahead;
  waits = λ is. absurd (let same = shows in let flag = level.release_flag in omega (arith, same, flag, is));
  seen = level.seen;
}
