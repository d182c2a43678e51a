-- What the agreement of a group says of one rank, by the flags, the flips and the open barriers of all, and what a change at one of them keeps.
use Rattle.std.proofs.Common.{◌≡◌, ◌≢◌, ℕ, suc, ◌-◌, ◌%◌, ◌<◌, ◌≤◌, ◌==◌, Bool, true, false, ◌&&◌, if◌then◌else◌, Option, Some, None, ⊎_elim, refl, sym, ◌∙◌, ap, subst, arith}
use Rattle.std.proofs.lemmas.Bool.Decides.{nat_tests}
use Rattle.scc_base.specs.Setups.{SetupView, setup_key, place_of, root_of}
use Rattle.scc_base.proofs.Confluence.{equal_or_not}
use Rattle.scc_base.proofs.GroupFacts.{place_below, size_same, root_place}
use Rattle.scc_proto.specs.Tables.{table_with, put_two}
use Rattle.scc_proto.specs.Stages.{Stage, Idle, Drafting, Sending, Between, Taking, Barrier, Record}
use Rattle.scc_proto.specs.Records.{last_of}
use Rattle.scc_proto.specs.Views.{View}
use Rattle.scc_proto.specs.Singles.{IsBarrier, IsStage, open_barriers}
use Rattle.scc_proto.specs.Agreement.{GroupAgrees}
use Rattle.scc_proto.proofs.Barriers.BarrierFacts.{Counts, bar_at, Level, level_of, step_of, level_root_sees, level_leaves}
use Rattle.scc_proto.proofs.Barriers.BarrierMoves.{saw_bar, left_bar}

pub put_here : {A : Type 0} (table : ℕ → A) (i k : ℕ) (x : A) → k ≡ i → table_with table i x k ≡ x
put_here table i k x is = let here : (k == i) ≡ true = grind (arith, nat_tests) in ap (λ (b : Bool). if b then x else table k) here

pub put_there : {A : Type 0} (table : ℕ → A) (i k : ℕ) (x : A) → k ≢ i → table_with table i x k ≡ table k
put_there table i k x other = let there : (k == i) ≡ false = grind (arith, nat_tests) in ap (λ (b : Bool). if b then x else table k) there

-- the flips of all ranks, and their open barriers
abbrev pub flips_at : ℕ → (ℕ → Record) → ℕ → ℕ
flips_at comm records k = (records k).flips comm

abbrev pub bars_at : ℕ → (ℕ → Record) → ℕ → Option Counts
bars_at comm records k = bar_at comm (records k).stage

-- one rank in one communicator, by the flags, the flips and the open barriers of all
pub record AtRank (s : SetupView) (comm r : ℕ) (gather release flips : ℕ → ℕ) (bars : ℕ → Option Counts) : Type 0 where
  pub gather_flag : gather r ≡ flips r % 2
  pub root : place_of s comm r ≡ 0 → release r ≡ 0
  pub member : place_of s comm r ≢ 0 → Level (place_of s comm r) (release r) (flips (root_of s comm r)) (bars (root_of s comm r)) (flips r) (bars r)

pub at_rank : (s : SetupView) (view : View) (comm r : ℕ) (records : ℕ → Record) → GroupAgrees s view comm r records → AtRank s comm r (view.gather comm) (view.release comm) (flips_at comm records) (bars_at comm records)
at_rank s view comm r records agrees = record {
  gather_flag = agrees.gather_flag;
  root = agrees.root;
  member = λ is. level_of view comm (place_of s comm r) r (records (root_of s comm r)) (records r) (agrees.member is);
}

pub agrees_at : (s : SetupView) (view : View) (comm r : ℕ) (records : ℕ → Record) → AtRank s comm r (view.gather comm) (view.release comm) (flips_at comm records) (bars_at comm records) → GroupAgrees s view comm r records
agrees_at s view comm r records at = record {
  gather_flag = at.gather_flag;
  root = at.root;
  member = λ is. step_of view comm (place_of s comm r) r (records (root_of s comm r)) (records r) (at.member is);
}

pub flips_put : (comm me : ℕ) (records : ℕ → Record) (new : Record) → flips_at comm (table_with records me new) ≡ table_with (flips_at comm records) me (new.flips comm)
flips_put comm me records new = λ i k. each (k == me) (records k) i
  where
    each : (b : Bool) (old : Record) → (if b then new else old).flips comm ≡ (if b then new.flips comm else old.flips comm)
    each true old = refl
    each false old = refl

pub bars_put : (comm me : ℕ) (records : ℕ → Record) (new : Record) → bars_at comm (table_with records me new) ≡ table_with (bars_at comm records) me (bar_at comm new.stage)
bars_put comm me records new = λ i k. each (k == me) (records k) i
  where
    each : (b : Bool) (old : Record) → bar_at comm (if b then new else old).stage ≡ (if b then bar_at comm new.stage else bar_at comm old.stage)
    each true old = refl
    each false old = refl

pub put_same : {A : Type 0} (table : ℕ → A) (i : ℕ) (x : A) → x ≡ table i → table_with table i x ≡ table
put_same {A} table i x same = λ j k. each k j
  where
    each : (k : ℕ) → table_with table i x k ≡ table k
    each k = ⊎_elim
        (λ (is : k ≡ i). put_here table i k x is ∙ same ∙ sym (ap table is))
        (λ (other : k ≢ i). put_there table i k x other)
        (equal_or_not k i)

-- the root of a rank's group has place 0
pub root_zeroth : (s : SetupView) (comm r : ℕ) → place_of s comm (root_of s comm r) ≡ 0
root_zeroth s comm r = root_place (setup_key s comm) r

pub root_is_other : (s : SetupView) (comm r : ℕ) → place_of s comm r ≢ 0 → root_of s comm r ≢ r
root_is_other s comm r member same = member (ap (place_of s comm) (sym same) ∙ root_zeroth s comm r)

pub level_by : (place release F G f g : ℕ) (B C b c : Option Counts) → F ≡ G → B ≡ C → f ≡ g → b ≡ c → Level place release G C g c → Level place release F B f b
level_by place release F G f g B C b c flips bars own_flips own_bar level =
    subst (λ (x : ℕ). Level place release x B f b) (sym flips)
    (subst (λ (x : Option Counts). Level place release G x f b) (sym bars)
    (subst (λ (x : ℕ). Level place release G C x b) (sym own_flips)
    (subst (λ (x : Option Counts). Level place release G C g x) (sym own_bar) level)))

-- what a change of the flips and the open barrier of one rank has to keep at each rank
pub rank_by : (s : SetupView) (comm r me : ℕ) (gather gather_new release release_new flips : ℕ → ℕ) (bars : ℕ → Option Counts) (f : ℕ) (b : Option Counts)
    → AtRank s comm r gather release flips bars
    → (r ≡ me → gather_new me ≡ f % 2)
    → (r ≢ me → gather_new r ≡ gather r)
    → (place_of s comm r ≡ 0 → release_new r ≡ release r)
    → (r ≡ me → place_of s comm me ≢ 0 → Level (place_of s comm me) (release me) (flips (root_of s comm me)) (bars (root_of s comm me)) (flips me) (bars me)
    → Level (place_of s comm me) (release_new me) (flips (root_of s comm me)) (bars (root_of s comm me)) f b)
    → (r ≢ me → root_of s comm r ≡ me → place_of s comm r ≢ 0 → Level (place_of s comm r) (release r) (flips me) (bars me) (flips r) (bars r)
    → Level (place_of s comm r) (release_new r) f b (flips r) (bars r))
    → (r ≢ me → root_of s comm r ≢ me → release_new r ≡ release r)
    → AtRank s comm r gather_new release_new (table_with flips me f) (table_with bars me b)
rank_by s comm r me gather gather_new release release_new flips bars f b at gathers other_gathers roots own led far =
    ⊎_elim
    (λ (is : r ≡ me).
    let old : AtRank s comm me gather release flips bars = subst (λ (x : ℕ). AtRank s comm x gather release flips bars) is at in
    subst (λ (x : ℕ). AtRank s comm x gather_new release_new (table_with flips me f) (table_with bars me b)) (sym is)
    (record {
      gather_flag = gathers is ∙ ap (λ (n : ℕ). n % 2) (sym (put_here flips me me f refl));
      root = λ zeroth. ap release_new (sym is) ∙ roots (ap (place_of s comm) is ∙ zeroth) ∙ ap release is ∙ old.root zeroth;
      member = λ member.
          let away = root_is_other s comm me member in
          level_by (place_of s comm me) (release_new me) _ (flips (root_of s comm me)) _ f _ (bars (root_of s comm me)) _ b
          (put_there flips me (root_of s comm me) f away) (put_there bars me (root_of s comm me) b away) (put_here flips me me f refl) (put_here bars me me b refl)
          (own is member (old.member member));
    }))
    (λ (other : r ≢ me). record {
      gather_flag = other_gathers other ∙ at.gather_flag ∙ ap (λ (n : ℕ). n % 2) (sym (put_there flips me r f other));
      root = λ zeroth. roots zeroth ∙ at.root zeroth;
      member = λ member.
          ⊎_elim
          (λ (mine : root_of s comm r ≡ me).
          let old : Level (place_of s comm r) (release r) (flips me) (bars me) (flips r) (bars r) =
          subst (λ (x : ℕ). Level (place_of s comm r) (release r) (flips x) (bars x) (flips r) (bars r)) mine (at.member member) in
          level_by (place_of s comm r) (release_new r) _ f _ (flips r) _ b _ (bars r)
          (put_here flips me (root_of s comm r) f mine) (put_here bars me (root_of s comm r) b mine) (put_there flips me r f other) (put_there bars me r b other)
          (led other mine member old))
          (λ (away : root_of s comm r ≢ me).
          level_by (place_of s comm r) (release_new r) _ (flips (root_of s comm r)) _ (flips r) _ (bars (root_of s comm r)) _ (bars r)
          (put_there flips me (root_of s comm r) f away) (put_there bars me (root_of s comm r) b away) (put_there flips me r f other) (put_there bars me r b other)
          (subst (λ (x : ℕ). Level (place_of s comm r) x (flips (root_of s comm r)) (bars (root_of s comm r)) (flips r) (bars r)) (sym (far other away)) (at.member member)))
          (equal_or_not (root_of s comm r) me);
    })
    (equal_or_not r me)

pub put_two_here : {A : Type 0} (table : ℕ → ℕ → A) (i j l : ℕ) (x : A) → l ≡ j → put_two table i j x i l ≡ x
put_two_here table i j l x is = let here : ((i == i) && (l == j)) ≡ true = grind (arith, nat_tests) in ap (λ (b : Bool). if b then x else table i l) here

pub put_two_there : {A : Type 0} (table : ℕ → ℕ → A) (i j l : ℕ) (x : A) → l ≢ j → put_two table i j x i l ≡ table i l
put_two_there table i j l x other = let there : ((i == i) && (l == j)) ≡ false = grind (arith, nat_tests) in ap (λ (b : Bool). if b then x else table i l) there

pub put_two_other : {A : Type 0} (table : ℕ → ℕ → A) (i j k : ℕ) (x : A) → k ≢ i → put_two table i j x k ≡ table k
put_two_other {A} table i j k x other =
    let there : (k == i) ≡ false = grind (arith, nat_tests) in ap {B = ℕ → A} (λ (b : Bool). λ (l : ℕ). if b && (l == j) then x else table k l) there

-- the members of a group that are not its root have places up to the last one
pub place_within : (s : SetupView) (comm r : ℕ) → r < s.nue → place_of s comm r ≤ last_of s comm r
place_within s comm r low = let below = place_below s.nue (setup_key s comm) r low in omega (arith, below)

pub last_same : (s : SetupView) (comm r q : ℕ) → setup_key s comm r ≡ setup_key s comm q → last_of s comm r ≡ last_of s comm q
last_same s comm r q same = ap (λ (n : ℕ). n - 1) (size_same s.nue (setup_key s comm) r q same)

-- an open barrier is one that the record is in
pub barrier_told : (s : SetupView) (me comm : ℕ) (st : Stage) (x : Counts) → bar_at comm st ≡ Some x → IsStage s me st → IsBarrier s me comm x.seen x.released
barrier_told s me comm (Barrier c seen released) x is stands = by_comm (c == comm) refl
  where
    by_comm : (b : Bool) → (c == comm) ≡ b → IsBarrier s me comm x.seen x.released
    by_comm true at =
        let same : c ≡ comm = grind (arith, nat_tests) in
        let counts : Some (record { seen = seen; released = released }) ≡ Some x = sym (ap (λ (b : Bool). if b then Some (record { seen = seen; released = released }) else None) at) ∙ is in
        let equal : record { seen = seen; released = released } ≡ x = cc in
        subst (λ (y : Counts). IsBarrier s me comm y.seen y.released) equal (subst (λ (n : ℕ). IsBarrier s me n seen released) same stands)
    by_comm false at =
        let none : None ≡ Some x = sym (ap (λ (b : Bool). if b then Some (record { seen = seen; released = released }) else None) at) ∙ is in
        absurd cc
barrier_told s me comm Idle x is stands = absurd cc
barrier_told s me comm (Drafting header chunk) x is stands = absurd cc
barrier_told s me comm (Sending to part message chunk) x is stands = absurd cc
barrier_told s me comm (Between from message) x is stands = absurd cc
barrier_told s me comm (Taking from message chunk) x is stands = absurd cc

-- who is in a barrier has flipped its flag
pub has_flipped : (comm : ℕ) (st : Stage) (x : Counts) → bar_at comm st ≡ Some x → open_barriers comm st ≡ 1
has_flipped comm (Barrier c seen released) x is = by_comm (c == comm) is
  where
    by_comm : (b : Bool) → (if b then Some (record { seen = seen; released = released }) else None) ≡ Some x → ◌≡◌ {A = ℕ} (if b then 1 else 0) 1
    by_comm true at = refl
    by_comm false at = absurd cc
has_flipped comm Idle x is = absurd cc
has_flipped comm (Drafting header chunk) x is = absurd cc
has_flipped comm (Sending to part message chunk) x is = absurd cc
has_flipped comm (Between from message) x is = absurd cc
has_flipped comm (Taking from message chunk) x is = absurd cc

-- a look of the root at a member
pub level_saw : (place value v at release root_flips flips : ℕ) (bar own : Option Counts) → ((x : Counts) → bar ≡ Some x → place ≡ suc x.seen → value ≡ v → at ≡ suc x.seen → root_flips ≤ flips)
    → Level at release root_flips bar flips own → Level at release root_flips (saw_bar place value v bar) flips own
level_saw place value v at release root_flips flips None own has_entered level = level
level_saw place value v at release root_flips flips (Some x) own has_entered level = by_look ((place == suc x.seen) && (value == v)) refl
  where
    by_look : (b : Bool) → ((place == suc x.seen) && (value == v)) ≡ b → Level at release root_flips (if b then Some (record { seen = suc x.seen; released = x.released }) else Some x) flips own
    by_look true is = level_root_sees at release root_flips flips x own (λ here. has_entered x refl (grind (arith, nat_tests)) (grind (arith, nat_tests)) here) level
    by_look false is = level

-- a look of a member at its release flag
pub level_left : (value v at release root_flips flips : ℕ) (bar own : Option Counts) → (value ≡ v → release ≡ flips % 2) → Level at release root_flips bar flips own → Level at release root_flips bar flips (left_bar value v own)
level_left value v at release root_flips flips bar None shows level = level
level_left value v at release root_flips flips bar (Some x) shows level = by_look (value == v) refl
  where
    by_look : (b : Bool) → (value == v) ≡ b → Level at release root_flips bar flips (if b then None else Some x)
    by_look true is = level_leaves at release root_flips flips bar x (shows (grind (arith, nat_tests))) level
    by_look false is = level
