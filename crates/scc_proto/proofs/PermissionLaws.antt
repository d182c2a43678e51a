-- Exactly where a record permits what it does not always permit.
use Rattle.std.proofs.Common.{◌≡◌, ◌≢◌, ◌⊎◌, ◌↔◌, inl, inr, ℕ, suc, ◌-◌, ◌%◌, Bool, true, false, ◌&&◌, ◌==◌, if◌then◌else◌, [], ◌∷◌, Option, Some, None, is_none, refl, sym, ◌∙◌, ap, arith}
use Rattle.std.proofs.lemmas.Bool.Decides.{nat_tests}
use Rattle.scc_base.specs.Events.{store_of}
use Rattle.scc_base.specs.Places.{WordAt}
use Rattle.scc_base.specs.Setups.{SetupView}
use Rattle.scc_base.specs.declared.signals.Signal.{Signal}
use Rattle.scc_base.specs.declared.signals.Signal.TheVariants.{Sent, Ready}
use Rattle.scc_proto.specs.Messages.{Notes, Progress, fresh_message, head_of, is_whole}
use Rattle.scc_proto.specs.Stages.{Part, Filling, Raised, Answered, Stage, Idle, Drafting, Sending, Between, Taking, Barrier, InFlight, Record}
use Rattle.scc_proto.specs.Moves.{Move, DraftHeader, DraftChunk, RaiseSignal, LowerSignal, FlipGather, WriteRelease, Misplaced}
use Rattle.scc_proto.specs.Permission.{drafts_header, drafts_chunk, is_whole_header, says_head, is_drafted, may_raise, may_take, has_taken, is_answered_by, may_go_on, is_idle, may_release, leaves_heap, permits}
use Rattle.scc_proto.specs.Words.{Role, HeapWord, IdleWord, SignalFlags, role_of}
use Rattle.scc_proto.specs.Records.{chunk_of, lowered_below, raises_bit, move_at, change_at, flags_noted, store_act, permits_act, is_permitted}
use Rattle.scc_proto.proofs.Tests.{both_first, both_second, eqb_same, same_by_eqb, eqb_other}

both : (a b : Bool) → a ≡ true → b ≡ true → (a && b) ≡ true
both true b p q = q
both false b p q = p

none_is : {A : Type 0} (o : Option A) → is_none o ≡ true → o ≡ None
none_is None t = refl
none_is (Some x) t = absurd (cc)

is_none_of : {A : Type 0} (o : Option A) → o ≡ None → is_none o ≡ true
is_none_of o e = ap is_none e

-- ---- the heap

abbrev pub HeapRests : Stage → Type 0
HeapRests stage = (stage ≡ Idle) ⊎ ((to : ℕ) × (message : Progress) × (stage ≡ Sending to Filling message [])) ⊎ ((from : ℕ) × (message : Progress) × (stage ≡ Between from message))

heap_rests : (stage : Stage) → leaves_heap stage ≡ true → HeapRests stage
heap_rests Idle t = inl refl
heap_rests (Drafting header chunk) t = absurd (cc)
heap_rests (Sending to Filling message []) t = inr (inl (to, message, refl))
heap_rests (Sending to Filling message (note ∷ chunk)) t = absurd (cc)
heap_rests (Sending to Raised message chunk) t = absurd (cc)
heap_rests (Sending to Answered message chunk) t = absurd (cc)
heap_rests (Between from message) t = inr (inr (from, message, refl))
heap_rests (Taking from message chunk) t = absurd (cc)
heap_rests (Barrier comm seen released) t = absurd (cc)

heap_leaves : (stage : Stage) → HeapRests stage → leaves_heap stage ≡ true
heap_leaves stage (inl e) = ap leaves_heap e
heap_leaves stage (inr (inl x)) = ap leaves_heap x.2
heap_leaves stage (inr (inr x)) = ap leaves_heap x.2

stored_by : (s : SetupView) (me : ℕ) (rec : Record) (place : WordAt) (value : ℕ) (role : Role) → role_of s place ≡ role
    → is_permitted s me rec (store_of place value) ≡ permits_act (chunk_of s) (store_act s me rec place value role) rec
stored_by s me rec place value role is = ap (λ (r : Role). permits_act (chunk_of s) (store_act s me rec place value r) rec) is

pub heap_stored_where : (s : SetupView) (me : ℕ) (rec : Record) (place : WordAt) (value : ℕ) → role_of s place ≡ HeapWord
    → (is_permitted s me rec (store_of place value) ≡ true) ↔ (HeapRests rec.stage)
heap_stored_where s me rec place value is = let e = stored_by s me rec place value HeapWord is in
    (λ t. heap_rests rec.stage (sym e ∙ t), λ rests. e ∙ heap_leaves rec.stage rests)

pub idle_not_stored : (s : SetupView) (me : ℕ) (rec : Record) (place : WordAt) (value : ℕ) → role_of s place ≡ IdleWord
    → is_permitted s me rec (store_of place value) ≡ true → ⊥
idle_not_stored s me rec place value is t = let e = sym (stored_by s me rec place value IdleWord is) ∙ t in absurd (cc)

-- ---- registers and words of bit flags

pub none_where : {A : Type 0} (o : Option A) → (is_none o ≡ true) ↔ (o ≡ None)
none_where o = (none_is o, is_none_of o)

abbrev ChangesWhere : (lower raise : ℕ → Move) → SetupView → (me owner new : ℕ) → Record → Option ℕ → Type 0
ChangesWhere lower raise s me owner new rec noted = (old : ℕ) × (noted ≡ Some old)
    × (((owner ≡ me) × (j : ℕ) × (lowered_below me old new s.nue ≡ Some j) × (permits (chunk_of s) (lower j) rec ≡ true))
    ⊎ ((owner ≢ me) × (raises_bit me old new ≡ true) × (permits (chunk_of s) (raise owner) rec ≡ true)))

module _ (lower raise : ℕ → Move) (s : SetupView) (me owner new : ℕ) (rec : Record) where
  moved_at : (o : Option ℕ) → permits (chunk_of s) (move_at lower o) rec ≡ true → (j : ℕ) × (o ≡ Some j) × (permits (chunk_of s) (lower j) rec ≡ true)
  moved_at None t = absurd (cc)
  moved_at (Some j) t = (j, refl, t)

  raised_if : (b : Bool) → permits (chunk_of s) (if b then raise owner else Misplaced) rec ≡ true → (b ≡ true) × (permits (chunk_of s) (raise owner) rec ≡ true)
  raised_if true t = (refl, t)
  raised_if false t = absurd (cc)

  changes : (noted : Option ℕ) → permits (chunk_of s) (change_at lower raise s me owner new noted) rec ≡ true → ChangesWhere lower raise s me owner new rec noted
  changes None t = absurd (cc)
  changes (Some old) t = (old, refl, by (owner == me) refl t)
    where
      by : (b : Bool) → (owner == me) ≡ b
          → permits (chunk_of s) (if b then move_at lower (lowered_below me old new s.nue) else (if raises_bit me old new then raise owner else Misplaced)) rec ≡ true
          → (((owner ≡ me) × (j : ℕ) × (lowered_below me old new s.nue ≡ Some j) × (permits (chunk_of s) (lower j) rec ≡ true))
          ⊎ ((owner ≢ me) × (raises_bit me old new ≡ true) × (permits (chunk_of s) (raise owner) rec ≡ true)))
      by true e p = let m = moved_at (lowered_below me old new s.nue) p in inl (same_by_eqb owner me e, m.0, m.1, m.2)
      by false e p = let r = raised_if (raises_bit me old new) p in inr (λ same. absurd (grind (arith, nat_tests)), r.0, r.1)

  may_change : (noted : Option ℕ) → ChangesWhere lower raise s me owner new rec noted → permits (chunk_of s) (change_at lower raise s me owner new noted) rec ≡ true
  may_change noted w = ap (λ (o : Option ℕ). permits (chunk_of s) (change_at lower raise s me owner new o) rec) w.1 ∙ by w.2
    where
      old : ℕ
      old = w.0

      by : (((owner ≡ me) × (j : ℕ) × (lowered_below me old new s.nue ≡ Some j) × (permits (chunk_of s) (lower j) rec ≡ true))
          ⊎ ((owner ≢ me) × (raises_bit me old new ≡ true) × (permits (chunk_of s) (raise owner) rec ≡ true)))
          → permits (chunk_of s) (change_at lower raise s me owner new (Some old)) rec ≡ true
      by (inl x) = ap (λ (b : Bool). permits (chunk_of s) (if b then move_at lower (lowered_below me old new s.nue) else (if raises_bit me old new then raise owner else Misplaced)) rec)
          (ap (λ (o : ℕ). o == me) x.0 ∙ eqb_same me)
          ∙ ap (λ (o : Option ℕ). permits (chunk_of s) (move_at lower o) rec) x.2 ∙ x.3
      by (inr x) = ap (λ (b : Bool). permits (chunk_of s) (if b then move_at lower (lowered_below me old new s.nue) else (if raises_bit me old new then raise owner else Misplaced)) rec)
          (eqb_other owner me x.0)
          ∙ ap (λ (b : Bool). permits (chunk_of s) (if b then raise owner else Misplaced) rec) x.1 ∙ x.2

pub bits_where : (signal : Signal) (s : SetupView) (me owner value : ℕ) (rec : Record) (place : WordAt) → role_of s place ≡ SignalFlags signal owner
    → (is_permitted s me rec (store_of place value) ≡ true) ↔ (ChangesWhere (LowerSignal signal) (RaiseSignal signal) s me owner value rec (flags_noted signal rec place.core))
bits_where signal s me owner value rec place is = let e = stored_by s me rec place value (SignalFlags signal owner) is in (
  λ t. changes (LowerSignal signal) (RaiseSignal signal) s me owner value rec (flags_noted signal rec place.core) (sym e ∙ t),
  λ w. e ∙ may_change (LowerSignal signal) (RaiseSignal signal) s me owner value rec (flags_noted signal rec place.core) w,
)

-- ---- drafts

abbrev DraftsHeader : Stage → Type 0
DraftsHeader stage = (stage ≡ Idle) ⊎ ((header chunk : Notes) × (stage ≡ Drafting header chunk))

abbrev DraftsChunk : Stage → Type 0
DraftsChunk stage = (stage ≡ Idle) ⊎ ((header chunk : Notes) × (stage ≡ Drafting header chunk)) ⊎ ((to : ℕ) × (message : Progress) × (chunk : Notes) × (stage ≡ Sending to Filling message chunk))

header_drafts : (stage : Stage) → drafts_header stage ≡ true → DraftsHeader stage
header_drafts Idle t = inl refl
header_drafts (Drafting header chunk) t = inr (header, chunk, refl)
header_drafts (Sending to part message chunk) t = absurd (cc)
header_drafts (Between from message) t = absurd (cc)
header_drafts (Taking from message chunk) t = absurd (cc)
header_drafts (Barrier comm seen released) t = absurd (cc)

header_may : (stage : Stage) → DraftsHeader stage → drafts_header stage ≡ true
header_may stage (inl e) = ap drafts_header e
header_may stage (inr x) = ap drafts_header x.2

chunk_drafts : (stage : Stage) → drafts_chunk stage ≡ true → DraftsChunk stage
chunk_drafts Idle t = inl refl
chunk_drafts (Drafting header chunk) t = inr (inl (header, chunk, refl))
chunk_drafts (Sending to Filling message chunk) t = inr (inr (to, message, chunk, refl))
chunk_drafts (Sending to Raised message chunk) t = absurd (cc)
chunk_drafts (Sending to Answered message chunk) t = absurd (cc)
chunk_drafts (Between from message) t = absurd (cc)
chunk_drafts (Taking from message chunk) t = absurd (cc)
chunk_drafts (Barrier comm seen released) t = absurd (cc)

chunk_may : (stage : Stage) → DraftsChunk stage → drafts_chunk stage ≡ true
chunk_may stage (inl e) = ap drafts_chunk e
chunk_may stage (inr (inl x)) = ap drafts_chunk x.2
chunk_may stage (inr (inr x)) = ap drafts_chunk x.3

-- no post is on its way, and a test of the stage holds
with_no_post : (post : Option InFlight) (test : Bool) (P : Type 0) → ((test ≡ true) ↔ P) → ((is_none post && test) ≡ true) ↔ ((post ≡ None) × P)
with_no_post post test P is = (
  λ t. (none_is post (both_first (is_none post) test t), is.0 (both_second (is_none post) test t)),
  λ x. both (is_none post) test (is_none_of post x.0) (is.1 x.1),
)

pub header_where : (size k v : ℕ) (rec : Record) → (permits size (DraftHeader k v) rec ≡ true) ↔ ((rec.post ≡ None) × DraftsHeader rec.stage)
header_where size k v rec = with_no_post rec.post (drafts_header rec.stage) (DraftsHeader rec.stage) (header_drafts rec.stage, header_may rec.stage)

pub chunk_where : (size k v : ℕ) (rec : Record) → (permits size (DraftChunk k v) rec ≡ true) ↔ ((rec.post ≡ None) × DraftsChunk rec.stage)
chunk_where size k v rec = with_no_post rec.post (drafts_chunk rec.stage) (DraftsChunk rec.stage) (chunk_drafts rec.stage, chunk_may rec.stage)

-- ---- raising and lowering

abbrev RaisesSent : ℕ → ℕ → Stage → Type 0
RaisesSent size to stage = ((header chunk : Notes) × (stage ≡ Drafting header chunk) × (is_whole_header header ≡ true) × (is_drafted size (fresh_message (head_of header)) chunk ≡ true))
    ⊎ ((message : Progress) × (chunk : Notes) × (stage ≡ Sending to Filling message chunk) × (is_drafted size message chunk ≡ true))

sent_raises : (size to : ℕ) (stage : Stage) → may_raise size to stage ≡ true → RaisesSent size to stage
sent_raises size to Idle t = absurd (cc)
sent_raises size to (Drafting header chunk) t = inl (
  header,
  chunk,
  refl,
  both_first (is_whole_header header) (is_drafted size (fresh_message (head_of header)) chunk) t,
  both_second (is_whole_header header) (is_drafted size (fresh_message (head_of header)) chunk) t,
)
sent_raises size to (Sending j Filling message chunk) t = inr (
  message,
  chunk,
  ap (λ (i : ℕ). Sending i Filling message chunk) (same_by_eqb j to (both_first (j == to) (is_drafted size message chunk) t)),
  both_second (j == to) (is_drafted size message chunk) t,
)
sent_raises size to (Sending j Raised message chunk) t = absurd (cc)
sent_raises size to (Sending j Answered message chunk) t = absurd (cc)
sent_raises size to (Between from message) t = absurd (cc)
sent_raises size to (Taking from message chunk) t = absurd (cc)
sent_raises size to (Barrier comm seen released) t = absurd (cc)

sent_may : (size to : ℕ) (stage : Stage) → RaisesSent size to stage → may_raise size to stage ≡ true
sent_may size to stage (inl x) = ap (may_raise size to) x.2 ∙ both (is_whole_header x.0) (is_drafted size (fresh_message (head_of x.0)) x.1) x.3 x.4
sent_may size to stage (inr x) = ap (may_raise size to) x.2 ∙ both (to == to) (is_drafted size x.0 x.1) (eqb_same to) x.3

pub raise_where : (size to : ℕ) (rec : Record) → (permits size (RaiseSignal Sent to) rec ≡ true) ↔ ((rec.post ≡ None) × RaisesSent size to rec.stage)
raise_where size to rec = with_no_post rec.post (may_raise size to rec.stage) (RaisesSent size to rec.stage) (sent_raises size to rec.stage, sent_may size to rec.stage)

abbrev LowersSent : ℕ → Notes → Stage → Type 0
LowersSent from header stage = ((stage ≡ Idle) × (says_head header ≡ true)) ⊎ ((message : Progress) × (stage ≡ Between from message))

sent_lowers : (from : ℕ) (header : Notes) (stage : Stage) → may_take from (Some header) stage ≡ true → LowersSent from header stage
sent_lowers from header Idle t = inl (refl, t)
sent_lowers from header (Drafting h chunk) t = absurd (cc)
sent_lowers from header (Sending to part message chunk) t = absurd (cc)
sent_lowers from header (Between i message) t = inr (message, ap (λ (j : ℕ). Between j message) (same_by_eqb i from t))
sent_lowers from header (Taking i message chunk) t = absurd (cc)
sent_lowers from header (Barrier comm seen released) t = absurd (cc)

lowers_may : (from : ℕ) (header : Notes) (stage : Stage) → LowersSent from header stage → may_take from (Some header) stage ≡ true
lowers_may from header stage (inl x) = ap (may_take from (Some header)) x.0 ∙ x.1
lowers_may from header stage (inr x) = ap (may_take from (Some header)) x.1 ∙ eqb_same from

lowers_noted : (from : ℕ) (seen : Option Notes) (stage : Stage) → may_take from seen stage ≡ true → (header : Notes) × (seen ≡ Some header) × LowersSent from header stage
lowers_noted from None stage t = absurd (cc)
lowers_noted from (Some header) stage t = (header, refl, sent_lowers from header stage t)

pub lower_where : (size from : ℕ) (rec : Record) → (permits size (LowerSignal Sent from) rec ≡ true) ↔ ((header : Notes) × (rec.notes from ≡ Some header) × LowersSent from header rec.stage)
lower_where size from rec = (
  lowers_noted from (rec.notes from) rec.stage,
  λ x. ap (λ (seen : Option Notes). may_take from seen rec.stage) x.1 ∙ lowers_may from x.0 rec.stage x.2,
)

abbrev TakesWhole : ℕ → ℕ → Stage → Type 0
TakesWhole size to stage = (message : Progress) × (chunk : Notes) × (stage ≡ Taking to message chunk) × (is_whole size message chunk ≡ true)

ready_raises : (size to : ℕ) (stage : Stage) → has_taken size to stage ≡ true → TakesWhole size to stage
ready_raises size to Idle t = absurd (cc)
ready_raises size to (Drafting header chunk) t = absurd (cc)
ready_raises size to (Sending j part message chunk) t = absurd (cc)
ready_raises size to (Between from message) t = absurd (cc)
ready_raises size to (Taking from message chunk) t = (
  message,
  chunk,
  ap (λ (i : ℕ). Taking i message chunk) (same_by_eqb from to (both_first (from == to) (is_whole size message chunk) t)),
  both_second (from == to) (is_whole size message chunk) t,
)
ready_raises size to (Barrier comm seen released) t = absurd (cc)

pub ready_where : (size to : ℕ) (rec : Record) → (permits size (RaiseSignal Ready to) rec ≡ true) ↔ (TakesWhole size to rec.stage)
ready_where size to rec = (
  ready_raises size to rec.stage,
  λ x. ap (has_taken size to) x.2 ∙ both (to == to) (is_whole size x.0 x.1) (eqb_same to) x.3,
)

abbrev IsInNoSend : Stage → Type 0
IsInNoSend stage = (to : ℕ) (part : Part) (message : Progress) (chunk : Notes) → stage ≢ Sending to part message chunk

abbrev IsAnswered : ℕ → Option InFlight → Type 0
IsAnswered by o = (post : InFlight) × (o ≡ Some post) × (post.to ≡ by) × (post.is_answered ≡ true)

abbrev LowersReady : ℕ → Stage → Option InFlight → Type 0
LowersReady by stage o = ((message : Progress) × (chunk : Notes) × (stage ≡ Sending by Answered message chunk)) ⊎ (IsInNoSend stage × (post : InFlight) × (o ≡ Some post) × (post.to ≡ by) × (post.is_answered ≡ true))

answered : (by : ℕ) (o : Option InFlight) → is_answered_by by o ≡ true → IsAnswered by o
answered by None t = absurd (cc)
answered by (Some post) t = (post, refl, same_by_eqb post.to by (both_first (post.to == by) post.is_answered t), both_second (post.to == by) post.is_answered t)

is_answered_of : (by : ℕ) (o : Option InFlight) → IsAnswered by o → is_answered_by by o ≡ true
is_answered_of by o x = ap (is_answered_by by) x.1 ∙ both (x.0.to == by) x.0.is_answered (ap (λ (i : ℕ). i == by) x.2 ∙ eqb_same by) x.3

goes_on : (by : ℕ) (stage : Stage) (o : Option InFlight) → may_go_on by stage o ≡ true → LowersReady by stage o
goes_on by (Sending to Answered message chunk) o t = inl (message, chunk, ap (λ (i : ℕ). Sending i Answered message chunk) (same_by_eqb to by t))
goes_on by (Sending to Filling message chunk) o t = absurd (cc)
goes_on by (Sending to Raised message chunk) o t = absurd (cc)
goes_on by Idle o t = let a = answered by o t in inr (λ to part message chunk e. absurd (cc), a.0, a.1, a.2, a.3)
goes_on by (Drafting header draft) o t = let a = answered by o t in inr (λ to part message chunk e. absurd (cc), a.0, a.1, a.2, a.3)
goes_on by (Between from m) o t = let a = answered by o t in inr (λ to part message chunk e. absurd (cc), a.0, a.1, a.2, a.3)
goes_on by (Taking from m c) o t = let a = answered by o t in inr (λ to part message chunk e. absurd (cc), a.0, a.1, a.2, a.3)
goes_on by (Barrier comm seen released) o t = let a = answered by o t in inr (λ to part message chunk e. absurd (cc), a.0, a.1, a.2, a.3)

goes_in_no_send : (by : ℕ) (stage : Stage) (o : Option InFlight) → IsInNoSend stage → is_answered_by by o ≡ true → may_go_on by stage o ≡ true
goes_in_no_send by (Sending to part message chunk) o other t = absurd (other to part message chunk refl)
goes_in_no_send by Idle o other t = t
goes_in_no_send by (Drafting header chunk) o other t = t
goes_in_no_send by (Between from m) o other t = t
goes_in_no_send by (Taking from m c) o other t = t
goes_in_no_send by (Barrier comm seen released) o other t = t

may_lower : (by : ℕ) (stage : Stage) (o : Option InFlight) → LowersReady by stage o → may_go_on by stage o ≡ true
may_lower by stage o (inl x) = ap (λ (st : Stage). may_go_on by st o) x.2 ∙ eqb_same by
may_lower by stage o (inr x) = goes_in_no_send by stage o x.0 (is_answered_of by o (x.1, x.2, x.3, x.4))

pub go_on_where : (size by : ℕ) (rec : Record) → (permits size (LowerSignal Ready by) rec ≡ true) ↔ (LowersReady by rec.stage rec.post)
go_on_where size by rec = (goes_on by rec.stage rec.post, may_lower by rec.stage rec.post)

-- ---- barriers

idle_is : (stage : Stage) → is_idle stage ≡ true → stage ≡ Idle
idle_is Idle t = refl
idle_is (Drafting header chunk) t = absurd (cc)
idle_is (Sending to part message chunk) t = absurd (cc)
idle_is (Between from message) t = absurd (cc)
idle_is (Taking from message chunk) t = absurd (cc)
idle_is (Barrier comm seen released) t = absurd (cc)

pub flip_where : (size comm value last : ℕ) (rec : Record) → (permits size (FlipGather comm value last) rec ≡ true) ↔ ((rec.stage ≡ Idle) × (value ≡ 1 - rec.flips comm % 2))
flip_where size comm value last rec = (
  λ t. (
    idle_is rec.stage (both_first (is_idle rec.stage) (value == 1 - rec.flips comm % 2) t),
    same_by_eqb value (1 - rec.flips comm % 2) (both_second (is_idle rec.stage) (value == 1 - rec.flips comm % 2) t),
  ),
  λ x. both (is_idle rec.stage) (value == 1 - rec.flips comm % 2) (ap is_idle x.0) (ap (λ (v : ℕ). v == 1 - rec.flips comm % 2) x.1 ∙ eqb_same (1 - rec.flips comm % 2)),
)

abbrev Releases : (comm place value last v : ℕ) → Stage → Type 0
Releases comm place value last v stage = (released : ℕ) × (stage ≡ Barrier comm last released) × (place ≡ suc released) × (value ≡ v)

releases : (comm place value last v : ℕ) (stage : Stage) → may_release comm place value last v stage ≡ true → Releases comm place value last v stage
releases comm place value last v (Barrier c seen released) t = (released, grind (arith, nat_tests), grind (arith, nat_tests), grind (arith, nat_tests))
releases comm place value last v Idle t = absurd (cc)
releases comm place value last v (Drafting header chunk) t = absurd (cc)
releases comm place value last v (Sending to part message chunk) t = absurd (cc)
releases comm place value last v (Between from message) t = absurd (cc)
releases comm place value last v (Taking from message chunk) t = absurd (cc)

may_write : (comm place value last v : ℕ) (stage : Stage) → Releases comm place value last v stage → may_release comm place value last v stage ≡ true
may_write comm place value last v stage x = ap (may_release comm place value last v) x.1
    ∙ both (comm == comm) ((last == last) && ((place == suc x.0) && (value == v))) (eqb_same comm)
    (both (last == last) ((place == suc x.0) && (value == v)) (eqb_same last)
    (both (place == suc x.0) (value == v) (ap (λ (i : ℕ). i == suc x.0) x.2 ∙ eqb_same (suc x.0)) (ap (λ (i : ℕ). i == v) x.3 ∙ eqb_same v)))

pub release_where : (size comm to place value last : ℕ) (rec : Record) → (permits size (WriteRelease comm to place value last) rec ≡ true)
    ↔ (Releases comm place value last (rec.flips comm % 2) rec.stage)
release_where size comm to place value last rec = (releases comm place value last (rec.flips comm % 2) rec.stage, may_write comm place value last (rec.flips comm % 2) rec.stage)
