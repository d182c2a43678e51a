-- What a record allows next, beside what it permits.
use Rattle.std.proofs.Common.{◌≡◌, ◌⊎◌, inl, inr, ℕ, Bool, true, false, ◌&&◌, ◌||◌, ◌==◌, if◌then◌else◌, List, [], ◌∷◌, Option, Some, None, is_none, is_some, refl, sym, ◌∙◌, ap, arith}
use Rattle.std.proofs.lemmas.Bool.Decides.{nat_tests}
use Rattle.scc_base.specs.Calls.{DataCall}
use Rattle.scc_base.specs.Events.{store_of}
use Rattle.scc_base.specs.Places.{WordAt}
use Rattle.scc_base.specs.Setups.{SetupView}
use Rattle.scc_base.specs.declared.signals.Signal.TheVariants.{Sent, Ready}
use Rattle.scc_proto.specs.Messages.{Note, Notes, Progress, fresh_message, head_of, is_whole}
use Rattle.scc_proto.specs.Moves.{Move, DraftHeader, DraftChunk, RaiseSignal, ReadChunk, LowerSignal, WriteRelease, StoreHeap}
use Rattle.scc_proto.specs.Permission.{is_drafted, is_whole_header, may_take, permits}
use Rattle.scc_proto.specs.Records.{change_at, chunk_of, is_permitted, permits_act, flags_noted, store_act}
use Rattle.scc_proto.specs.Singles.{is_free}
use Rattle.scc_proto.specs.Stages.{FlagWords, HeapStore, Filling, Raised, Answered, Stage, Idle, Drafting, Sending, Between, Taking, Barrier, InFlight, Record}
use Rattle.scc_proto.specs.Words.{Role, SignalFlags, role_of}
use Rattle.scc_proto.proofs.Tests.{both_first, both_second, same_by_eqb, true_not_false}
use Rattle.rank_monitor.specs.Next.{allowed_for, is_load_move, lacks_flags, lowers_beside, names_move, offers, ready_allowed, store_allowed, stores_allowed}
use Rattle.rank_monitor.specs.declared.next.NextEvent.TheVariants as next
use Rattle.rank_monitor.specs.declared.next.NextStore.{NextStore}
use Rattle.rank_monitor.specs.declared.next.NextStore.TheVariants as may

or_first : (a b : Bool) → a ≡ true → (a || b) ≡ true
or_first true b t = refl
or_first false b t = absurd (cc)

or_second : (a b : Bool) → b ≡ true → (a || b) ≡ true
or_second true b t = refl
or_second false b t = t

both : (a b : Bool) → a ≡ true → b ≡ true → (a && b) ≡ true
both true b p q = q
both false b p q = p

-- the `ready` of a post that is taken
lowers_posted : (post : InFlight) (by : ℕ) → ((post.to == by) && post.is_answered) ≡ true → lowers_beside (if post.is_answered then Some post.to else None) (LowerSignal Ready by) ≡ true
lowers_posted post by t = go post.is_answered t
  where
    go : (b : Bool) → ((post.to == by) && b) ≡ true → lowers_beside (if b then Some post.to else None) (LowerSignal Ready by) ≡ true
    go true t = both_first (post.to == by) true t
    go false t = absurd (true_not_false (sym (both_second (post.to == by) false t)))

posted_lowers : (post : InFlight) (by : ℕ) → (if post.is_answered then Some post.to else None) ≡ Some by → ((post.to == by) && post.is_answered) ≡ true
posted_lowers post by is = go post.is_answered is
  where
    go : (b : Bool) → (if b then Some post.to else None) ≡ Some by → ((post.to == by) && b) ≡ true
    go true e = grind (nat_tests, arith)
    go false e = absurd (cc)

-- a later chunk is taken of the rank of the first
taken_of : (j from : ℕ) (notes : Option Notes) (message : Progress) → may_take j notes (Between from message) ≡ true → (from == j) ≡ true
taken_of j from None message t = absurd (cc)
taken_of j from (Some header) message t = t

module _ (size : ℕ) (notes : ℕ → Option Notes) (flips : ℕ → ℕ) (held : ℕ → Option FlagWords) (heap : List HeapStore) (calls : List DataCall) where
  -- the record of this stage and post
  abbrev at : Stage → Option InFlight → Record
  at st post = record { stage = st; post = post; notes = notes; flips = flips; held = held; heap = heap; calls = calls }

  -- ---- what is permitted is named

  none_taken : (st : Stage) (from : ℕ) → ((header : Notes) → may_take from (Some header) st ≡ true → ⊥) → may_take from (notes from) st ≡ true → ⊥
  none_taken st from not_so t = by (notes from) t
    where
      by : (n : Option Notes) → may_take from n st ≡ true → ⊥
      by None e = absurd (cc)
      by (Some header) e = not_so header e

  -- a move that a record permits is named by these words
  abbrev Named : Stage → Option InFlight → NextStore → Move → Type 0
  Named st post store move = permits size move (at st post) ≡ true → is_load_move move ≡ false → names_move store (ready_allowed st post) move ≡ true

  idle_named : (post : Option InFlight) (move : Move) → Named Idle post (store_allowed size Idle post notes) move
  idle_named None (DraftHeader k v) t u = refl
  idle_named None (RaiseSignal Sent to) t u = cc
  idle_named None (LowerSignal Sent from) t u = cc
  idle_named None move t u = cc
  idle_named (Some p) (LowerSignal Ready by) t u = lowers_posted p by t
  idle_named (Some p) (RaiseSignal Sent to) t u = cc
  idle_named (Some p) move t u = cc

  drafting_named : (h c : Notes) (post : Option InFlight) (b : Bool) (move : Move) → Named (Drafting h c) post (if b then may.Raise else may.Draft) move
  drafting_named h c None true (LowerSignal Sent from) t u = absurd (none_taken (Drafting h c) from (λ header e. true_not_false (sym e)) t)
  drafting_named h c None true (RaiseSignal Sent to) t u = cc
  drafting_named h c None true move t u = cc
  drafting_named h c None false (LowerSignal Sent from) t u = absurd (none_taken (Drafting h c) from (λ header e. true_not_false (sym e)) t)
  drafting_named h c None false (RaiseSignal Sent to) t u = cc
  drafting_named h c None false move t u = cc
  drafting_named h c (Some p) true (LowerSignal Ready by) t u = lowers_posted p by t
  drafting_named h c (Some p) true (LowerSignal Sent from) t u = absurd (none_taken (Drafting h c) from (λ header e. true_not_false (sym e)) t)
  drafting_named h c (Some p) true (RaiseSignal Sent to) t u = cc
  drafting_named h c (Some p) true move t u = cc
  drafting_named h c (Some p) false (LowerSignal Ready by) t u = lowers_posted p by t
  drafting_named h c (Some p) false (LowerSignal Sent from) t u = absurd (none_taken (Drafting h c) from (λ header e. true_not_false (sym e)) t)
  drafting_named h c (Some p) false (RaiseSignal Sent to) t u = cc
  drafting_named h c (Some p) false move t u = cc

  fill_first_named : (j : ℕ) (message : Progress) (post : Option InFlight) (move : Move) → Named (Sending j Filling message []) post (may.FillFirst j) move
  fill_first_named j message None (RaiseSignal Sent to) t u = or_first (j == to) _ (both_first (j == to) _ t)
  fill_first_named j message None (LowerSignal Sent from) t u = absurd (none_taken (Sending j Filling message []) from (λ header e. true_not_false (sym e)) t)
  fill_first_named j message None move t u = cc
  fill_first_named j message (Some p) (LowerSignal Sent from) t u = absurd (none_taken (Sending j Filling message []) from (λ header e. true_not_false (sym e)) t)
  fill_first_named j message (Some p) (RaiseSignal Sent to) t u = cc
  fill_first_named j message (Some p) move t u = cc

  fill_named : (j : ℕ) (message : Progress) (n : Note) (ns : Notes) (post : Option InFlight) (b : Bool) (move : Move) → Named (Sending j Filling message (n ∷ ns)) post (if b then may.RaiseMore j else may.Fill j) move
  fill_named j message n ns None true (RaiseSignal Sent to) t u = or_first (j == to) _ (both_first (j == to) _ t)
  fill_named j message n ns None true (LowerSignal Sent from) t u = absurd (none_taken (Sending j Filling message (n ∷ ns)) from (λ header e. true_not_false (sym e)) t)
  fill_named j message n ns None true move t u = cc
  fill_named j message n ns None false (RaiseSignal Sent to) t u = or_first (j == to) _ (both_first (j == to) _ t)
  fill_named j message n ns None false (LowerSignal Sent from) t u = absurd (none_taken (Sending j Filling message (n ∷ ns)) from (λ header e. true_not_false (sym e)) t)
  fill_named j message n ns None false move t u = cc
  fill_named j message n ns (Some p) true (LowerSignal Sent from) t u = absurd (none_taken (Sending j Filling message (n ∷ ns)) from (λ header e. true_not_false (sym e)) t)
  fill_named j message n ns (Some p) true (RaiseSignal Sent to) t u = cc
  fill_named j message n ns (Some p) true move t u = cc
  fill_named j message n ns (Some p) false (LowerSignal Sent from) t u = absurd (none_taken (Sending j Filling message (n ∷ ns)) from (λ header e. true_not_false (sym e)) t)
  fill_named j message n ns (Some p) false (RaiseSignal Sent to) t u = cc
  fill_named j message n ns (Some p) false move t u = cc

  raised_named : (j : ℕ) (message : Progress) (c : Notes) (post : Option InFlight) (move : Move) → Named (Sending j Raised message c) post (may.SeeReady j) move
  raised_named j message c None (LowerSignal Sent from) t u = absurd (none_taken (Sending j Raised message c) from (λ header e. true_not_false (sym e)) t)
  raised_named j message c None (RaiseSignal Sent to) t u = cc
  raised_named j message c None move t u = cc
  raised_named j message c (Some p) (LowerSignal Sent from) t u = absurd (none_taken (Sending j Raised message c) from (λ header e. true_not_false (sym e)) t)
  raised_named j message c (Some p) (RaiseSignal Sent to) t u = cc
  raised_named j message c (Some p) move t u = cc

  answered_named : (j : ℕ) (message : Progress) (c : Notes) (post : Option InFlight) (move : Move) → Named (Sending j Answered message c) post (may.LowerReady j) move
  answered_named j message c None (LowerSignal Ready by) t u = or_first (j == by) _ t
  answered_named j message c None (LowerSignal Sent from) t u = absurd (none_taken (Sending j Answered message c) from (λ header e. true_not_false (sym e)) t)
  answered_named j message c None (RaiseSignal Sent to) t u = cc
  answered_named j message c None move t u = cc
  answered_named j message c (Some p) (LowerSignal Ready by) t u = or_first (j == by) _ t
  answered_named j message c (Some p) (LowerSignal Sent from) t u = absurd (none_taken (Sending j Answered message c) from (λ header e. true_not_false (sym e)) t)
  answered_named j message c (Some p) (RaiseSignal Sent to) t u = cc
  answered_named j message c (Some p) move t u = cc

  between_named : (i : ℕ) (message : Progress) (post : Option InFlight) (b : Bool) (move : Move) → Named (Between i message) post (if b then may.LowerSent i else may.SeeSent i) move
  between_named i message None true (LowerSignal Sent from) t u = or_first (i == from) _ (taken_of from i (notes from) message t)
  between_named i message None true (RaiseSignal Sent to) t u = cc
  between_named i message None true move t u = cc
  between_named i message None false (LowerSignal Sent from) t u = or_first (i == from) _ (taken_of from i (notes from) message t)
  between_named i message None false (RaiseSignal Sent to) t u = cc
  between_named i message None false move t u = cc
  between_named i message (Some p) true (LowerSignal Sent from) t u = or_first (i == from) _ (taken_of from i (notes from) message t)
  between_named i message (Some p) true (LowerSignal Ready by) t u = lowers_posted p by t
  between_named i message (Some p) true (RaiseSignal Sent to) t u = cc
  between_named i message (Some p) true move t u = cc
  between_named i message (Some p) false (LowerSignal Sent from) t u = or_first (i == from) _ (taken_of from i (notes from) message t)
  between_named i message (Some p) false (LowerSignal Ready by) t u = lowers_posted p by t
  between_named i message (Some p) false (RaiseSignal Sent to) t u = cc
  between_named i message (Some p) false move t u = cc

  taking_named : (i : ℕ) (message : Progress) (c : Notes) (post : Option InFlight) (b : Bool) (move : Move) → Named (Taking i message c) post (if b then may.RaiseReady i else may.ReadChunk i) move
  taking_named i message c None true (RaiseSignal Ready to) t u = or_first (i == to) _ (both_first (i == to) _ t)
  taking_named i message c None true (LowerSignal Sent from) t u = absurd (none_taken (Taking i message c) from (λ header e. true_not_false (sym e)) t)
  taking_named i message c None true move t u = cc
  taking_named i message c None false (RaiseSignal Ready to) t u = or_first (i == to) _ (both_first (i == to) _ t)
  taking_named i message c None false (LowerSignal Sent from) t u = absurd (none_taken (Taking i message c) from (λ header e. true_not_false (sym e)) t)
  taking_named i message c None false move t u = cc
  taking_named i message c (Some p) true (RaiseSignal Ready to) t u = or_first (i == to) _ (both_first (i == to) _ t)
  taking_named i message c (Some p) true (LowerSignal Ready by) t u = lowers_posted p by t
  taking_named i message c (Some p) true (LowerSignal Sent from) t u = absurd (none_taken (Taking i message c) from (λ header e. true_not_false (sym e)) t)
  taking_named i message c (Some p) true move t u = cc
  taking_named i message c (Some p) false (RaiseSignal Ready to) t u = or_first (i == to) _ (both_first (i == to) _ t)
  taking_named i message c (Some p) false (LowerSignal Ready by) t u = lowers_posted p by t
  taking_named i message c (Some p) false (LowerSignal Sent from) t u = absurd (none_taken (Taking i message c) from (λ header e. true_not_false (sym e)) t)
  taking_named i message c (Some p) false move t u = cc

  barrier_named : (c seen released : ℕ) (post : Option InFlight) (move : Move) → Named (Barrier c seen released) post (may.Meet c) move
  barrier_named c seen released None (WriteRelease comm to place value last) t u = or_first (c == comm) _ (both_first (c == comm) _ t)
  barrier_named c seen released None (LowerSignal Sent from) t u = absurd (none_taken (Barrier c seen released) from (λ header e. true_not_false (sym e)) t)
  barrier_named c seen released None (RaiseSignal Sent to) t u = cc
  barrier_named c seen released None move t u = cc
  barrier_named c seen released (Some p) (WriteRelease comm to place value last) t u = or_first (c == comm) _ (both_first (c == comm) _ t)
  barrier_named c seen released (Some p) (LowerSignal Ready by) t u = lowers_posted p by t
  barrier_named c seen released (Some p) (LowerSignal Sent from) t u = absurd (none_taken (Barrier c seen released) from (λ header e. true_not_false (sym e)) t)
  barrier_named c seen released (Some p) (RaiseSignal Sent to) t u = cc
  barrier_named c seen released (Some p) move t u = cc

  pub store_named : (st : Stage) (post : Option InFlight) (move : Move) → Named st post (store_allowed size st post notes) move
  store_named Idle post move t u = idle_named post move t u
  store_named (Drafting h c) post move t u = drafting_named h c post (is_whole_header h && is_drafted size (fresh_message (head_of h)) c) move t u
  store_named (Sending j Filling message []) post move t u = fill_first_named j message post move t u
  store_named (Sending j Filling message (n ∷ ns)) post move t u = fill_named j message n ns post (is_drafted size message (n ∷ ns)) move t u
  store_named (Sending j Raised message c) post move t u = raised_named j message c post move t u
  store_named (Sending j Answered message c) post move t u = answered_named j message c post move t u
  store_named (Between i message) post move t u = between_named i message post (is_some (notes i)) move t u
  store_named (Taking i message c) post move t u = taking_named i message c post (is_whole size message c) move t u
  store_named (Barrier c seen released) post move t u = barrier_named c seen released post move t u

  -- ---- what is offered is permitted

  -- a move that these words offer is permitted
  abbrev Offered : Stage → Option InFlight → NextStore → Move → Type 0
  Offered st post store move = offers store move ≡ true → permits size move (at st post) ≡ true

  drafting_offered : (h c : Notes) (b : Bool) (move : Move) → (is_whole_header h && is_drafted size (fresh_message (head_of h)) c) ≡ b → Offered (Drafting h c) None (if b then may.Raise else may.Draft) move
  drafting_offered h c true (RaiseSignal Sent to) is t = is
  drafting_offered h c true move is t = cc
  drafting_offered h c false (DraftHeader k v) is t = refl
  drafting_offered h c false move is t = cc

  fill_first_offered : (j : ℕ) (message : Progress) (move : Move) → Offered (Sending j Filling message []) None (may.FillFirst j) move
  fill_first_offered j message (DraftChunk k v) t = refl
  fill_first_offered j message move t = cc

  fill_offered : (j : ℕ) (message : Progress) (n : Note) (ns : Notes) (b : Bool) (move : Move) → is_drafted size message (n ∷ ns) ≡ b
      → Offered (Sending j Filling message (n ∷ ns)) None (if b then may.RaiseMore j else may.Fill j) move
  fill_offered j message n ns true (RaiseSignal Sent to) is t = both (j == to) _ t is
  fill_offered j message n ns true move is t = cc
  fill_offered j message n ns false (DraftChunk k v) is t = refl
  fill_offered j message n ns false move is t = cc

  answered_offered : (j : ℕ) (message : Progress) (c : Notes) (post : Option InFlight) (move : Move) → Offered (Sending j Answered message c) post (may.LowerReady j) move
  answered_offered j message c post (LowerSignal Ready by) t = t
  answered_offered j message c post move t = absurd (cc)

  between_offered : (i : ℕ) (message : Progress) (post : Option InFlight) (b : Bool) (move : Move) → is_some (notes i) ≡ b → Offered (Between i message) post (if b then may.LowerSent i else may.SeeSent i) move
  between_offered i message post true (LowerSignal Sent from) is t = by (notes from) (ap (λ (k : ℕ). is_some (notes k)) (sym (same_by_eqb i from t)) ∙ is)
    where
      by : (n : Option Notes) → is_some n ≡ true → may_take from n (Between i message) ≡ true
      by None e = absurd (cc)
      by (Some header) e = t
  between_offered i message post true move is t = cc
  between_offered i message post false (StoreHeap place v) is t = refl
  between_offered i message post false move is t = cc

  taking_offered : (i : ℕ) (message : Progress) (c : Notes) (post : Option InFlight) (b : Bool) (move : Move) → is_whole size message c ≡ b → Offered (Taking i message c) post (if b then may.RaiseReady i else may.ReadChunk i) move
  taking_offered i message c post true (RaiseSignal Ready to) is t = both (i == to) _ t is
  taking_offered i message c post true move is t = absurd (cc)
  taking_offered i message c post false move is t = absurd (nothing move t)
    where
      nothing : (m : Move) → offers (may.ReadChunk i) m ≡ true → ⊥
      nothing (DraftHeader k v) e = absurd (cc)
      nothing m e = absurd (cc)

  idle_offered : (post : Option InFlight) (move : Move) → Offered Idle post (store_allowed size Idle post notes) move
  idle_offered None (DraftHeader k v) t = refl
  idle_offered None move t = cc
  idle_offered (Some p) (StoreHeap place v) t = refl
  idle_offered (Some p) move t = absurd (cc)

  nothing_offered : (store : NextStore) (st : Stage) (post : Option InFlight) (move : Move) → ((m : Move) → offers store m ≡ false) → Offered st post store move
  nothing_offered store st post move none t = absurd (true_not_false (sym t ∙ none move))

  see_ready_none : (j : ℕ) (move : Move) → offers (may.SeeReady j) move ≡ false
  see_ready_none j (DraftHeader k v) = refl
  see_ready_none j move = refl

  meet_none : (c : ℕ) (move : Move) → offers (may.Meet c) move ≡ false
  meet_none c (DraftHeader k v) = refl
  meet_none c move = refl

  no_post : (st : Stage) (post : Option InFlight) → (post ≡ None) ⊎ (is_free st ≡ true) → is_free st ≡ false → post ≡ None
  no_post st post (inl none) busy = none
  no_post st post (inr free) busy = absurd (true_not_false (sym free ∙ busy))

  alone : (st : Stage) (post : Option InFlight) (store : NextStore) (move : Move) → (post ≡ None) ⊎ (is_free st ≡ true) → is_free st ≡ false → Offered st None store move → Offered st post store move
  alone st post store move free busy offered t = ap (λ (p : Option InFlight). permits size move (at st p)) (no_post st post free busy) ∙ offered t

  pub store_offered : (st : Stage) (post : Option InFlight) (move : Move) → (post ≡ None) ⊎ (is_free st ≡ true) → Offered st post (store_allowed size st post notes) move
  store_offered Idle post move free t = idle_offered post move t
  store_offered (Drafting h c) post move free t = alone (Drafting h c) post (store_allowed size (Drafting h c) post notes) move free refl (drafting_offered h c (is_whole_header h && is_drafted size (fresh_message (head_of h)) c) move refl) t
  store_offered (Sending j Filling message []) post move free t = alone (Sending j Filling message []) post (may.FillFirst j) move free refl (fill_first_offered j message move) t
  store_offered (Sending j Filling message (n ∷ ns)) post move free t = alone (Sending j Filling message (n ∷ ns)) post (store_allowed size (Sending j Filling message (n ∷ ns)) post notes) move free refl (fill_offered j message n ns (is_drafted size message (n ∷ ns)) move refl) t
  store_offered (Sending j Raised message c) post move free t = nothing_offered (may.SeeReady j) (Sending j Raised message c) post move (see_ready_none j) t
  store_offered (Sending j Answered message c) post move free t = answered_offered j message c post move t
  store_offered (Between i message) post move free t = between_offered i message post (is_some (notes i)) move refl t
  store_offered (Taking i message c) post move free t = taking_offered i message c post (is_whole size message c) move refl t
  store_offered (Barrier c seen released) post move free t = nothing_offered (may.Meet c) (Barrier c seen released) post move (meet_none c) t

  pub beside_permitted : (by : ℕ) (st : Stage) (post : Option InFlight) → ready_allowed st post ≡ Some by → permits size (LowerSignal Ready by) (at st post) ≡ true
  beside_permitted by (Sending j part message c) post is = absurd (cc)
  beside_permitted by Idle None is = absurd (cc)
  beside_permitted by Idle (Some p) is = posted_lowers p by is
  beside_permitted by (Drafting h c) None is = absurd (cc)
  beside_permitted by (Drafting h c) (Some p) is = posted_lowers p by is
  beside_permitted by (Between i message) None is = absurd (cc)
  beside_permitted by (Between i message) (Some p) is = posted_lowers p by is
  beside_permitted by (Taking i message c) None is = absurd (cc)
  beside_permitted by (Taking i message c) (Some p) is = posted_lowers p by is
  beside_permitted by (Barrier c seen released) None is = absurd (cc)
  beside_permitted by (Barrier c seen released) (Some p) is = posted_lowers p by is

-- ---- events

-- a slot is empty or not
pub some_or_none : {A : Type 0} (o : Option A) → (is_none o ≡ true → ⊥) → is_some o ≡ true
some_or_none None not_so = absurd (not_so refl)
some_or_none (Some x) not_so = refl

pub none_or_some : {A : Type 0} (o : Option A) → (is_some o ≡ true → ⊥) → is_none o ≡ true
none_or_some None not_so = refl
none_or_some (Some x) not_so = absurd (not_so refl)

-- a word of bit flags that is not noted is not stored
pub flags_first : (s : SetupView) (me value other : ℕ) (rec : Record) (place : WordAt) → allowed_for s rec (store_of place value) ≡ next.LoadFlags
    → is_permitted s me rec (store_of place other) ≡ true → ⊥
flags_first s me value other rec place is t = by (role_of s place) is t
  where
    unnoted : (lower raise : ℕ → Move) (owner : ℕ) (word : Option ℕ) → is_none word ≡ true → permits (chunk_of s) (change_at lower raise s me owner other word) rec ≡ true → ⊥
    unnoted lower raise owner None e f = absurd (cc)
    unnoted lower raise owner (Some old) e f = absurd (cc)

    no_word : (role : Role) → lacks_flags rec place.core role ≡ true → permits_act (chunk_of s) (store_act s me rec place other role) rec ≡ true → ⊥
    no_word (SignalFlags signal at) e f = absurd (unnoted (LowerSignal signal) (RaiseSignal signal) at (flags_noted signal rec place.core) e f)
    no_word role e f = absurd (cc)

    by : (role : Role) → (if lacks_flags rec place.core role then next.LoadFlags else stores_allowed s rec) ≡ next.LoadFlags
        → permits_act (chunk_of s) (store_act s me rec place other role) rec ≡ true → ⊥
    by role e f = lacks (lacks_flags rec place.core role) refl e
      where
        lacks : (b : Bool) → lacks_flags rec place.core role ≡ b → (if b then next.LoadFlags else stores_allowed s rec) ≡ next.LoadFlags → ⊥
        lacks true same g = no_word role same f
        lacks false same g = absurd (cc)
