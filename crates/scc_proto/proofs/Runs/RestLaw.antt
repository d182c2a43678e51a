-- Looks are never undone: a list of events that rest leaves the record alike only where each part of it does.
use Rattle.std.proofs.Common.{◌≡◌, ◌⊎◌, inl, inr, ⊎_elim, ℕ, zero, suc, ◌%◌, ◌<◌, ◌==◌, Bool, true, false, not, ◌&&◌, if◌then◌else◌, List, [], ◌∷◌, ◌++◌, length, Option, Some, None, is_some, option_map, refl, sym, ◌∙◌, ap, subst, arith, length-append}
use Rattle.std.specs.List.{list_all}
use Rattle.std.proofs.lemmas.Bool.Decides.{nat_tests}
use Rattle.scc_base.specs.Calls.{DataCall, Bar}
use Rattle.scc_base.specs.Places.{WordAt}
use Rattle.scc_base.specs.Setups.{SetupView, place_of}
use Rattle.scc_base.specs.declared.events.Access.{Access}
use Rattle.scc_base.specs.declared.events.Access.TheVariants.{Load, Store, Take, Free}
use Rattle.scc_base.specs.declared.events.Event.{Event}
use Rattle.scc_base.specs.declared.signals.Signal.TheVariants.{Sent, Ready}
use Rattle.scc_proto.specs.Messages.{note_word}
use Rattle.scc_proto.specs.Stages.{Part, Filling, Raised, Answered, Stage, Idle, Drafting, Sending, Between, Taking, Barrier, InFlight, Record}
use Rattle.scc_proto.specs.Moves.{Move, LookSignal, ReadHeader, ReadChunk, LookGather, LookRelease, NoMove, read_chunk, look_ready, look_gather, look_release, post_answered, calls_let_go, after}
use Rattle.scc_proto.specs.Words.{Role, HeaderWord, ChunkWord, SignalFlag, SignalFlags, GatherFlag, ReleaseFlag, HeapWord, IdleWord, role_of}
use Rattle.scc_proto.specs.Records.{chunk_of, leads, look_at, look_at_bits, load_by, EventAct, Moving, NotingSignal, load_act, act_by, act_of, after_act, is_permitted, record_after, record_from}
use Rattle.scc_proto.specs.Like.{as_unanswered, Like}
use Rattle.scc_proto.specs.Resting.{is_resting_by, is_resting}
use Rattle.scc_proto.proofs.Words.FlagsTold.{like_self, like_both}
use Rattle.scc_proto.proofs.PortLaws.{record_from-append}
use Rattle.scc_proto.proofs.Tests.{both_first, both_second}

-- how far looks have come in what the rank is in the midst of
abbrev seen_part : Part → ℕ
seen_part Filling = 0
seen_part Raised = 0
seen_part Answered = 1

abbrev progress : Stage → ℕ
progress Idle = 0
progress (Drafting header chunk) = 0
progress (Sending to part message chunk) = seen_part part
progress (Between from message) = 0
progress (Taking from message chunk) = length chunk
progress (Barrier comm seen released) = seen

-- more calls are finished, or as many and looks have come further
abbrev IsFurther : Record → Record → Type 0
IsFurther rec new = (length rec.calls < length new.calls) ⊎ ((length rec.calls ≡ length new.calls) × (progress rec.stage < progress new.stage))

-- what events that rest make of a record
abbrev Comes : Record → Record → Type 0
Comes rec new = Like rec new ⊎ IsFurther rec new

-- what one look makes of a stage
abbrev Looked : Stage → Stage → Type 0
Looked st new = (st ≡ new) ⊎ (progress st < progress new)

read_further : (from k v : ℕ) (st : Stage) → Looked st (read_chunk from k v st)
read_further from k v Idle = inl refl
read_further from k v (Drafting header chunk) = inl refl
read_further from k v (Sending to part message chunk) = inl refl
read_further from k v (Between i message) = inl refl
read_further from k v (Taking i message chunk) = by (i == from)
  where
    by : (b : Bool) → Looked (Taking i message chunk) (if b then Taking i message (note_word k v chunk) else Taking i message chunk)
    by true = inr (omega arith)
    by false = inl refl
read_further from k v (Barrier comm seen released) = inl refl

ready_further : (is_set : ℕ → Bool) (st : Stage) → Looked st (look_ready is_set st)
ready_further is_set Idle = inl refl
ready_further is_set (Drafting header chunk) = inl refl
ready_further is_set (Sending to Filling message chunk) = inl refl
ready_further is_set (Sending to Raised message chunk) = by (is_set to)
  where
    by : (b : Bool) → Looked (Sending to Raised message chunk) (if b then Sending to Answered message chunk else Sending to Raised message chunk)
    by true = inr (omega arith)
    by false = inl refl
ready_further is_set (Sending to Answered message chunk) = inl refl
ready_further is_set (Between from message) = inl refl
ready_further is_set (Taking from message chunk) = inl refl
ready_further is_set (Barrier comm seen released) = inl refl

gather_further : (comm place value v : ℕ) (st : Stage) → Looked st (look_gather comm place value v st)
gather_further comm place value v Idle = inl refl
gather_further comm place value v (Drafting header chunk) = inl refl
gather_further comm place value v (Sending to part message chunk) = inl refl
gather_further comm place value v (Between from message) = inl refl
gather_further comm place value v (Taking from message chunk) = inl refl
gather_further comm place value v (Barrier c seen released) = by ((c == comm) && ((place == suc seen) && (value == v)))
  where
    by : (b : Bool) → Looked (Barrier c seen released) (if b then Barrier c (suc seen) released else Barrier c seen released)
    by true = inr (omega arith)
    by false = inl refl

-- a look at a release flag ends the barrier, or changes nothing
abbrev LetGo : Stage → Stage → List DataCall → List DataCall → Type 0
LetGo st new calls more = ((st ≡ new) × (calls ≡ more)) ⊎ (length calls < length more)

one_more : (calls : List DataCall) (call : DataCall) → length calls < length (calls ++ call ∷ [])
one_more calls call = omega (arith, length-append calls (call ∷ []))

release_further : (comm value v : ℕ) (calls : List DataCall) (st : Stage) → LetGo st (look_release comm value v st) calls (calls_let_go comm value v st calls)
release_further comm value v calls Idle = inl (refl, refl)
release_further comm value v calls (Drafting header chunk) = inl (refl, refl)
release_further comm value v calls (Sending to part message chunk) = inl (refl, refl)
release_further comm value v calls (Between from message) = inl (refl, refl)
release_further comm value v calls (Taking from message chunk) = inl (refl, refl)
release_further comm value v calls (Barrier c seen released) = by ((c == comm) && (value == v))
  where
    by : (b : Bool) → LetGo (Barrier c seen released) (if b then Idle else Barrier c seen released) calls (if b then calls ++ Bar c ∷ [] else calls)
    by true = inr (one_more calls (Bar c))
    by false = inl (refl, refl)

-- whether its `ready` was seen makes no difference to a posted message
answered_like : (is_set : ℕ → Bool) (post : Option InFlight) → option_map as_unanswered post ≡ option_map as_unanswered (option_map (post_answered is_set) post)
answered_like is_set None = refl
answered_like is_set (Some post) = refl

-- the moves that loads are
abbrev is_look : Move → Bool
is_look (LookSignal signal is_set) = true
is_look (ReadHeader from k v) = true
is_look (ReadChunk from k v) = true
is_look (LookGather comm from place value) = true
is_look (LookRelease comm value) = true
is_look NoMove = true
is_look _ = false

if_looks : (b : Bool) (one other : Move) → is_look one ≡ true → is_look other ≡ true → is_look (if b then one else other) ≡ true
if_looks true one other a b = a
if_looks false one other a b = b

load_looks : (s : SetupView) (me value : ℕ) (role : Role) → is_look (load_by s me value role) ≡ true
load_looks s me value (HeaderWord owner k) = refl
load_looks s me value (ChunkWord owner k) = refl
load_looks s me value (SignalFlag signal by at) = if_looks (at == me) (LookSignal signal (look_at by value)) NoMove refl refl
load_looks s me value (SignalFlags signal at) = if_looks (at == me) (LookSignal signal (look_at_bits s me value)) NoMove refl refl
load_looks s me value (GatherFlag comm owner) = if_looks (leads s comm me owner) (LookGather comm owner (place_of s comm owner) value) NoMove refl refl
load_looks s me value (ReleaseFlag comm owner) = if_looks ((owner == me) && not (leads s comm me me)) (LookRelease comm value) NoMove refl refl
load_looks s me value HeapWord = refl
load_looks s me value IdleWord = refl

module _ (s : SetupView) (me : ℕ) where
  look_comes : (move : Move) → is_look move ≡ true → (rec : Record) → Comes rec (after (chunk_of s) move rec)
  look_comes (LookSignal Sent is_set) looks rec = inl (record { stage = refl; post = refl; flips = λ comm. refl; calls = refl })
  look_comes (ReadHeader from k v) looks rec = inl (record { stage = refl; post = refl; flips = λ comm. refl; calls = refl })
  look_comes (ReadChunk from k v) looks rec =
      ⊎_elim
      (λ (same : rec.stage ≡ read_chunk from k v rec.stage). inl (record { stage = same; post = refl; flips = λ comm. refl; calls = refl }))
      (λ (more : progress rec.stage < progress (read_chunk from k v rec.stage)). inr (inr (refl, more)))
      (read_further from k v rec.stage)
  look_comes (LookSignal Ready is_set) looks rec =
      ⊎_elim
      (λ (same : rec.stage ≡ look_ready is_set rec.stage). inl (record { stage = same; post = answered_like is_set rec.post; flips = λ comm. refl; calls = refl }))
      (λ (more : progress rec.stage < progress (look_ready is_set rec.stage)). inr (inr (refl, more)))
      (ready_further is_set rec.stage)
  look_comes (LookGather comm from place value) looks rec =
      ⊎_elim
      (λ (same : rec.stage ≡ look_gather comm place value (rec.flips comm % 2) rec.stage). inl (record { stage = same; post = refl; flips = λ c. refl; calls = refl }))
      (λ (more : progress rec.stage < progress (look_gather comm place value (rec.flips comm % 2) rec.stage)). inr (inr (refl, more)))
      (gather_further comm place value (rec.flips comm % 2) rec.stage)
  look_comes (LookRelease comm value) looks rec =
      ⊎_elim
      (λ (same : (rec.stage ≡ look_release comm value (rec.flips comm % 2) rec.stage) × (rec.calls ≡ calls_let_go comm value (rec.flips comm % 2) rec.stage rec.calls)).
      inl (record { stage = same.0; post = refl; flips = λ c. refl; calls = same.1 }))
      (λ (more : length rec.calls < length (calls_let_go comm value (rec.flips comm % 2) rec.stage rec.calls)). inr (inl more))
      (release_further comm value (rec.flips comm % 2) rec.calls rec.stage)
  look_comes NoMove looks rec = inl (record { stage = refl; post = refl; flips = λ comm. refl; calls = refl })
  look_comes _ looks rec = absurd (cc)

  if_comes : (b : Bool) (one other : EventAct) (rec : Record) → Comes rec (after_act (chunk_of s) one rec) → Comes rec (after_act (chunk_of s) other rec) → Comes rec (after_act (chunk_of s) (if b then one else other) rec)
  if_comes true one other rec a b = a
  if_comes false one other rec a b = b

  load_comes : (rec : Record) (place : WordAt) (value : ℕ) (role : Role) → Comes rec (after_act (chunk_of s) (load_act s me rec place value role) rec)
  load_comes rec place value (HeaderWord owner k) = look_comes (load_by s me value (HeaderWord owner k)) refl rec
  load_comes rec place value (ChunkWord owner k) = look_comes (load_by s me value (ChunkWord owner k)) refl rec
  load_comes rec place value (SignalFlag signal by at) = look_comes (load_by s me value (SignalFlag signal by at)) (load_looks s me value (SignalFlag signal by at)) rec
  load_comes rec place value (SignalFlags signal at) =
      if_comes (is_some (rec.held place.core)) (NotingSignal signal place.core value) (Moving (load_by s me value (SignalFlags signal at))) rec
      (inl (record { stage = refl; post = refl; flips = λ comm. refl; calls = refl }))
      (look_comes (load_by s me value (SignalFlags signal at)) (load_looks s me value (SignalFlags signal at)) rec)
  load_comes rec place value (GatherFlag comm owner) = look_comes (load_by s me value (GatherFlag comm owner)) (load_looks s me value (GatherFlag comm owner)) rec
  load_comes rec place value (ReleaseFlag comm owner) = look_comes (load_by s me value (ReleaseFlag comm owner)) (load_looks s me value (ReleaseFlag comm owner)) rec
  load_comes rec place value HeapWord = look_comes NoMove refl rec
  load_comes rec place value IdleWord = look_comes NoMove refl rec

  take_comes : (rec : Record) (place : WordAt) (value : ℕ) → (value == 0) ≡ true → Comes rec (after_act (chunk_of s) (act_by s me rec Take place value) rec)
  take_comes rec place zero found = inl (record { stage = refl; post = refl; flips = λ comm. refl; calls = refl })
  take_comes rec place (suc value) found = absurd (grind (arith, nat_tests))

  act_comes : (rec : Record) (access : Access) (place : WordAt) (value : ℕ) → is_resting_by access value ≡ true → Comes rec (after_act (chunk_of s) (act_by s me rec access place value) rec)
  act_comes rec Load place value rests = load_comes rec place value (role_of s place)
  act_comes rec Store place value rests = absurd (cc)
  act_comes rec Take place value rests = take_comes rec place value rests
  act_comes rec Free place value rests = absurd (cc)

  event_comes : (rec : Record) (e : Event) → is_resting e ≡ true → Comes rec (record_after s me rec e)
  unfolding act_of
  event_comes rec e rests = by (is_permitted s me rec e)
    where
      by : (b : Bool) → Comes rec (if b then after_act (chunk_of s) (act_by s me rec e.access e.place e.value) rec else rec)
      by true = act_comes rec e.access e.place e.value rests
      by false = inl (like_self rec)

  further_both : (a b c : Record) → IsFurther a b → IsFurther b c → IsFurther a c
  further_both a b c (inl x) (inl y) = inl (omega (arith, x, y))
  further_both a b c (inl x) (inr (same, more)) = inl (omega (arith, x, same))
  further_both a b c (inr (same, more)) (inl y) = inl (omega (arith, same, y))
  further_both a b c (inr (same, more)) (inr (equal, yet)) = inr (same ∙ equal, omega (arith, more, yet))

  like_further : (a b c : Record) → Like a b → IsFurther b c → IsFurther a c
  like_further a b c like (inl x) = inl (subst (λ (l : List DataCall). length l < length c.calls) (sym like.calls) x)
  like_further a b c like (inr (same, more)) =
      inr (ap length like.calls ∙ same, subst (λ (st : Stage). progress st < progress c.stage) (sym like.stage) more)

  further_like : (a b c : Record) → IsFurther a b → Like b c → IsFurther a c
  further_like a b c (inl x) like = inl (subst (λ (l : List DataCall). length a.calls < length l) like.calls x)
  further_like a b c (inr (same, more)) like =
      inr (same ∙ ap length like.calls, subst (λ (st : Stage). progress a.stage < progress st) like.stage more)

  comes_both : (a b c : Record) → Comes a b → Comes b c → Comes a c
  comes_both a b c (inl x) (inl y) = inl (like_both a b c x y)
  comes_both a b c (inl x) (inr y) = inr (like_further a b c x y)
  comes_both a b c (inr x) (inl y) = inr (further_like a b c x y)
  comes_both a b c (inr x) (inr y) = inr (further_both a b c x y)

  -- events that rest bring a record further, or leave it alike
  events_come : (rec : Record) (es : List Event) → list_all is_resting es ≡ true → Comes rec (record_from s me rec es)
  events_come rec [] rests = inl (like_self rec)
  events_come rec (e ∷ es) rests =
      comes_both rec (record_after s me rec e) (record_from s me (record_after s me rec e) es)
      (event_comes rec e (both_first (is_resting e) (list_all is_resting es) rests))
      (events_come (record_after s me rec e) es (both_second (is_resting e) (list_all is_resting es) rests))

  not_further : (a b : Record) → Like a b → IsFurther a b → ⊥
  not_further a b like (inl x) = let same : length a.calls ≡ length b.calls = ap length like.calls in omega (arith, x, same)
  not_further a b like (inr (equal, more)) = let same : progress a.stage ≡ progress b.stage = ap progress like.stage in omega (arith, more, same)

  -- a record that is alike after all of the events was alike after each front of them
  pub resting_part : (rec : Record) (before rest : List Event) → list_all is_resting before ≡ true → list_all is_resting rest ≡ true → Like rec (record_from s me rec (before ++ rest)) → Like rec (record_from s me rec before)
  resting_part rec before rest one two like =
      let mid : Record = record_from s me rec before in
      let end : Record = record_from s me mid rest in
      let whole : Like rec end = subst (λ (r : Record). Like rec r) (record_from-append s me rec before rest) like in
      ⊎_elim
      (λ (same : Like rec mid). same)
      (λ (more : IsFurther rec mid).
      absurd (⊎_elim
      (λ (kept : Like mid end). not_further rec end whole (further_like rec mid end more kept))
      (λ (yet : IsFurther mid end). not_further rec end whole (further_both rec mid end more yet))
      (events_come mid rest two)))
      (events_come rec before one)
