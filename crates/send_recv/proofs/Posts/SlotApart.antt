-- Beside a posted message that is on its way no other message is drafted or raised, in the record of any
-- list of events.
use Rattle.std.proofs.Common.{◌≡◌, ℕ, suc, Bool, true, false, not, ◌&&◌, ◌==◌, if◌then◌else◌, List, [], ◌∷◌, Option, Some, None, is_none, is_some, unwrap_or, option_map, refl, ◌∙◌}
use Rattle.scc_base.specs.Places.{WordAt}
use Rattle.scc_base.specs.Setups.{SetupView, place_of}
use Rattle.scc_base.specs.declared.events.Access.{Access}
use Rattle.scc_base.specs.declared.events.Access.TheVariants.{Load, Store, Take, Free}
use Rattle.scc_base.specs.declared.events.Event.{Event}
use Rattle.scc_base.specs.declared.signals.Signal.TheVariants.{Sent, Ready}
use Rattle.scc_proto.specs.Messages.{Notes, note_word, Progress, is_last, with_chunk}
use Rattle.scc_proto.specs.Stages.{Filling, Raised, Answered, Stage, Idle, Drafting, Sending, Between, Taking, Barrier, InFlight, Record, blank}
use Rattle.scc_proto.specs.Moves.{Move, DraftHeader, DraftChunk, RaiseSignal, LookSignal, ReadHeader, ReadChunk, LowerSignal, FlipGather, LookGather, WriteRelease, LookRelease, StoreHeap, NoMove, Misplaced, after, is_posted, read_chunk, lower_sent, raise_ready, look_ready, flip_gather, look_gather, write_release, look_release}
use Rattle.scc_proto.specs.Permission.{permits, may_raise}
use Rattle.scc_proto.specs.Singles.{is_free}
use Rattle.scc_proto.specs.Words.{Role, HeaderWord, ChunkWord, SignalFlag, SignalFlags, GatherFlag, ReleaseFlag, HeapWord, IdleWord, role_of}
use Rattle.scc_proto.specs.Records.{look_at, look_at_bits, leads, EventAct, Moving, NotingSignal, ChangingSignal, Holding, Freeing, load_by, load_act, store_act, act_by, act_of, after_act, permits_act, permits_by, is_permitted, record_after, record_from, record_of, chunk_of}
use Rattle.scc_proto.specs.Ports.{Sight, record_in}

-- no message is on its way, or no other one is drafted or raised
abbrev pub is_apart : Option InFlight → Stage → Bool
is_apart None stage = true
is_apart (Some post) stage = is_free stage

abbrev pub IsApart : Record → Type 0
IsApart rec = is_apart rec.post rec.stage ≡ true

-- ---- moves

none_apart : (post : Option InFlight) (b : Bool) (stage : Stage) → (is_none post && b) ≡ true → is_apart post stage ≡ true
none_apart None b stage may = refl
none_apart (Some post) b stage may = absurd (cc)

free_kept : (post : Option InFlight) (stage new : Stage) → is_free new ≡ is_free stage → is_apart post stage ≡ true → is_apart post new ≡ true
free_kept None stage new same h = refl
free_kept (Some post) stage new same h = same ∙ h

free_if : (b : Bool) (one other : Stage) → is_free one ≡ true → is_free other ≡ true → is_free (if b then one else other) ≡ true
free_if true one other a c = a
free_if false one other a c = c

read_free : (from k v : ℕ) (stage : Stage) → is_free (read_chunk from k v stage) ≡ is_free stage
read_free from k v Idle = refl
read_free from k v (Drafting header chunk) = refl
read_free from k v (Sending to part message chunk) = refl
read_free from k v (Between i message) = refl
read_free from k v (Taking i message chunk) = free_if (i == from) (Taking i message (note_word k v chunk)) (Taking i message chunk) refl refl
read_free from k v (Barrier comm seen released) = refl

lower_free : (from : ℕ) (header : Notes) (stage : Stage) → is_free (lower_sent from header stage) ≡ is_free stage
lower_free from header Idle = refl
lower_free from header (Drafting h c) = refl
lower_free from header (Sending to part message chunk) = refl
lower_free from header (Between i message) = refl
lower_free from header (Taking i message chunk) = refl
lower_free from header (Barrier comm seen released) = refl

ready_free : (size : ℕ) (stage : Stage) → is_free (raise_ready size stage) ≡ is_free stage
ready_free size Idle = refl
ready_free size (Drafting h c) = refl
ready_free size (Sending to part message chunk) = refl
ready_free size (Between i message) = refl
ready_free size (Taking i message chunk) = free_if (is_last size message) Idle (Between i (with_chunk size message chunk)) refl refl
ready_free size (Barrier comm seen released) = refl

sending_if : (b : Bool) (to : ℕ) (message : Progress) (chunk : Notes) → is_free (if b then Sending to Answered message chunk else Sending to Raised message chunk) ≡ false
sending_if true to message chunk = refl
sending_if false to message chunk = refl

look_free : (q : ℕ → Bool) (stage : Stage) → is_free (look_ready q stage) ≡ is_free stage
look_free q Idle = refl
look_free q (Drafting h c) = refl
look_free q (Sending to Filling message chunk) = refl
look_free q (Sending to Raised message chunk) = sending_if (q to) to message chunk
look_free q (Sending to Answered message chunk) = refl
look_free q (Between i message) = refl
look_free q (Taking i message chunk) = refl
look_free q (Barrier comm seen released) = refl

flip_free : (comm last : ℕ) (stage : Stage) → is_free (flip_gather comm last stage) ≡ is_free stage
flip_free comm last Idle = free_if (last == 0) Idle (Barrier comm 0 0) refl refl
flip_free comm last (Drafting h c) = refl
flip_free comm last (Sending to part message chunk) = refl
flip_free comm last (Between i message) = refl
flip_free comm last (Taking i message chunk) = refl
flip_free comm last (Barrier c seen released) = refl

gather_free : (comm place value v : ℕ) (stage : Stage) → is_free (look_gather comm place value v stage) ≡ is_free stage
gather_free comm place value v Idle = refl
gather_free comm place value v (Drafting h c) = refl
gather_free comm place value v (Sending to part message chunk) = refl
gather_free comm place value v (Between i message) = refl
gather_free comm place value v (Taking i message chunk) = refl
gather_free comm place value v (Barrier c seen released) = free_if ((c == comm) && ((place == suc seen) && (value == v))) (Barrier c (suc seen) released) (Barrier c seen released) refl refl

write_free : (last : ℕ) (stage : Stage) → is_free (write_release last stage) ≡ is_free stage
write_free last Idle = refl
write_free last (Drafting h c) = refl
write_free last (Sending to part message chunk) = refl
write_free last (Between i message) = refl
write_free last (Taking i message chunk) = refl
write_free last (Barrier c seen released) = free_if (suc released == last) Idle (Barrier c seen (suc released)) refl refl

release_free : (comm value v : ℕ) (stage : Stage) → is_free (look_release comm value v stage) ≡ is_free stage
release_free comm value v Idle = refl
release_free comm value v (Drafting h c) = refl
release_free comm value v (Sending to part message chunk) = refl
release_free comm value v (Between i message) = refl
release_free comm value v (Taking i message chunk) = refl
release_free comm value v (Barrier c seen released) = free_if ((c == comm) && (value == v)) Idle (Barrier c seen released) refl refl

answered_apart : (q : ℕ → Bool) (post : Option InFlight) (stage : Stage) → is_apart post stage ≡ true
    → is_apart (option_map (λ (p : InFlight). record p { is_answered = if q p.to then true else p.is_answered }) post) (look_ready q stage) ≡ true
answered_apart q None stage h = refl
answered_apart q (Some post) stage h = look_free q stage ∙ h

posted_apart : (b : Bool) (post : InFlight) (stage : Stage) → is_apart (if b then Some post else None) (if b then Idle else stage) ≡ true
posted_apart true post stage = refl
posted_apart false post stage = refl

raised_apart : (size to : ℕ) (rec : Record) (post : Option InFlight) (stage : Stage) → (is_none post && may_raise size to stage) ≡ true
    → IsApart (after size (RaiseSignal Sent to) (record rec { post = post; stage = stage }))
raised_apart size to rec (Some post) stage may = absurd (cc)
raised_apart size to rec None Idle may = refl
raised_apart size to rec None (Drafting header chunk) may = posted_apart (is_posted header) _ _
raised_apart size to rec None (Sending j part message chunk) may = refl
raised_apart size to rec None (Between i message) may = refl
raised_apart size to rec None (Taking i message chunk) may = refl
raised_apart size to rec None (Barrier comm seen released) may = refl

move_apart : (size : ℕ) (move : Move) (rec : Record) → permits size move rec ≡ true → IsApart rec → IsApart (after size move rec)
move_apart size (DraftHeader k v) rec may h = none_apart rec.post _ _ may
move_apart size (DraftChunk k v) rec may h = none_apart rec.post _ _ may
move_apart size (RaiseSignal Sent to) rec may h = raised_apart size to rec rec.post rec.stage may
move_apart size (LookSignal Sent q) rec may h = h
move_apart size (ReadHeader from k v) rec may h = h
move_apart size (ReadChunk from k v) rec may h = free_kept rec.post rec.stage _ (read_free from k v rec.stage) h
move_apart size (LowerSignal Sent from) rec may h = free_kept rec.post rec.stage _ (lower_free from (unwrap_or (rec.notes from) []) rec.stage) h
move_apart size (RaiseSignal Ready to) rec may h = free_kept rec.post rec.stage _ (ready_free size rec.stage) h
move_apart size (LookSignal Ready q) rec may h = answered_apart q rec.post rec.stage h
move_apart size (LowerSignal Ready by) rec may h = refl
move_apart size (FlipGather comm value last) rec may h = free_kept rec.post rec.stage _ (flip_free comm last rec.stage) h
move_apart size (LookGather comm from place value) rec may h = free_kept rec.post rec.stage _ (gather_free comm place value _ rec.stage) h
move_apart size (WriteRelease comm to place value last) rec may h = free_kept rec.post rec.stage _ (write_free last rec.stage) h
move_apart size (LookRelease comm value) rec may h = free_kept rec.post rec.stage _ (release_free comm value _ rec.stage) h
move_apart size (StoreHeap place value) rec may h = h
move_apart size NoMove rec may h = h
move_apart size Misplaced rec may h = h

-- ---- events

permitted_if : (size : ℕ) (rec : Record) (b : Bool) (one other : Move) → permits size one rec ≡ true → permits size other rec ≡ true → permits size (if b then one else other) rec ≡ true
permitted_if size rec true one other a c = a
permitted_if size rec false one other a c = c

-- a load is always permitted
load_permitted : (s : SetupView) (me size : ℕ) (rec : Record) (value : ℕ) (role : Role) → permits size (load_by s me value role) rec ≡ true
load_permitted s me size rec value (HeaderWord owner k) = refl
load_permitted s me size rec value (ChunkWord owner k) = refl
load_permitted s me size rec value (SignalFlag signal by at) = permitted_if size rec (at == me) (LookSignal signal (look_at by value)) NoMove refl refl
load_permitted s me size rec value (SignalFlags signal at) = permitted_if size rec (at == me) (LookSignal signal (look_at_bits s me value)) NoMove refl refl
load_permitted s me size rec value (GatherFlag comm owner) = permitted_if size rec (leads s comm me owner) (LookGather comm owner (place_of s comm owner) value) NoMove refl refl
load_permitted s me size rec value (ReleaseFlag comm owner) = permitted_if size rec ((owner == me) && not (leads s comm me me)) (LookRelease comm value) NoMove refl refl
load_permitted s me size rec value HeapWord = refl
load_permitted s me size rec value IdleWord = refl

act_if : (size : ℕ) (rec : Record) (b : Bool) (one other : EventAct) → permits_act size one rec ≡ true → permits_act size other rec ≡ true → permits_act size (if b then one else other) rec ≡ true
act_if size rec true one other a c = a
act_if size rec false one other a c = c

load_act_permitted : (s : SetupView) (me size : ℕ) (rec : Record) (place : WordAt) (value : ℕ) (role : Role) → permits_act size (load_act s me rec place value role) rec ≡ true
load_act_permitted s me size rec place value (HeaderWord owner k) = refl
load_act_permitted s me size rec place value (ChunkWord owner k) = refl
load_act_permitted s me size rec place value (SignalFlag signal by at) = load_permitted s me size rec value (SignalFlag signal by at)
load_act_permitted s me size rec place value (SignalFlags signal at) = act_if size rec (is_some (rec.held place.core)) (NotingSignal signal place.core value) _ refl (load_permitted s me size rec value (SignalFlags signal at))
load_act_permitted s me size rec place value (GatherFlag comm owner) = load_permitted s me size rec value (GatherFlag comm owner)
load_act_permitted s me size rec place value (ReleaseFlag comm owner) = load_permitted s me size rec value (ReleaseFlag comm owner)
load_act_permitted s me size rec place value HeapWord = refl
load_act_permitted s me size rec place value IdleWord = refl

act_apart : (size : ℕ) (act : EventAct) (rec : Record) → permits_act size act rec ≡ true → IsApart rec → IsApart (after_act size act rec)
act_apart size (Moving move) rec may h = move_apart size move rec may h
act_apart size (NotingSignal signal core value) rec may h = h
act_apart size (ChangingSignal signal core move) rec may h = move_apart size move rec may h
act_apart size (Holding core) rec may h = h
act_apart size (Freeing core) rec may h = h

take_apart : (size : ℕ) (b : Bool) (core : ℕ) (rec : Record) → IsApart rec → IsApart (after_act size (if b then Holding core else Moving NoMove) rec)
take_apart size true core rec h = h
take_apart size false core rec h = h

one_or_same : (b : Bool) (new rec : Record) → (b ≡ true → IsApart new) → IsApart rec → IsApart (if b then new else rec)
one_or_same true new rec next h = next refl
one_or_same false new rec next h = h

by_access : (s : SetupView) (me : ℕ) (rec : Record) (access : Access) (place : WordAt) (value : ℕ) → IsApart rec → permits_by s me rec access place value ≡ true
    → IsApart (after_act (chunk_of s) (act_by s me rec access place value) rec)
by_access s me rec Load place value h may = act_apart (chunk_of s) (load_act s me rec place value (role_of s place)) rec (load_act_permitted s me (chunk_of s) rec place value (role_of s place)) h
by_access s me rec Store place value h may = act_apart (chunk_of s) (store_act s me rec place value (role_of s place)) rec may h
by_access s me rec Take place value h may = take_apart (chunk_of s) (value == 1) place.core rec h
by_access s me rec Free place value h may = h

event_apart : (s : SetupView) (me : ℕ) (rec : Record) (e : Event) → IsApart rec → IsApart (record_after s me rec e)
unfolding act_of
event_apart s me rec e h = one_or_same (is_permitted s me rec e) (after_act (chunk_of s) (act_of s me rec e) rec) rec (by_access s me rec e.access e.place e.value h) h

events_apart : (s : SetupView) (me : ℕ) (rec : Record) (es : List Event) → IsApart rec → IsApart (record_from s me rec es)
events_apart s me rec [] h = h
events_apart s me rec (e ∷ es) h = events_apart s me (record_after s me rec e) es (event_apart s me rec e h)

-- the record of a port's events
pub apart_in : (s : Sight) → IsApart (record_in s)
unfolding record_in record_of
apart_in s = events_apart s.seat.setup s.seat.rank blank s.events refl
