-- The bytes of finished calls are below 256: they are those of words that were written or read.
use Rattle.std.proofs.Common.{ℕ, zero, suc, ◌%◌, Bool, true, false, ◌&&◌, ◌==◌, if◌then◌else◌, List, [], ◌∷◌, ◌++◌, unwrap_or, arith}
use Rattle.std.specs.Prelude.{All}
use Rattle.std.proofs.lemmas.List.Elements.{All-nil, All-cons, All-head, All-tail}
use Rattle.scc_base.specs.Calls.{DataCall, Bar}
use Rattle.scc_base.specs.Setups.{SetupView}
use Rattle.scc_base.specs.declared.events.Event.{Event}
use Rattle.scc_base.specs.declared.signals.Signal.TheVariants.{Sent, Ready}
use Rattle.scc_proto.specs.Messages.{Notes, Progress, fresh_message, bytes_from, chunk_bytes, head_of, is_last, message_of, note_word, post_to, recv_from, send_to, with_chunk}
use Rattle.scc_proto.specs.Moves.{Move, DraftHeader, DraftChunk, RaiseSignal, LookSignal, ReadHeader, ReadChunk, LowerSignal, FlipGather, LookGather, WriteRelease, LookRelease, StoreHeap, NoMove, Misplaced, after, calls_after, calls_let_go, calls_raised, calls_received, calls_released, calls_sent, draft_chunk, draft_header, finished_if, flip_gather, is_posted, look_gather, look_ready, look_release, lower_ready, lower_sent, raise_ready, raise_sent, read_chunk, stage_after, write_release}
use Rattle.scc_proto.specs.Records.{EventAct, Moving, NotingSignal, ChangingSignal, Holding, Freeing, act_of, after_act, chunk_of, is_permitted, record_after, record_from, record_of}
use Rattle.scc_proto.specs.Stages.{Filling, Raised, Answered, Stage, Idle, Drafting, Sending, Between, Taking, Barrier, Record, blank}
use Rattle.call_tap.specs.Bytes.{AreBelow256, HasBytes}

none_bytes : AreBelow256 []
none_bytes zero = omega arith
none_bytes (suc i) = omega arith

bytes_append : (xs ys : List ℕ) → AreBelow256 xs → AreBelow256 ys → AreBelow256 (xs ++ ys)
bytes_append [] ys are more i = more i
bytes_append (x ∷ xs) ys are more zero = are zero
bytes_append (x ∷ xs) ys are more (suc i) = bytes_append xs ys (λ j. are (suc j)) more i

noted_bytes : (notes : Notes) (start n : ℕ) → AreBelow256 (bytes_from notes start n)
unfolding bytes_from
noted_bytes notes start zero i = none_bytes i
noted_bytes notes start (suc n) zero = omega arith
noted_bytes notes start (suc n) (suc i) = noted_bytes notes (suc start) n i

chunk_through : (size : ℕ) (message : Progress) (chunk : Notes) → AreBelow256 message.bytes → AreBelow256 (with_chunk size message chunk).bytes
chunk_through size message chunk are = bytes_append message.bytes (bytes_from chunk 0 (chunk_bytes size message)) are (noted_bytes chunk 0 (chunk_bytes size message))

-- ---- what a rank is in the midst of

-- the bytes of the open message that are through
abbrev OpenBytes : Stage → Type 0
OpenBytes Idle = Unit {0}
OpenBytes (Drafting header chunk) = Unit {0}
OpenBytes (Sending to part message chunk) = AreBelow256 message.bytes
OpenBytes (Between from message) = AreBelow256 message.bytes
OpenBytes (Taking from message chunk) = AreBelow256 message.bytes
OpenBytes (Barrier comm seen released) = Unit {0}

if_open : (b : Bool) (one other : Stage) → OpenBytes one → OpenBytes other → OpenBytes (if b then one else other)
if_open true one other is also = is
if_open false one other is also = also

draft_header_open : (k v : ℕ) → (stage : Stage) → OpenBytes stage → OpenBytes (draft_header k v stage)
draft_header_open k v Idle are = tt
draft_header_open k v (Drafting header chunk) are = tt
draft_header_open k v (Sending to part message chunk) are = are
draft_header_open k v (Between from message) are = are
draft_header_open k v (Taking from message chunk) are = are
draft_header_open k v (Barrier comm seen released) are = are

draft_chunk_open : (k v : ℕ) → (stage : Stage) → OpenBytes stage → OpenBytes (draft_chunk k v stage)
draft_chunk_open k v Idle are = tt
draft_chunk_open k v (Drafting header chunk) are = tt
draft_chunk_open k v (Sending to Filling message chunk) are = are
draft_chunk_open k v (Sending to Raised message chunk) are = are
draft_chunk_open k v (Sending to Answered message chunk) are = are
draft_chunk_open k v (Between from message) are = are
draft_chunk_open k v (Taking from message chunk) are = are
draft_chunk_open k v (Barrier comm seen released) are = are

raise_sent_open : (to : ℕ) → (stage : Stage) → OpenBytes stage → OpenBytes (raise_sent to stage)
raise_sent_open to Idle are = are
raise_sent_open to (Drafting header chunk) are = if_open (is_posted header) Idle (Sending to Raised (fresh_message (head_of header)) chunk) tt none_bytes
raise_sent_open to (Sending j Filling message chunk) are = are
raise_sent_open to (Sending j Raised message chunk) are = are
raise_sent_open to (Sending j Answered message chunk) are = are
raise_sent_open to (Between from message) are = are
raise_sent_open to (Taking from message chunk) are = are
raise_sent_open to (Barrier comm seen released) are = are

read_chunk_open : (from k v : ℕ) → (stage : Stage) → OpenBytes stage → OpenBytes (read_chunk from k v stage)
read_chunk_open from k v Idle are = are
read_chunk_open from k v (Drafting header chunk) are = are
read_chunk_open from k v (Sending to part message chunk) are = are
read_chunk_open from k v (Between i message) are = are
read_chunk_open from k v (Taking i message chunk) are = if_open (i == from) (Taking i message (note_word k v chunk)) (Taking i message chunk) are are
read_chunk_open from k v (Barrier comm seen released) are = are

lower_sent_open : (from : ℕ) (header : Notes) → (stage : Stage) → OpenBytes stage → OpenBytes (lower_sent from header stage)
lower_sent_open from header Idle are = none_bytes
lower_sent_open from header (Drafting words chunk) are = are
lower_sent_open from header (Sending to part message chunk) are = are
lower_sent_open from header (Between i message) are = are
lower_sent_open from header (Taking i message chunk) are = are
lower_sent_open from header (Barrier comm seen released) are = are

raise_ready_open : (size : ℕ) → (stage : Stage) → OpenBytes stage → OpenBytes (raise_ready size stage)
raise_ready_open size Idle are = are
raise_ready_open size (Drafting header chunk) are = are
raise_ready_open size (Sending to part message chunk) are = are
raise_ready_open size (Between from message) are = are
raise_ready_open size (Taking from message chunk) are = if_open (is_last size message) Idle (Between from (with_chunk size message chunk)) tt (chunk_through size message chunk are)
raise_ready_open size (Barrier comm seen released) are = are

look_ready_open : (is_set : ℕ → Bool) → (stage : Stage) → OpenBytes stage → OpenBytes (look_ready is_set stage)
look_ready_open is_set Idle are = are
look_ready_open is_set (Drafting header chunk) are = are
look_ready_open is_set (Sending to Filling message chunk) are = are
look_ready_open is_set (Sending to Raised message chunk) are = if_open (is_set to) (Sending to Answered message chunk) (Sending to Raised message chunk) are are
look_ready_open is_set (Sending to Answered message chunk) are = are
look_ready_open is_set (Between from message) are = are
look_ready_open is_set (Taking from message chunk) are = are
look_ready_open is_set (Barrier comm seen released) are = are

lower_ready_open : (size : ℕ) → (stage : Stage) → OpenBytes stage → OpenBytes (lower_ready size stage)
lower_ready_open size Idle are = are
lower_ready_open size (Drafting header chunk) are = are
lower_ready_open size (Sending to part message chunk) are = if_open (is_last size message) Idle (Sending to Filling (with_chunk size message chunk) []) tt (chunk_through size message chunk are)
lower_ready_open size (Between from message) are = are
lower_ready_open size (Taking from message chunk) are = are
lower_ready_open size (Barrier comm seen released) are = are

flip_gather_open : (comm last : ℕ) → (stage : Stage) → OpenBytes stage → OpenBytes (flip_gather comm last stage)
flip_gather_open comm last Idle are = if_open (last == 0) Idle (Barrier comm 0 0) tt tt
flip_gather_open comm last (Drafting header chunk) are = are
flip_gather_open comm last (Sending to part message chunk) are = are
flip_gather_open comm last (Between from message) are = are
flip_gather_open comm last (Taking from message chunk) are = are
flip_gather_open comm last (Barrier c seen released) are = are

look_gather_open : (comm place value v : ℕ) → (stage : Stage) → OpenBytes stage → OpenBytes (look_gather comm place value v stage)
look_gather_open comm place value v Idle are = are
look_gather_open comm place value v (Drafting header chunk) are = are
look_gather_open comm place value v (Sending to part message chunk) are = are
look_gather_open comm place value v (Between from message) are = are
look_gather_open comm place value v (Taking from message chunk) are = are
look_gather_open comm place value v (Barrier c seen released) are = if_open ((c == comm) && ((place == suc seen) && (value == v))) (Barrier c (suc seen) released) (Barrier c seen released) tt tt

write_release_open : (last : ℕ) → (stage : Stage) → OpenBytes stage → OpenBytes (write_release last stage)
write_release_open last Idle are = are
write_release_open last (Drafting header chunk) are = are
write_release_open last (Sending to part message chunk) are = are
write_release_open last (Between from message) are = are
write_release_open last (Taking from message chunk) are = are
write_release_open last (Barrier c seen released) are = if_open (suc released == last) Idle (Barrier c seen (suc released)) tt tt

look_release_open : (comm value v : ℕ) → (stage : Stage) → OpenBytes stage → OpenBytes (look_release comm value v stage)
look_release_open comm value v Idle are = are
look_release_open comm value v (Drafting header chunk) are = are
look_release_open comm value v (Sending to part message chunk) are = are
look_release_open comm value v (Between from message) are = are
look_release_open comm value v (Taking from message chunk) are = are
look_release_open comm value v (Barrier c seen released) are = if_open ((c == comm) && (value == v)) Idle (Barrier c seen released) tt tt

move_open : (size : ℕ) (move : Move) (rec : Record) → OpenBytes rec.stage → OpenBytes (stage_after size move rec)
move_open size (DraftHeader k v) rec are = draft_header_open k v rec.stage are
move_open size (DraftChunk k v) rec are = draft_chunk_open k v rec.stage are
move_open size (RaiseSignal Sent to) rec are = raise_sent_open to rec.stage are
move_open size (LookSignal Sent is_set) rec are = are
move_open size (ReadHeader from k v) rec are = are
move_open size (ReadChunk from k v) rec are = read_chunk_open from k v rec.stage are
move_open size (LowerSignal Sent from) rec are = lower_sent_open from (unwrap_or (rec.notes from) []) rec.stage are
move_open size (RaiseSignal Ready to) rec are = raise_ready_open size rec.stage are
move_open size (LookSignal Ready is_set) rec are = look_ready_open is_set rec.stage are
move_open size (LowerSignal Ready by) rec are = lower_ready_open size rec.stage are
move_open size (FlipGather comm value last) rec are = flip_gather_open comm last rec.stage are
move_open size (LookGather comm from place value) rec are = look_gather_open comm place value (rec.flips comm % 2) rec.stage are
move_open size (WriteRelease comm to place value last) rec are = write_release_open last rec.stage are
move_open size (LookRelease comm value) rec are = look_release_open comm value (rec.flips comm % 2) rec.stage are
move_open size (StoreHeap place value) rec are = are
move_open size NoMove rec are = are
move_open size Misplaced rec are = are

-- ---- the finished calls

abbrev HaveBytes : List DataCall → Type 0
HaveBytes calls = All HasBytes calls

all_push : (calls : List DataCall) (call : DataCall) → HaveBytes calls → HasBytes call → HaveBytes (calls ++ call ∷ [])
all_push [] call all last = All-cons HasBytes call [] last (All-nil HasBytes)
all_push (c ∷ calls) call all last = All-cons HasBytes c (calls ++ call ∷ []) (All-head HasBytes c calls all) (all_push calls call (All-tail HasBytes c calls all) last)

if_finished : (b : Bool) (call : DataCall) (calls : List DataCall) → HasBytes call → HaveBytes calls → HaveBytes (finished_if b call calls)
if_finished true call calls last all = all_push calls call all last
if_finished false call calls last all = all

calls_raised_have : (size to : ℕ) (stage : Stage) (calls : List DataCall) → OpenBytes stage → HaveBytes calls → HaveBytes (calls_raised size to stage calls)
calls_raised_have size to Idle calls are all = all
calls_raised_have size to (Drafting header chunk) calls are all = if_finished (is_posted header) (post_to to (message_of (with_chunk size (fresh_message (head_of header)) chunk))) calls (chunk_through size (fresh_message (head_of header)) chunk none_bytes) all
calls_raised_have size to (Sending j part message chunk) calls are all = all
calls_raised_have size to (Between from message) calls are all = all
calls_raised_have size to (Taking from message chunk) calls are all = all
calls_raised_have size to (Barrier comm seen released) calls are all = all

calls_received_have : (size : ℕ) (stage : Stage) (calls : List DataCall) → OpenBytes stage → HaveBytes calls → HaveBytes (calls_received size stage calls)
calls_received_have size Idle calls are all = all
calls_received_have size (Drafting header chunk) calls are all = all
calls_received_have size (Sending to part message chunk) calls are all = all
calls_received_have size (Between from message) calls are all = all
calls_received_have size (Taking from message chunk) calls are all = if_finished (is_last size message) (recv_from from (message_of (with_chunk size message chunk))) calls (chunk_through size message chunk are) all
calls_received_have size (Barrier comm seen released) calls are all = all

calls_sent_have : (size : ℕ) (stage : Stage) (calls : List DataCall) → OpenBytes stage → HaveBytes calls → HaveBytes (calls_sent size stage calls)
calls_sent_have size Idle calls are all = all
calls_sent_have size (Drafting header chunk) calls are all = all
calls_sent_have size (Sending to part message chunk) calls are all = if_finished (is_last size message) (send_to to (message_of (with_chunk size message chunk))) calls (chunk_through size message chunk are) all
calls_sent_have size (Between from message) calls are all = all
calls_sent_have size (Taking from message chunk) calls are all = all
calls_sent_have size (Barrier comm seen released) calls are all = all

calls_released_have : (last : ℕ) (stage : Stage) (calls : List DataCall) → OpenBytes stage → HaveBytes calls → HaveBytes (calls_released last stage calls)
calls_released_have last Idle calls are all = all
calls_released_have last (Drafting header chunk) calls are all = all
calls_released_have last (Sending to part message chunk) calls are all = all
calls_released_have last (Between from message) calls are all = all
calls_released_have last (Taking from message chunk) calls are all = all
calls_released_have last (Barrier c seen released) calls are all = if_finished (suc released == last) (Bar c) calls none_bytes all

calls_let_go_have : (comm value v : ℕ) (stage : Stage) (calls : List DataCall) → OpenBytes stage → HaveBytes calls → HaveBytes (calls_let_go comm value v stage calls)
calls_let_go_have comm value v Idle calls are all = all
calls_let_go_have comm value v (Drafting header chunk) calls are all = all
calls_let_go_have comm value v (Sending to part message chunk) calls are all = all
calls_let_go_have comm value v (Between from message) calls are all = all
calls_let_go_have comm value v (Taking from message chunk) calls are all = all
calls_let_go_have comm value v (Barrier c seen released) calls are all = if_finished ((c == comm) && (value == v)) (Bar c) calls none_bytes all

move_have : (size : ℕ) (move : Move) (rec : Record) → OpenBytes rec.stage → HaveBytes rec.calls → HaveBytes (calls_after size move rec)
move_have size (DraftHeader k v) rec are all = all
move_have size (DraftChunk k v) rec are all = all
move_have size (RaiseSignal Sent to) rec are all = calls_raised_have size to rec.stage rec.calls are all
move_have size (LookSignal signal is_set) rec are all = all
move_have size (ReadHeader from k v) rec are all = all
move_have size (ReadChunk from k v) rec are all = all
move_have size (LowerSignal Sent from) rec are all = all
move_have size (RaiseSignal Ready to) rec are all = calls_received_have size rec.stage rec.calls are all
move_have size (LowerSignal Ready by) rec are all = calls_sent_have size rec.stage rec.calls are all
move_have size (FlipGather comm value last) rec are all = if_finished (last == 0) (Bar comm) rec.calls none_bytes all
move_have size (LookGather comm from place value) rec are all = all
move_have size (WriteRelease comm to place value last) rec are all = calls_released_have last rec.stage rec.calls are all
move_have size (LookRelease comm value) rec are all = calls_let_go_have comm value (rec.flips comm % 2) rec.stage rec.calls are all
move_have size (StoreHeap place value) rec are all = all
move_have size NoMove rec are all = all
move_have size Misplaced rec are all = all

-- ---- the record of events

record Bytes (rec : Record) : Type 0 where
  pub open_bytes : OpenBytes rec.stage
  pub have : HaveBytes rec.calls

after_move : (size : ℕ) (move : Move) (rec : Record) → Bytes rec → Bytes (after size move rec)
after_move size move rec is = record { open_bytes = move_open size move rec is.open_bytes; have = move_have size move rec is.open_bytes is.have }

after_any : (size : ℕ) (act : EventAct) (rec : Record) → Bytes rec → Bytes (after_act size act rec)
after_any size (Moving move) rec is = after_move size move rec is
after_any size (NotingSignal signal core value) rec is = record { open_bytes = is.open_bytes; have = is.have }
after_any size (ChangingSignal signal core move) rec is = let moved = after_move size move rec is in record { open_bytes = moved.open_bytes; have = moved.have }
after_any size (Holding core) rec is = record { open_bytes = is.open_bytes; have = is.have }
after_any size (Freeing core) rec is = record { open_bytes = is.open_bytes; have = is.have }

if_permitted : (b : Bool) (one other : Record) → Bytes one → Bytes other → Bytes (if b then one else other)
if_permitted true one other is also = is
if_permitted false one other is also = also

after_event : (s : SetupView) (me : ℕ) (rec : Record) (e : Event) → Bytes rec → Bytes (record_after s me rec e)
after_event s me rec e is = if_permitted (is_permitted s me rec e) (after_act (chunk_of s) (act_of s me rec e) rec) rec (after_any (chunk_of s) (act_of s me rec e) rec is) is

after_events : (s : SetupView) (me : ℕ) (rec : Record) (events : List Event) → Bytes rec → Bytes (record_from s me rec events)
after_events s me rec [] is = is
after_events s me rec (e ∷ es) is = after_events s me (record_after s me rec e) es (after_event s me rec e is)

-- each finished call of a rank has bytes
pub calls_have_bytes : (s : SetupView) (me : ℕ) (events : List Event) → All HasBytes (record_of s me events).calls
unfolding record_of
calls_have_bytes s me events = (after_events s me blank events (record { open_bytes = tt; have = All-nil HasBytes })).have
