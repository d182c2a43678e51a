-- The moves of the handshake and of the barrier, and what each makes of a record (this project's profile;
-- the handshake by `sent` and `ready` flags is that of RCCE's send and recv).
use Rattle.std.specs.Prelude.{ℕ, suc, ◌%◌, Bool, true, false, ◌&&◌, ◌==◌, if◌then◌else◌, List, [], ◌∷◌, ◌++◌, Option, Some, None, unwrap_or, option_map}
use Rattle.scc_base.specs.Calls.{DataCall, Bar}
use Rattle.scc_base.specs.Places.{WordAt}
use Rattle.scc_base.specs.declared.signals.Signal.{Signal}
use Rattle.scc_base.specs.declared.signals.Signal.TheVariants.{Sent, Ready}
use Rattle.scc_proto.specs.Tables.{table_with}
use Rattle.scc_proto.specs.Messages.{Notes, noted_word, note_word, head_of, fresh_message, is_last, with_chunk, message_of, send_to, recv_from, post_to}
use Rattle.scc_proto.specs.Stages.{Filling, Raised, Answered, Stage, Idle, Drafting, Sending, Between, Taking, Barrier, InFlight, HeapStore, Record}

-- what one event is to the messages, the barriers and the heap. `last` is the place of the last member in
-- the own group, where the root has place 0. A look tells of each rank whether its flag was seen set.
pub data Move : Type 0 where
  DraftHeader : (k v : ℕ) → Move
  DraftChunk : (k v : ℕ) → Move
  RaiseSignal : Signal → (to : ℕ) → Move
  LookSignal : Signal → (is_set : ℕ → Bool) → Move
  ReadHeader : (from k v : ℕ) → Move
  ReadChunk : (from k v : ℕ) → Move
  LowerSignal : Signal → (by : ℕ) → Move
  FlipGather : (comm value last : ℕ) → Move
  LookGather : (comm from place value : ℕ) → Move
  WriteRelease : (comm to place value last : ℕ) → Move
  LookRelease : (comm value : ℕ) → Move
  StoreHeap : (place : WordAt) → (value : ℕ) → Move
  -- a load that tells nothing of all this
  NoMove : Move
  -- a store that no record permits
  Misplaced : Move

-- the message is to be posted: word 3 of its header line is 1
abbrev pub is_posted : Notes → Bool
is_posted header = unwrap_or (noted_word header 3) 0 == 1

-- a header word is drafted
abbrev pub draft_header : ℕ → ℕ → Stage → Stage
draft_header k v Idle = Drafting (note_word k v []) []
draft_header k v (Drafting header chunk) = Drafting (note_word k v header) chunk
draft_header k v stage = stage

-- a chunk word is drafted, of a first chunk beside the header or of a later one
abbrev pub draft_chunk : ℕ → ℕ → Stage → Stage
draft_chunk k v Idle = Drafting [] (note_word k v [])
draft_chunk k v (Drafting header chunk) = Drafting header (note_word k v chunk)
draft_chunk k v (Sending to Filling message chunk) = Sending to Filling message (note_word k v chunk)
draft_chunk k v stage = stage

-- a posted message leaves the stage at its raise, any other stays in it
abbrev pub raise_sent : ℕ → Stage → Stage
raise_sent to (Drafting header chunk) = if is_posted header then Idle else Sending to Raised (fresh_message (head_of header)) chunk
raise_sent to (Sending j Filling message chunk) = Sending to Raised message chunk
raise_sent to stage = stage

-- a word is loaded of the chunk that is being taken from this rank; any other load changes nothing
abbrev pub read_chunk : ℕ → ℕ → ℕ → Stage → Stage
read_chunk from k v (Taking i message chunk) = if i == from then Taking i message (note_word k v chunk) else Taking i message chunk
read_chunk from k v stage = stage

-- a first chunk is taken behind the header that was loaded, a later one behind the chunk before it
abbrev pub lower_sent : ℕ → Notes → Stage → Stage
lower_sent from header Idle = Taking from (fresh_message (head_of header)) []
lower_sent from header (Between i message) = Taking from message []
lower_sent from header stage = stage

-- the chunk is taken: the message is received with its last one, and else is between two chunks
abbrev pub raise_ready : ℕ → Stage → Stage
raise_ready size (Taking from message chunk) = if is_last size message then Idle else Between from (with_chunk size message chunk)
raise_ready size stage = stage

-- the sender sees that the raised chunk was taken
abbrev pub look_ready : (ℕ → Bool) → Stage → Stage
look_ready is_set (Sending to Raised message chunk) =
    if is_set to then Sending to Answered message chunk else Sending to Raised message chunk
look_ready is_set stage = stage

-- the chunk is through: the message is sent with its last one, and else its next chunk may be drafted
abbrev pub lower_ready : ℕ → Stage → Stage
lower_ready size (Sending to part message chunk) =
    if is_last size message then Idle else Sending to Filling (with_chunk size message chunk) []
lower_ready size stage = stage

-- a group of one has no barrier open after its flip
abbrev pub flip_gather : ℕ → ℕ → Stage → Stage
flip_gather comm last Idle = if last == 0 then Idle else Barrier comm 0 0
flip_gather comm last stage = stage

-- the root looks at its members one after the other; `v` is the value of the open barrier
abbrev pub look_gather : ℕ → ℕ → ℕ → ℕ → Stage → Stage
look_gather comm place value v (Barrier c seen released) =
    if (c == comm) && ((place == suc seen) && (value == v)) then Barrier c (suc seen) released else Barrier c seen released
look_gather comm place value v stage = stage

-- the root lets one more member go; with the last one its barrier is over
abbrev pub write_release : ℕ → Stage → Stage
write_release last (Barrier c seen released) = if suc released == last then Idle else Barrier c seen (suc released)
write_release last stage = stage

-- a member sees the value of the open barrier in its release flag, and its barrier is over
abbrev pub look_release : ℕ → ℕ → ℕ → Stage → Stage
look_release comm value v (Barrier c seen released) = if (c == comm) && (value == v) then Idle else Barrier c seen released
look_release comm value v stage = stage

-- what a rank is in the midst of after a move
abbrev pub stage_after : ℕ → Move → Record → Stage
stage_after size (DraftHeader k v) rec = draft_header k v rec.stage
stage_after size (DraftChunk k v) rec = draft_chunk k v rec.stage
stage_after size (RaiseSignal Sent to) rec = raise_sent to rec.stage
stage_after size (ReadChunk from k v) rec = read_chunk from k v rec.stage
stage_after size (LowerSignal Sent from) rec = lower_sent from (unwrap_or (rec.notes from) []) rec.stage
stage_after size (RaiseSignal Ready to) rec = raise_ready size rec.stage
stage_after size (LookSignal Ready is_set) rec = look_ready is_set rec.stage
stage_after size (LowerSignal Ready by) rec = lower_ready size rec.stage
stage_after size (FlipGather comm value last) rec = flip_gather comm last rec.stage
stage_after size (LookGather comm from place value) rec = look_gather comm place value (rec.flips comm % 2) rec.stage
stage_after size (WriteRelease comm to place value last) rec = write_release last rec.stage
stage_after size (LookRelease comm value) rec = look_release comm value (rec.flips comm % 2) rec.stage
stage_after size move rec = rec.stage

-- a posted message is on its way from its raise to the lowering of its `ready`
abbrev pub post_raised : ℕ → Stage → Option InFlight → Option InFlight
post_raised to (Drafting header chunk) post =
    if is_posted header then Some (record { to = to; head = head_of header; chunk = chunk; is_answered = false }) else post
post_raised to stage post = post

-- the sender of a posted message sees that it was taken
abbrev pub post_answered : (ℕ → Bool) → InFlight → InFlight
post_answered is_set post = record post { is_answered = if is_set post.to then true else post.is_answered }

-- the posted message on its way after a move
abbrev pub post_after : Move → Record → Option InFlight
post_after (RaiseSignal Sent to) rec = post_raised to rec.stage rec.post
post_after (LookSignal Ready is_set) rec = option_map (post_answered is_set) rec.post
post_after (LowerSignal Ready by) rec = None
post_after move rec = rec.post

-- whose `sent` was seen, with the header words loaded since
abbrev pub notes_after : Move → (ℕ → Option Notes) → ℕ → Option Notes
notes_after (LookSignal Sent is_set) notes = λ j. if is_set j then Some [] else notes j
notes_after (ReadHeader from k v) notes = table_with notes from (option_map (note_word k v) (notes from))
notes_after (LowerSignal Sent from) notes = table_with notes from None
notes_after move notes = notes

-- how often each own gather flag was flipped, after a move
abbrev pub flips_after : Move → (ℕ → ℕ) → ℕ → ℕ
flips_after (FlipGather comm value last) flips = table_with flips comm (suc (flips comm))
flips_after move flips = flips

-- the own stores to heap words, after a move
abbrev pub heap_after : Move → List HeapStore → List HeapStore
heap_after (StoreHeap place value) heap = heap ++ record { place = place; value = value } ∷ []
heap_after move heap = heap

-- the calls, with one more where it is finished now
abbrev pub finished_if : Bool → DataCall → List DataCall → List DataCall
finished_if is_finished call calls = if is_finished then calls ++ call ∷ [] else calls

-- the calls after a raise of `sent`: a post is finished by it
abbrev pub calls_raised : ℕ → ℕ → Stage → List DataCall → List DataCall
calls_raised size to (Drafting header chunk) calls =
    finished_if (is_posted header) (post_to to (message_of (with_chunk size (fresh_message (head_of header)) chunk))) calls
calls_raised size to stage calls = calls

-- the calls after a raise of `ready`: a receive is finished with its last chunk
abbrev pub calls_received : ℕ → Stage → List DataCall → List DataCall
calls_received size (Taking from message chunk) calls =
    finished_if (is_last size message) (recv_from from (message_of (with_chunk size message chunk))) calls
calls_received size stage calls = calls

-- the calls after a lowering of `ready`: a send is finished with its last chunk
abbrev pub calls_sent : ℕ → Stage → List DataCall → List DataCall
calls_sent size (Sending to part message chunk) calls =
    finished_if (is_last size message) (send_to to (message_of (with_chunk size message chunk))) calls
calls_sent size stage calls = calls

-- the calls after a root wrote a release flag: with the last one its barrier is finished
abbrev pub calls_released : ℕ → Stage → List DataCall → List DataCall
calls_released last (Barrier c seen released) calls = finished_if (suc released == last) (Bar c) calls
calls_released last stage calls = calls

-- the calls after a member's look at its release flag: its barrier is finished where the flag has the barrier's value
abbrev pub calls_let_go : ℕ → ℕ → ℕ → Stage → List DataCall → List DataCall
calls_let_go comm value v (Barrier c seen released) calls = finished_if ((c == comm) && (value == v)) (Bar c) calls
calls_let_go comm value v stage calls = calls

-- the finished calls after a move
abbrev pub calls_after : ℕ → Move → Record → List DataCall
calls_after size (RaiseSignal Sent to) rec = calls_raised size to rec.stage rec.calls
calls_after size (RaiseSignal Ready to) rec = calls_received size rec.stage rec.calls
calls_after size (LowerSignal Ready by) rec = calls_sent size rec.stage rec.calls
calls_after size (FlipGather comm value last) rec = finished_if (last == 0) (Bar comm) rec.calls
calls_after size (WriteRelease comm to place value last) rec = calls_released last rec.stage rec.calls
calls_after size (LookRelease comm value) rec = calls_let_go comm value (rec.flips comm % 2) rec.stage rec.calls
calls_after size move rec = rec.calls

-- the record after a move that it permits, where a whole chunk has `size` bytes
abbrev pub after : ℕ → Move → Record → Record
after size move rec = record {
  stage = stage_after size move rec;
  post = post_after move rec;
  notes = notes_after move rec.notes;
  flips = flips_after move rec.flips;
  held = rec.held;
  heap = heap_after move rec.heap;
  calls = calls_after size move rec;
}
