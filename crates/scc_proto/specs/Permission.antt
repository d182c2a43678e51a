-- Which move a record permits next (this project's profile).
use Rattle.std.specs.Prelude.{ℕ, suc, ◌-◌, ◌%◌, Bool, true, false, ◌&&◌, ◌==◌, if◌then◌else◌, [], ◌∷◌, Option, Some, None, unwrap_or, is_none}
use Rattle.scc_base.specs.declared.signals.Signal.TheVariants.{Sent, Ready}
use Rattle.scc_proto.specs.Messages.{Notes, noted_word, has_all, head_of, is_head, is_post_head, Progress, fresh_message, is_whole, is_padded}
use Rattle.scc_proto.specs.Stages.{Filling, Answered, Stage, Idle, Drafting, Sending, Between, Taking, Barrier, InFlight, Record}
use Rattle.scc_proto.specs.Moves.{Move, DraftHeader, DraftChunk, RaiseSignal, LowerSignal, FlipGather, WriteRelease, StoreHeap, Misplaced, is_posted}

-- a header word is drafted only before the first chunk is raised
abbrev pub drafts_header : Stage → Bool
drafts_header Idle = true
drafts_header (Drafting header chunk) = true
drafts_header stage = false

-- a chunk word is drafted only while no chunk is raised
abbrev pub drafts_chunk : Stage → Bool
drafts_chunk Idle = true
drafts_chunk (Drafting header chunk) = true
drafts_chunk (Sending to Filling message chunk) = true
drafts_chunk stage = false

-- word 3 is 0, or it is 1 beside a head that a posted message may have
abbrev pub is_post_word : Notes → Bool
is_post_word header = if is_posted header then is_post_head (head_of header) else unwrap_or (noted_word header 3) 0 == 0

-- all four words of a header line that a message may have
abbrev pub is_whole_header : Notes → Bool
is_whole_header header = has_all header 4 && (is_head (head_of header) && is_post_word header)

-- the words that say the head of a message that may be received
abbrev pub says_head : Notes → Bool
says_head header = has_all header 3 && is_head (head_of header)

-- all words of the lines of the chunk in hand are drafted, with zeros past its end
abbrev pub is_drafted : ℕ → Progress → Notes → Bool
is_drafted size message chunk = is_whole size message chunk && is_padded size message chunk

-- `sent` is raised over a whole header line and a whole chunk, and for a later chunk at the same rank
abbrev pub may_raise : ℕ → ℕ → Stage → Bool
may_raise size to (Drafting header chunk) = is_whole_header header && is_drafted size (fresh_message (head_of header)) chunk
may_raise size to (Sending j Filling message chunk) = (j == to) && is_drafted size message chunk
may_raise size to stage = false

-- `sent` is lowered where it was seen, for a first chunk once the head was read, for a later one at the
-- same rank
abbrev pub may_take : ℕ → Option Notes → Stage → Bool
may_take from None stage = false
may_take from (Some header) Idle = says_head header
may_take from (Some header) (Between i message) = i == from
may_take from (Some header) stage = false

-- `ready` is raised once all words of the chunk were loaded
abbrev pub has_taken : ℕ → ℕ → Stage → Bool
has_taken size to (Taking from message chunk) = (from == to) && is_whole size message chunk
has_taken size to stage = false

-- a posted message to that rank is on its way, and its `ready` was seen
abbrev pub is_answered_by : ℕ → Option InFlight → Bool
is_answered_by by None = false
is_answered_by by (Some post) = (post.to == by) && post.is_answered

-- `ready` is lowered once it was seen: of the message that is being sent, or in no send of the posted one
abbrev pub may_go_on : ℕ → Stage → Option InFlight → Bool
may_go_on by (Sending to Answered message chunk) post = to == by
may_go_on by (Sending to part message chunk) post = false
may_go_on by stage post = is_answered_by by post

-- the rank is in the midst of no call
abbrev pub is_idle : Stage → Bool
is_idle Idle = true
is_idle stage = false

-- the root releases its members one after the other, once it has seen them all; `v` is the value of the
-- open barrier
abbrev pub may_release : ℕ → ℕ → ℕ → ℕ → ℕ → Stage → Bool
may_release comm place value last v (Barrier c seen released) = (c == comm) && ((seen == last) && ((place == suc released) && (value == v)))
may_release comm place value last v stage = false

-- no word is noted
abbrev pub is_empty : Notes → Bool
is_empty [] = true
is_empty (note ∷ notes) = false

-- nothing is drafted, no chunk is being taken and no barrier is open
abbrev pub leaves_heap : Stage → Bool
leaves_heap Idle = true
leaves_heap (Sending to Filling message chunk) = is_empty chunk
leaves_heap (Between from message) = true
leaves_heap stage = false

-- the record permits the move next, where a whole chunk has `size` bytes
abbrev pub permits : ℕ → Move → Record → Bool
permits size (DraftHeader k v) rec = is_none rec.post && drafts_header rec.stage
permits size (DraftChunk k v) rec = is_none rec.post && drafts_chunk rec.stage
permits size (RaiseSignal Sent to) rec = is_none rec.post && may_raise size to rec.stage
permits size (LowerSignal Sent from) rec = may_take from (rec.notes from) rec.stage
permits size (RaiseSignal Ready to) rec = has_taken size to rec.stage
permits size (LowerSignal Ready by) rec = may_go_on by rec.stage rec.post
permits size (FlipGather comm value last) rec = is_idle rec.stage && (value == 1 - rec.flips comm % 2)
permits size (WriteRelease comm to place value last) rec = may_release comm place value last (rec.flips comm % 2) rec.stage
permits size (StoreHeap place value) rec = leaves_heap rec.stage
permits size Misplaced rec = false
permits size move rec = true
