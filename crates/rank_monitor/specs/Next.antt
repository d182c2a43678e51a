-- What a record allows next, in kinds for error messages (this project's profile).
use Rattle.std.specs.Prelude.{ℕ, Bool, true, false, ◌&&◌, ◌||◌, ◌==◌, if◌then◌else◌, Option, Some, None, is_none, is_some}
use Rattle.scc_base.specs.Places.{WordAt}
use Rattle.scc_base.specs.Setups.{SetupView}
use Rattle.scc_base.specs.declared.events.Access.{Access}
use Rattle.scc_base.specs.declared.events.Access.TheVariants.{Load, Store, Take, Free}
use Rattle.scc_base.specs.declared.events.Event.{Event}
use Rattle.scc_base.specs.declared.signals.Signal.{Signal}
use Rattle.scc_base.specs.declared.signals.Signal.TheVariants.{Sent, Ready}
use Rattle.scc_proto.specs.Messages.{Notes, fresh_message, head_of, is_whole}
use Rattle.scc_proto.specs.Moves.{Move, DraftHeader, DraftChunk, RaiseSignal, LookSignal, ReadHeader, ReadChunk, LowerSignal, FlipGather, LookGather, WriteRelease, LookRelease, StoreHeap, NoMove, Misplaced}
use Rattle.scc_proto.specs.Permission.{is_drafted, is_empty, is_whole_header}
use Rattle.scc_proto.specs.Records.{chunk_of, flags_noted}
use Rattle.scc_proto.specs.Stages.{Filling, Raised, Answered, Stage, Idle, Drafting, Sending, Between, Taking, Barrier, InFlight, Record}
use Rattle.scc_proto.specs.Tables.{put_signal}
use Rattle.scc_proto.specs.Words.{Role, HeaderWord, ChunkWord, SignalFlag, SignalFlags, GatherFlag, ReleaseFlag, HeapWord, IdleWord, role_of}
use Rattle.rank_monitor.specs.declared.next.NextEvent.{NextEvent}
use Rattle.rank_monitor.specs.declared.next.NextEvent.TheVariants as next
use Rattle.rank_monitor.specs.declared.next.NextStore.{NextStore}
use Rattle.rank_monitor.specs.declared.next.NextStore.TheVariants as may

-- the stores that messages and barriers allow next, if a full chunk has `size` bytes
abbrev pub store_allowed : ℕ → Stage → Option InFlight → (ℕ → Option Notes) → NextStore
store_allowed size Idle None notes = may.Begin
store_allowed size Idle (Some post) notes = may.BesidePost post.to
store_allowed size (Drafting header chunk) post notes =
    if is_whole_header header && is_drafted size (fresh_message (head_of header)) chunk then may.Raise else may.Draft
store_allowed size (Sending to Filling message chunk) post notes =
    if is_empty chunk then may.FillFirst to else (if is_drafted size message chunk then may.RaiseMore to else may.Fill to)
store_allowed size (Sending to Raised message chunk) post notes = may.SeeReady to
store_allowed size (Sending to Answered message chunk) post notes = may.LowerReady to
store_allowed size (Between from message) post notes = if is_some (notes from) then may.LowerSent from else may.SeeSent from
store_allowed size (Taking from message chunk) post notes = if is_whole size message chunk then may.RaiseReady from else may.ReadChunk from
store_allowed size (Barrier comm seen released) post notes = may.Meet comm

-- the rank that has taken the post in flight, if one has
abbrev pub taker_of : Option InFlight → Option ℕ
taker_of None = None
taker_of (Some post) = if post.is_answered then Some post.to else None

-- whose `ready` may be lowered beside these, for a post that is taken
abbrev pub ready_allowed : Stage → Option InFlight → Option ℕ
ready_allowed Idle post = taker_of post
ready_allowed (Drafting header chunk) post = taker_of post
ready_allowed (Sending to part message chunk) post = None
ready_allowed (Between from message) post = taker_of post
ready_allowed (Taking from message chunk) post = taker_of post
ready_allowed (Barrier comm seen released) post = taker_of post

-- the stores that a record allows next
abbrev pub stores_allowed : SetupView → Record → NextEvent
stores_allowed s rec = next.Stores (store_allowed (chunk_of s) rec.stage rec.post rec.notes) (ready_allowed rec.stage rec.post)

-- the word is one of bit flags that the record has not noted
abbrev pub lacks_flags : Record → ℕ → Role → Bool
lacks_flags rec core (HeaderWord owner k) = false
lacks_flags rec core (ChunkWord owner k) = false
lacks_flags rec core (SignalFlag signal by at) = false
lacks_flags rec core (SignalFlags signal at) = is_none (flags_noted signal rec core)
lacks_flags rec core (GatherFlag comm owner) = false
lacks_flags rec core (ReleaseFlag comm owner) = false
lacks_flags rec core HeapWord = false
lacks_flags rec core IdleWord = false

-- what a record allows instead of an access that it does not permit (each load is permitted, so for a load this lists only
-- what may be stored)
abbrev pub allowed_by : SetupView → Record → Access → WordAt → NextEvent
allowed_by s rec Load place = stores_allowed s rec
allowed_by s rec Store place = if lacks_flags rec place.core (role_of s place) then next.LoadFlags else stores_allowed s rec
allowed_by s rec Take place = next.FreeRegister
allowed_by s rec Free place = next.TakeRegister

-- what a record allows instead of an event that it does not permit
abbrev pub allowed_for : SetupView → Record → Event → NextEvent
allowed_for s rec e = allowed_by s rec e.access e.place

-- stores of some kinds: words of a message, the heap, a signal's flag raised or lowered at a rank, the flags of a barrier
pub record StoreKinds : Type 0 where
  pub header : Bool
  pub chunk : Bool
  pub heap : Bool
  pub raise : Signal → ℕ → Bool
  pub lower : Signal → ℕ → Bool
  pub gather : Bool
  pub release : ℕ → Bool

-- no store
abbrev pub no_store : StoreKinds
no_store = record {
  header = false;
  chunk = false;
  heap = false;
  raise = λ signal rank. false;
  lower = λ signal rank. false;
  gather = false;
  release = λ comm. false;
}

-- the flags of this signal alone, at the ranks of a test
abbrev pub at_ranks : Signal → (ℕ → Bool) → Signal → ℕ → Bool
at_ranks signal test = put_signal (λ other rank. false) signal test

-- the move is a store of these kinds
abbrev pub is_among : StoreKinds → Move → Bool
is_among kinds (DraftHeader k v) = kinds.header
is_among kinds (DraftChunk k v) = kinds.chunk
is_among kinds (RaiseSignal signal to) = kinds.raise signal to
is_among kinds (LookSignal signal is_set) = false
is_among kinds (ReadHeader from k v) = false
is_among kinds (ReadChunk from k v) = false
is_among kinds (LowerSignal signal rank) = kinds.lower signal rank
is_among kinds (FlipGather comm value last) = kinds.gather
is_among kinds (LookGather comm from place value) = false
is_among kinds (WriteRelease comm to place value last) = kinds.release comm
is_among kinds (LookRelease comm value) = false
is_among kinds (StoreHeap place value) = kinds.heap
is_among kinds NoMove = false
is_among kinds Misplaced = false

-- the kinds that are named without a condition, so permitted now
abbrev pub kinds_offered : NextStore → StoreKinds
kinds_offered may.Begin = record no_store { header = true; chunk = true; heap = true }
kinds_offered (may.BesidePost to) = record no_store { heap = true }
kinds_offered may.Draft = record no_store { header = true; chunk = true }
kinds_offered may.Raise = record no_store { header = true; chunk = true; raise = at_ranks Sent (λ to. true) }
kinds_offered (may.FillFirst to) = record no_store { chunk = true; heap = true }
kinds_offered (may.Fill to) = record no_store { chunk = true }
kinds_offered (may.RaiseMore j) = record no_store { chunk = true; raise = at_ranks Sent (λ to. j == to) }
kinds_offered (may.SeeReady j) = no_store
kinds_offered (may.LowerReady j) = record no_store { lower = at_ranks Ready (λ by. j == by) }
kinds_offered (may.SeeSent i) = record no_store { heap = true }
kinds_offered (may.LowerSent i) = record no_store { heap = true; lower = at_ranks Sent (λ from. i == from) }
kinds_offered (may.ReadChunk i) = no_store
kinds_offered (may.RaiseReady i) = record no_store { raise = at_ranks Ready (λ to. i == to) }
kinds_offered (may.Meet comm) = no_store

-- what is named under a condition: a flag that is seen, a header that is read, a chunk that is complete, the value of a barrier
abbrev pub kinds_awaited : NextStore → StoreKinds
kinds_awaited may.Begin = record no_store { lower = at_ranks Sent (λ from. true); gather = true }
kinds_awaited (may.BesidePost to) = record no_store { lower = at_ranks Sent (λ from. true); gather = true }
kinds_awaited may.Draft = record no_store { raise = at_ranks Sent (λ to. true) }
kinds_awaited may.Raise = no_store
kinds_awaited (may.FillFirst j) = record no_store { raise = at_ranks Sent (λ to. j == to) }
kinds_awaited (may.Fill j) = record no_store { raise = at_ranks Sent (λ to. j == to) }
kinds_awaited (may.RaiseMore j) = no_store
kinds_awaited (may.SeeReady j) = record no_store { lower = at_ranks Ready (λ by. j == by) }
kinds_awaited (may.LowerReady j) = no_store
kinds_awaited (may.SeeSent i) = record no_store { lower = at_ranks Sent (λ from. i == from) }
kinds_awaited (may.LowerSent i) = no_store
kinds_awaited (may.ReadChunk i) = record no_store { raise = at_ranks Ready (λ to. i == to) }
kinds_awaited (may.RaiseReady i) = no_store
kinds_awaited (may.Meet c) = record no_store { release = λ comm. c == comm }

-- the `ready` that may be lowered beside the stores
abbrev pub kinds_beside : Option ℕ → StoreKinds
kinds_beside None = no_store
kinds_beside (Some j) = record no_store { lower = at_ranks Ready (λ by. j == by) }

-- the move is named without a condition, so permitted now
abbrev pub offers : NextStore → Move → Bool
offers store move = is_among (kinds_offered store) move

-- the move is named under a condition
abbrev pub awaits : NextStore → Move → Bool
awaits store move = is_among (kinds_awaited store) move

-- the move lowers the `ready` that may be lowered beside the stores
abbrev pub lowers_beside : Option ℕ → Move → Bool
lowers_beside ready move = is_among (kinds_beside ready) move

-- the move is named
abbrev pub names_move : NextStore → Option ℕ → Move → Bool
names_move store ready move = offers store move || (awaits store move || lowers_beside ready move)

-- the move is a load
abbrev pub is_load_move : Move → Bool
is_load_move (DraftHeader k v) = false
is_load_move (DraftChunk k v) = false
is_load_move (RaiseSignal signal to) = false
is_load_move (LookSignal signal is_set) = true
is_load_move (ReadHeader from k v) = true
is_load_move (ReadChunk from k v) = true
is_load_move (LowerSignal signal by) = false
is_load_move (FlipGather comm value last) = false
is_load_move (LookGather comm from place value) = true
is_load_move (WriteRelease comm to place value last) = false
is_load_move (LookRelease comm value) = true
is_load_move (StoreHeap place value) = false
is_load_move NoMove = true
is_load_move Misplaced = false
