-- Sending and posting a message (RCCE specification 2.0: RCCE_send; the post, the handshake and the header
-- line are this project's profile).
use Rattle.std.specs.Prelude.{◌≡◌, ◌≢◌, ℕ, zero, suc, ◌+◌, ◌-◌, ◌*◌, ◌<◌, ◌⊎◌, Bool, true, false, ◌==◌, if◌then◌else◌, List, [], ◌∷◌, ◌++◌, length, Option, Some, None, IfSome, option_map}
use Rattle.std.specs.List.{list_all}
use Rattle.scc_base.specs.Heads.{MessageHead, IsHead, IsPostHead}
use Rattle.scc_base.specs.Calls.{DataCall, Send, Post}
use Rattle.scc_base.specs.Places.{LineAt}
use Rattle.scc_base.specs.Layouts.{signal_at, first_chunk}
use Rattle.scc_base.specs.declared.signals.Signal.TheVariants.{Sent, Ready}
use Rattle.scc_base.specs.Setups.{host_of}
use Rattle.scc_base.specs.declared.layouts.Layout.{Layout}
use Rattle.scc_base.specs.declared.layouts.Layout.TheVariants.{LineFlags, BitFlags}
use Rattle.scc_base.specs.declared.events.Event.{Event}
use Rattle.scc_base.specs.declared.events.Spot.{Spot}
use Rattle.scc_base.specs.declared.events.Spot.TheVariants.{Register}
use Rattle.scc_base.specs.declared.events.Turn.{Turn}
use Rattle.scc_base.specs.declared.events.Turn.TheVariants as turn
use Rattle.scc_proto.specs.Messages.{Notes, noted_word, header_word}
use Rattle.scc_proto.specs.Resting.{is_resting}
use Rattle.scc_proto.specs.Stages.{Part, Filling, Raised, Answered, Stage, Idle, Drafting, Sending, InFlight, Record}
use Rattle.scc_proto.specs.Words.{are_peers}
use Rattle.scc_proto.specs.Records.{chunk_of}
use Rattle.scc_proto.specs.Ports.{Seat, Sight, Did, record_in}
use Rattle.write_combine.specs.declared.combiner.Out.{Out}
use Rattle.put_get.specs.Accesses.{whole_line}
use Rattle.put_get.specs.Cores.{Private, WritesLine, Flushes}
use Rattle.send_recv.specs.declared.stages.SendStage.{SendStage}
use Rattle.send_recv.specs.declared.stages.SendStage.TheVariants.{Header, Lines, Flush, Raise, Look, Lower, Finished}
use Rattle.send_recv.specs.Bytes.{word_of_bytes, words_at}
use Rattle.send_recv.specs.Chunks.{chunk_count, chunk_start, chunk_lines_of, lines_from}
use Rattle.send_recv.specs.Ops.{SendAt, SlotAt, is_sent, slot_left}
use Rattle.send_recv.specs.Ranks.{Sender, SlotHolder, holding_slot}
use Rattle.send_recv.specs.Receiving.{progress_at}
use Rattle.sync_flags.specs.Tries.{Aim, Tried, failed_from, changing_after}
use Rattle.sync_flags.specs.Turns.{waits_at}
use Rattle.send_recv.specs.Sights.{chunk_at, layout_at, own_header_line, own_chunk_line, words_of_line, LooksFor, Raises, Lowers}
use Rattle.send_recv.specs.Steps.{flag_spot, moves_on}
use Rattle.send_recv.specs.Tries.{aim_at}
use Rattle.send_recv.specs.Turns.{HoldsNone, IsSamePost, KeepsAllButMessages, IsAtRest, OnlyTries, is_no_draft, LastHeld, LoadsLines, StoresFromBuffer, lines_for_try}

-- ---- the slot

-- a posted message, if there is one, was answered: the sender has seen `ready`
abbrev pub was_answered : Option InFlight → Bool
was_answered None = false
was_answered (Some post) = post.is_answered

-- the slot is the record's message on its way
pub record SlotStands (seat : Seat) (rec : Record) (slot : SlotAt) : Type 0 where
  pub to : slot.to ≡ option_map (λ (post : InFlight). post.to) rec.post
  pub seen : slot.seen ≡ true → was_answered rec.post ≡ true
  pub peers : IfSome slot.to (λ j. are_peers seat.setup seat.rank j ≡ true)

-- the spot at which a slot's turn makes its one try
abbrev pub slot_spot_by : Layout → ℕ → Option ℕ → Bool → Option Spot
slot_spot_by layout own (Some to) false = Some (flag_spot own (signal_at layout Ready to))
slot_spot_by BitFlags own (Some to) true = Some (Register own)
slot_spot_by layout own to seen = None

-- the spot at which a turn for the posted message in the slot makes its one try
abbrev pub slot_spot : Seat → SlotAt → Option Spot
slot_spot seat slot = slot_spot_by seat.setup.layout (host_of seat.setup.hosts seat.rank) slot.to slot.seen

-- a slot is emptied, or has the target that it had
abbrev pub IsSameOrEmpty : SlotAt → SlotAt → Type 0
IsSameOrEmpty slot now = (now.to ≡ None) ⊎ (now.to ≡ slot.to)

-- what each answer of a slot's turn means
abbrev pub SlotMeans : SlotAt → SlotAt → Turn → Type 0
SlotMeans slot now turn.Moved = (slot_left slot ≡ slot_left now + 1) × IsSameOrEmpty slot now
SlotMeans slot now (turn.Waiting spot) = now ≡ slot
SlotMeans slot now turn.Done = (slot.to ≡ None) × (now ≡ slot)

-- what a turn of a slot does, by its target and whether `ready` was seen: it looks at `ready`, then lowers it; the
-- look or the change is done where the flag was found set, or its register free. Seven parameters: the slot's target and
-- whether `ready` was seen, whether it was done, and the rank's sight and core before and after.
abbrev pub SlotDoesBy : Sight → Private → (to : Option ℕ) → (seen : Bool) → (done : Bool) → Sight → Private → Type 0
SlotDoesBy s c None seen done t d = (t ≡ s) × (d ≡ c)
SlotDoesBy s c (Some to) false done t d = LooksFor Ready s c to done t d
SlotDoesBy s c (Some to) true done t d = Lowers Ready s c to done t d

-- what a turn of a slot does
abbrev pub SlotDoes : SlotHolder → (done : Bool) → Sight → Private → Type 0
SlotDoes old done t d = SlotDoesBy old.sight old.core old.slot.to old.slot.seen done t d

-- one turn of a slot
pub record SlotTurned (old now : SlotHolder) (answer : Turn) : Type 0 where
  pub events : List Event
  pub did : Did old.sight events now.sight
  -- its look or its change of a flag, and nothing else
  pub does : SlotDoes old (moves_on answer) now.sight now.core
  pub tried : Tried (aim_at (layout_at old.sight) (slot_spot old.sight.seat old.slot)) events (waits_at answer)
  -- it has freed the register that it took
  pub freed : changing_after false events ≡ false
  pub rests : (spot : Spot) → answer ≡ turn.Waiting spot → list_all is_resting events ≡ true
  -- where it waits, it made that one try and nothing else
  pub only : OnlyTries (aim_at (layout_at old.sight) (waits_at answer)) events
  pub means : SlotMeans old.slot now.slot answer
  -- where no message is on its way, nothing is done
  pub nothing : answer ≡ turn.Done → (now.sight ≡ old.sight) × (now.core ≡ old.core)
  pub stage : (record_in now.sight).stage ≡ (record_in old.sight).stage
  pub calls : (record_in now.sight).calls ≡ (record_in old.sight).calls
  -- where the slot is still full, the same message is on its way
  pub post : now.slot.to ≡ old.slot.to → IsSamePost (record_in old.sight).post (record_in now.sight).post
  pub rest : KeepsAllButMessages (record_in old.sight) (record_in now.sight)
  -- it stores no header or chunk word
  pub no_drafts : list_all (is_no_draft old.sight.seat.setup) events ≡ true
  pub held : LastHeld events old.core.evictions now.core
  pub work : LoadsLines events old.core now.core (lines_for_try (slot_spot old.sight.seat old.slot))
  pub buffer : now.core.out ≡ None

-- ---- sends and posts

-- a line of the own buffer
abbrev pub own_line : Seat → ℕ → LineAt
own_line seat line = record { core = host_of seat.setup.hosts seat.rank; line = line }

-- the four words of a header line
abbrev pub header_words : MessageHead → Bool → List ℕ
header_words head posted =
    header_word head posted 0 ∷ header_word head posted 1 ∷ header_word head posted 2 ∷ header_word head posted 3 ∷ []

-- how many lines the chunk in hand has
abbrev pub lines_in_hand : ℕ → SendAt → ℕ
lines_in_hand size op = chunk_lines_of size op.head.len op.chunk

-- the whole line that waits in the write-combining buffer after n lines of the chunk were written: the last of them, or
-- the header before the first
abbrev pub waiting : Seat → SendAt → List ℕ → ℕ → Option Out
waiting seat op bytes zero = if op.chunk == 0 then Some (whole_line (own_line seat 0) (header_words op.head op.posted)) else None
waiting seat op bytes (suc i) =
    Some (whole_line (own_line seat (first_chunk seat.setup.layout + i))
    (words_at bytes (chunk_start (chunk_of seat.setup) op.chunk + 32 * i)))

-- all words of the header are drafted
abbrev pub HasHeader : Notes → SendAt → Type 0
HasHeader header op = (k : ℕ) → k < 4 → noted_word header k ≡ Some (header_word op.head op.posted k)

-- the words of the first lines of the chunk in hand are drafted
abbrev pub HasLines : ℕ → Notes → SendAt → List ℕ → ℕ → Type 0
HasLines size chunk op bytes lines =
    (k : ℕ) → k < 4 * lines → noted_word chunk k ≡ Some (word_of_bytes bytes (chunk_start size op.chunk + 8 * k))

-- the header, where it is the first chunk, and these lines of the chunk in hand are drafted
pub data HasDrafted (size : ℕ) (stage : Stage) (op : SendAt) (bytes : List ℕ) (lines : ℕ) : Type 0 where
  First : (header chunk : Notes) → op.chunk ≡ 0 → stage ≡ Drafting header chunk → HasHeader header op → HasLines size chunk op bytes lines
      → HasDrafted size stage op bytes lines
  Later : (chunk : Notes) → op.chunk ≢ 0 → stage ≡ Sending op.to Filling (progress_at size op.head op.chunk bytes) chunk
      → HasLines size chunk op bytes lines
      → HasDrafted size stage op bytes lines

-- the chunk in hand is raised, or its `ready` was seen
pub record IsUp (size : ℕ) (stage : Stage) (op : SendAt) (bytes : List ℕ) (part : Part) : Type 0 where
  pub chunk : Notes
  pub stage_is : stage ≡ Sending op.to part (progress_at size op.head op.chunk bytes) chunk
  pub lines : HasLines size chunk op bytes (lines_in_hand size op)

-- no line of the chunk in hand is drafted, and nothing at all where the header still waits in the buffer
abbrev pub HasNoLines : ℕ → Stage → SendAt → List ℕ → Bool → Type 0
HasNoLines size stage op bytes true = stage ≡ Idle
HasNoLines size stage op bytes false = HasDrafted size stage op bytes 0

-- what is drafted while the line before line n of the chunk waits in the buffer: nothing where it is the header
abbrev pub DraftedBefore : ℕ → Stage → SendAt → List ℕ → ℕ → Type 0
DraftedBefore size stage op bytes zero = HasNoLines size stage op bytes (op.chunk == 0)
DraftedBefore size stage op bytes (suc i) = HasDrafted size stage op bytes i

-- the last line waits in the buffer with line flags, and is sent out with bit flags
abbrev pub IsBeforeRaise : Layout → Seat → Stage → Private → SendAt → List ℕ → Type 0
IsBeforeRaise LineFlags seat stage c op bytes = (c.out ≡ waiting seat op bytes (lines_in_hand (chunk_of seat.setup) op))
    × DraftedBefore (chunk_of seat.setup) stage op bytes (lines_in_hand (chunk_of seat.setup) op)
IsBeforeRaise BitFlags seat stage c op bytes =
    (c.out ≡ None) × HasDrafted (chunk_of seat.setup) stage op bytes (lines_in_hand (chunk_of seat.setup) op)

-- what the record, the buffer and the caller's bytes are at each stage
abbrev pub IsAtSendStage : Seat → Record → Private → SendAt → List ℕ → SendStage → Type 0
IsAtSendStage seat rec c op bytes Header = (op.chunk ≡ 0) × (rec.stage ≡ Idle) × (c.out ≡ None)
IsAtSendStage seat rec c op bytes (Lines i) =
    (i < lines_in_hand (chunk_of seat.setup) op) × (rec.post ≡ None) × (c.out ≡ waiting seat op bytes i)
    × DraftedBefore (chunk_of seat.setup) rec.stage op bytes i
IsAtSendStage seat rec c op bytes Flush =
    (seat.setup.layout ≡ BitFlags) × (rec.post ≡ None) × (c.out ≡ waiting seat op bytes (lines_in_hand (chunk_of seat.setup) op))
    × DraftedBefore (chunk_of seat.setup) rec.stage op bytes (lines_in_hand (chunk_of seat.setup) op)
IsAtSendStage seat rec c op bytes Raise = (rec.post ≡ None) × IsBeforeRaise seat.setup.layout seat rec.stage c op bytes
IsAtSendStage seat rec c op bytes Look =
    (op.posted ≡ false) × (rec.post ≡ None) × (c.out ≡ None) × (part : Part) × ((part ≡ Raised) ⊎ (part ≡ Answered))
    × IsUp (chunk_of seat.setup) rec.stage op bytes part
IsAtSendStage seat rec c op bytes Lower =
    (op.posted ≡ false) × (rec.post ≡ None) × (c.out ≡ None) × IsUp (chunk_of seat.setup) rec.stage op bytes Answered
IsAtSendStage seat rec c op bytes Finished = (rec.stage ≡ Idle) × (c.out ≡ None)

-- the record, the buffer, the slot and the caller's bytes stand where the send stands
pub record IsSending (seat : Seat) (rec : Record) (c : Private) (op : SendAt) (slot : SlotAt) (bytes : List ℕ) : Type 0 where
  pub peers : are_peers seat.setup seat.rank op.to ≡ true
  pub head : IsHead op.head
  pub post_head : op.posted ≡ true → IsPostHead op.head
  pub long : length bytes ≡ op.head.len
  pub hands : HoldsNone seat.setup.layout rec
  pub slot_stands : SlotStands seat rec slot
  pub in_hand : op.chunk < chunk_count (chunk_of seat.setup) op.head.len
  pub at : IsAtSendStage seat rec c op bytes op.stage

-- a send or a post fits the record, the combiner, the slot and the bytes at its rank
abbrev pub SendStands : Sight → Private → SendAt → SlotAt → List ℕ → Type 0
SendStands s c op slot bytes = IsSending s.seat (record_in s) c op slot bytes

-- how many turns that do not wait are left from the raise of a chunk on: a post is done with the raise
abbrev pub from_raise : Bool → ℕ
from_raise posted = if posted then 1 else 3

-- how many turns a chunk takes beside its lines: by bits there is a flush of its own
abbrev pub of_chunk : Layout → Bool → ℕ
of_chunk LineFlags posted = from_raise posted
of_chunk BitFlags posted = 1 + from_raise posted

-- how many turns that do not wait are left of a send, by its stage: of the slot, of each further chunk, of this one's flags
-- and lines. Seven parameters: the turns of the slot, of a further chunk and from a raise on, the chunks to come, the lines
-- of this one and those in hand, and the stage; each is a number that `send_left` works out once.
abbrev pub send_left_by : (slot each raise more lines now : ℕ) → SendStage → ℕ
send_left_by slot each raise more lines now Header = slot + 1 + lines + each * more
send_left_by slot each raise more lines now (Lines i) = (lines - i) + each * more
send_left_by slot each raise more lines now Flush = (lines - now) + each * more
send_left_by slot each raise more lines now Raise = (lines - now) + raise + each * (more - 1)
send_left_by slot each raise more lines now Look = (lines - now) + 2 + each * (more - 1)
send_left_by slot each raise more lines now Lower = (lines - now) + 1 + each * (more - 1)
send_left_by slot each raise more lines now Finished = 0

-- how many turns that do not wait are left of a send and of the slot before it
abbrev pub send_left : Layout → ℕ → SendAt → SlotAt → ℕ
send_left layout size op slot =
    send_left_by (slot_left slot) (of_chunk layout op.posted) (from_raise op.posted) (chunk_count size op.head.len - op.chunk)
    (lines_from size op.head.len op.chunk) (lines_in_hand size op) op.stage

-- the spot at which a stage makes its one try; at the start it is the slot's
abbrev pub send_spot_by : Layout → ℕ → ℕ → ℕ → Option Spot → SendStage → Option Spot
send_spot_by layout own other to slot Header = slot
send_spot_by layout own other to slot Look = Some (flag_spot own (signal_at layout Ready to))
send_spot_by BitFlags own other to slot Raise = Some (Register other)
send_spot_by BitFlags own other to slot Lower = Some (Register own)
send_spot_by layout own other to slot stage = None

-- the spot at which the stage of a send makes its one try; at the start it is the slot's
abbrev pub send_spot : Seat → SendAt → SlotAt → Option Spot
send_spot seat op slot =
    send_spot_by seat.setup.layout (host_of seat.setup.hosts seat.rank) (host_of seat.setup.hosts op.to) op.to
    (slot_spot seat slot) op.stage

-- what the one try of a send's turn is for
abbrev pub aim_of_send : Seat → SendAt → SlotAt → Option Aim
aim_of_send seat op slot = aim_at seat.setup.layout (send_spot seat op slot)

-- the call that an op which is not at its end is to finish
abbrev pub send_call : SendAt → List ℕ → List DataCall
send_call op bytes = if is_sent op.stage then [] else (if op.posted then Post op.to op.head bytes ∷ [] else Send op.to op.head bytes ∷ [])

-- after its last turn a post is in the slot
abbrev pub slot_after_send : SendAt → SlotAt → SlotAt
slot_after_send op slot = if is_sent op.stage then slot else (if op.posted then record { to = Some op.to; seen = false } else slot)

-- what each answer means for the op, the slot and the record
abbrev pub SendMeans : Sender → Sender → Turn → Type 0
SendMeans old now turn.Moved =
    (send_left (layout_at old.sight) (chunk_at old.sight) old.op old.slot
    ≡ send_left (layout_at old.sight) (chunk_at old.sight) now.op now.slot + 1)
    × ((record_in now.sight).calls ≡ (record_in old.sight).calls) × (is_sent old.op.stage ≡ false) × (is_sent now.op.stage ≡ false)
    × IsSameOrEmpty old.slot now.slot
SendMeans old now (turn.Waiting spot) = (now.op ≡ old.op) × (now.slot ≡ old.slot) × IsAtRest (record_in old.sight) (record_in now.sight)
SendMeans old now turn.Done = (now.op.stage ≡ Finished) × (now.slot ≡ slot_after_send old.op old.slot)
    × ((record_in now.sight).calls ≡ (record_in old.sight).calls ++ send_call old.op old.bytes)
    × (old.op.posted ≡ false → is_sent old.op.stage ≡ false → now.slot.to ≡ None)

-- what a send does at its start: while the slot is full, the slot's turn; then it writes its header line
abbrev pub StartDoes : Sender → (slot : Option ℕ) → (done : Bool) → Sight → Private → Type 0
StartDoes old (Some to) done t d = SlotDoes (holding_slot old.sight old.core old.slot) done t d
StartDoes old None done t d = WritesLine old.sight old.core (own_header_line old.sight) (header_words old.op.head old.op.posted) t d

-- what each stage does: it writes one line, stores what waits in the buffer, looks at one flag, changes one flag, or
-- does nothing; the look or the change is done where the flag was found set, or its register free
abbrev pub SendDoes : Sender → SendStage → (done : Bool) → Sight → Private → Type 0
SendDoes old Header done t d = StartDoes old old.slot.to done t d
SendDoes old (Lines i) done t d =
    WritesLine old.sight old.core (own_chunk_line old.sight i) (words_of_line old.bytes old.sight old.op.chunk i) t d
SendDoes old Flush done t d = Flushes old.sight old.core t d
SendDoes old Raise done t d = Raises Sent old.sight old.core old.op.to done t d
SendDoes old Look done t d = LooksFor Ready old.sight old.core old.op.to done t d
SendDoes old Lower done t d = Lowers Ready old.sight old.core old.op.to done t d
SendDoes old Finished done t d = (t ≡ old.sight) × (d ≡ old.core)

-- one turn of a send or of a post
pub record SendTurned (old now : Sender) (answer : Turn) : Type 0 where
  pub events : List Event
  pub did : Did old.sight events now.sight
  -- what its stage does, and nothing else
  pub does : SendDoes old old.op.stage (moves_on answer) now.sight now.core
  -- it waits exactly where its one try was vain
  pub tried : Tried (aim_of_send old.sight.seat old.op old.slot) events (waits_at answer)
  -- it has freed the register that it took
  pub freed : changing_after false events ≡ false
  -- its last turn ends with a store or a free: no row of vain tries is left, whatever was tried before
  pub ends : answer ≡ turn.Done → is_sent old.op.stage ≡ false → (aim : Aim) (n : ℕ) → failed_from aim false n events ≡ 0
  -- where it waits, each of its events was a load or a vain take
  pub rests : (spot : Spot) → answer ≡ turn.Waiting spot → list_all is_resting events ≡ true
  -- where it waits, it made that one try and nothing else
  pub only : OnlyTries (aim_at (layout_at old.sight) (waits_at answer)) events
  pub same : (now.op.to ≡ old.op.to) × (now.op.head ≡ old.op.head) × (now.op.posted ≡ old.op.posted)
  pub means : SendMeans old now answer
  pub rest : KeepsAllButMessages (record_in old.sight) (record_in now.sight)
  -- each header or chunk word that it stored stood in the buffer before
  pub drafts : StoresFromBuffer old.sight.seat.setup old.core events
  pub held : LastHeld events old.core.evictions now.core
  pub work : LoadsLines events old.core now.core (lines_for_try (send_spot old.sight.seat old.op old.slot))
