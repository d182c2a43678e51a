-- Receiving a message (RCCE specification 2.0: RCCE_recv; the handshake over `sent` and `ready` flags and the
-- header line are this project's profile).
use Rattle.std.specs.Prelude.{◌≡◌, ◌≢◌, ℕ, ◌+◌, ◌-◌, ◌*◌, ◌<◌, ◌≤◌, min, Bool, true, false, ◌==◌, if◌then◌else◌, List, [], ◌∷◌, ◌++◌, length, take, Option, Some, None, slice_index}
use Rattle.std.specs.List.{list_all}
use Rattle.scc_base.specs.Heads.{MessageHead, IsHead}
use Rattle.scc_base.specs.Calls.{DataCall, Recv}
use Rattle.scc_base.specs.Places.{first_heap, LineAt}
use Rattle.scc_base.specs.Layouts.{signal_at, first_chunk}
use Rattle.scc_base.specs.declared.signals.Signal.TheVariants.{Sent, Ready}
use Rattle.scc_base.specs.Setups.{host_of}
use Rattle.scc_base.specs.declared.layouts.Layout.{Layout}
use Rattle.scc_base.specs.declared.layouts.Layout.TheVariants.{LineFlags, BitFlags}
use Rattle.scc_base.specs.declared.events.Event.{Event}
use Rattle.scc_base.specs.declared.events.Spot.{Spot}
use Rattle.scc_base.specs.declared.events.Spot.TheVariants.{Register}
use Rattle.scc_proto.specs.Messages.{Notes, noted_word, has_all, byte_at, head_of, Progress}
use Rattle.scc_proto.specs.Resting.{is_resting}
use Rattle.scc_proto.specs.Stages.{Stage, Idle, Between, Taking, Record}
use Rattle.scc_proto.specs.Permission.{says_head}
use Rattle.scc_proto.specs.Words.{are_peers}
use Rattle.scc_proto.specs.Records.{chunk_of}
use Rattle.scc_proto.specs.Ports.{Seat, Sight, Did, record_in}
use Rattle.line_cache.specs.declared.cache.Entry.{Entry}
use Rattle.put_get.specs.Cores.{Private, ReadsLine}
use Rattle.send_recv.specs.declared.stages.RecvStage.{RecvStage}
use Rattle.send_recv.specs.declared.stages.RecvStage.TheVariants.{Look, Header, Lower, Lines, Raise, Finished}
use Rattle.send_recv.specs.declared.answers.RecvTurn.{RecvTurn}
use Rattle.send_recv.specs.declared.answers.RecvTurn.TheVariants as turn
use Rattle.send_recv.specs.Chunks.{chunk_count, chunk_start, chunk_len, chunk_lines_of, lines_from}
use Rattle.send_recv.specs.Ops.{RecvAt, is_received}
use Rattle.send_recv.specs.Ranks.{Receiver}
use Rattle.sync_flags.specs.Tries.{Aim, Tried, tries_at, changing_after}
use Rattle.send_recv.specs.Sights.{chunk_at, layout_at, header_line, chunk_line, LooksFor, Lowers, Raises}
use Rattle.send_recv.specs.Steps.{flag_spot, with_empty_cache, before_line, goes_on}
use Rattle.send_recv.specs.Tries.{aim_of, aim_at}
use Rattle.send_recv.specs.Turns.{HoldsNone, IsSamePost, KeepsAllButMessages, IsAtRest, OnlyTries, is_no_draft, LastHeld, LoadsLines}

-- a message of which these chunks are through
abbrev pub progress_at : ℕ → MessageHead → ℕ → List ℕ → Progress
progress_at size head chunk bytes = record { head = head; chunks = chunk; bytes = take (chunk_start size chunk) bytes }

-- what the rank is in the midst of while no chunk is being taken: nothing before the first chunk, and then the message
-- of which chunks were taken
abbrev pub between : ℕ → RecvAt → List ℕ → Stage
between size op bytes = if op.chunk == 0 then Idle else Between op.from (progress_at size op.head op.chunk bytes)

-- how many lines the chunk in hand has
abbrev pub lines_now : ℕ → RecvAt → ℕ
lines_now size op = chunk_lines_of size op.head.len op.chunk

-- the first lines of the chunk in hand were loaded, and their bytes stand in the buffer
pub record IsRead (size : ℕ) (op : RecvAt) (bytes : List ℕ) (chunk : Notes) (lines : ℕ) : Type 0 where
  pub loaded : has_all chunk (4 * lines) ≡ true
  pub bytes_stand : (b : ℕ) → b < min (32 * lines) (chunk_len size op.head.len op.chunk)
      → slice_index bytes (chunk_start size op.chunk + b) ≡ byte_at chunk b

-- a cached line of the sender's chunk buffer has the words that the record has noted
abbrev pub IsNotedLine : Layout → ℕ → Notes → LineAt → List ℕ → Type 0
IsNotedLine layout core chunk line words = line.core ≡ core → first_chunk layout ≤ line.line → line.line < first_heap
    → (k : ℕ) → k < 4 → noted_word chunk (4 * (line.line - first_chunk layout) + k) ≡ Some (slice_index words k)

-- each of these cached lines that is one of the sender's chunk buffer has the words that the record has noted
abbrev pub AreNoted : Layout → ℕ → Notes → List Entry → Type 0
AreNoted layout core chunk [] = Unit {0}
AreNoted layout core chunk (e ∷ es) = IsNotedLine layout core chunk e.line e.words × AreNoted layout core chunk es

-- the noted header words say this head
abbrev pub SaysHead : Notes → MessageHead → Type 0
SaysHead header head = (says_head header ≡ true) × (head_of header ≡ head)

-- a chunk is being taken, of which the first lines are read
pub record IsTakingLines (size : ℕ) (rec : Record) (op : RecvAt) (bytes : List ℕ) (chunk : Notes) (lines : ℕ) : Type 0 where
  pub stage : rec.stage ≡ Taking op.from (progress_at size op.head op.chunk bytes) chunk
  pub read : IsRead size op bytes chunk lines

-- what the record, the cache and the caller's bytes are at each stage
abbrev pub IsAtRecvStage : Seat → Record → Private → RecvAt → List ℕ → RecvStage → Type 0
IsAtRecvStage seat rec c op bytes Look = rec.stage ≡ between (chunk_of seat.setup) op bytes
IsAtRecvStage seat rec c op bytes Header = (op.chunk ≡ 0) × (rec.stage ≡ Idle) × (header : Notes) × (rec.notes op.from ≡ Some header)
IsAtRecvStage seat rec c op bytes Lower =
    (rec.stage ≡ between (chunk_of seat.setup) op bytes) × (header : Notes) × (rec.notes op.from ≡ Some header)
    × (op.chunk ≡ 0 → SaysHead header op.head)
IsAtRecvStage seat rec c op bytes (Lines i) =
    (i < lines_now (chunk_of seat.setup) op) × (chunk : Notes) × IsTakingLines (chunk_of seat.setup) rec op bytes chunk i
    × (i ≢ 0 → AreNoted seat.setup.layout (host_of seat.setup.hosts op.from) chunk c.lines)
IsAtRecvStage seat rec c op bytes Raise =
    (chunk : Notes) × IsTakingLines (chunk_of seat.setup) rec op bytes chunk (lines_now (chunk_of seat.setup) op)
IsAtRecvStage seat rec c op bytes Finished = rec.stage ≡ Idle

-- the record, the cache and the caller's bytes stand where the receive stands
pub record IsReceiving (seat : Seat) (rec : Record) (c : Private) (op : RecvAt) (bytes : List ℕ) : Type 0 where
  pub peers : are_peers seat.setup seat.rank op.from ≡ true
  pub head : IsHead op.head
  pub long : length bytes ≡ op.head.len
  pub empty : c.out ≡ None
  pub hands : HoldsNone seat.setup.layout rec
  pub in_hand : op.chunk < chunk_count (chunk_of seat.setup) op.head.len
  pub at : IsAtRecvStage seat rec c op bytes op.stage

-- a receive fits the record, the cache, the combiner and the buffer at its rank
abbrev pub RecvStands : Sight → Private → RecvAt → List ℕ → Type 0
RecvStands s c op bytes = IsReceiving s.seat (record_in s) c op bytes

-- how many turns that do not wait are left: a look for each chunk, the header, the lines, and two flags a chunk
abbrev pub recv_left_by : (more lines now : ℕ) → (first : Bool) → RecvStage → ℕ
recv_left_by more lines now first Look = (if first then 1 else 0) + lines + 3 * more
recv_left_by more lines now first Header = lines + 3 * more
recv_left_by more lines now first Lower = lines + 3 * more - 1
recv_left_by more lines now first (Lines i) = (lines - i) + 3 * more - 2
recv_left_by more lines now first Raise = (lines - now) + 3 * more - 2
recv_left_by more lines now first Finished = 0

-- how many turns a receive has left
abbrev pub recv_left : ℕ → RecvAt → ℕ
recv_left size op =
    recv_left_by (chunk_count size op.head.len - op.chunk) (lines_from size op.head.len op.chunk) (lines_now size op)
    (op.chunk == 0) op.stage

-- the lines of flags that a change of a flag loads: with bit flags the flags' line, under its register
abbrev pub flag_lines : Layout → ℕ
flag_lines LineFlags = 0
flag_lines BitFlags = 1

-- how many lines are left to be loaded at a stage, looks apart: the header, the lines of this chunk and of all later
-- ones, and those of two changes of flags a chunk
abbrev pub lines_left_by : (flags more lines now : ℕ) → (first : Bool) → RecvStage → ℕ
lines_left_by flags more lines now first Look = (if first then 1 else 0) + lines + 2 * flags * more
lines_left_by flags more lines now first Header = 1 + lines + 2 * flags * more
lines_left_by flags more lines now first Lower = lines + 2 * flags * more
lines_left_by flags more lines now first (Lines i) = (lines - i) + 2 * flags * more - flags
lines_left_by flags more lines now first Raise = (lines - now) + 2 * flags * more - flags
lines_left_by flags more lines now first Finished = 0

-- how many lines a receive has left to load, looks apart
abbrev pub lines_left : Layout → ℕ → RecvAt → ℕ
lines_left layout size op =
    lines_left_by (flag_lines layout) (chunk_count size op.head.len - op.chunk) (lines_from size op.head.len op.chunk) (lines_now size op)
    (op.chunk == 0) op.stage

-- the stage's turn makes a look
abbrev pub is_look : RecvStage → Bool
is_look Look = true
is_look _ = false

-- a turn that looks loads one line more than are left, and so does one that finds another head
abbrev pub extra_line : RecvStage → RecvTurn → ℕ
extra_line stage (turn.Mismatch sent) = 1
extra_line stage answer = if is_look stage then 1 else 0

-- how many lines a turn loads at most: those that are no longer left after it, and the extra one
abbrev pub lines_of_turn : Layout → ℕ → (old now : RecvAt) → RecvTurn → ℕ
lines_of_turn layout size old now answer = (lines_left layout size old - lines_left layout size now) + extra_line old.stage answer

-- the spot at which a stage makes its one try, where it makes one
abbrev pub spot_by : Layout → ℕ → ℕ → ℕ → RecvStage → Option Spot
spot_by layout own other from Look = Some (flag_spot own (signal_at layout Sent from))
spot_by BitFlags own other from Lower = Some (Register own)
spot_by BitFlags own other from Raise = Some (Register other)
spot_by layout own other from stage = None

-- the spot at which the stage of a receive makes its one try, where it makes one
abbrev pub recv_spot : Seat → RecvAt → Option Spot
recv_spot seat op = spot_by seat.setup.layout (host_of seat.setup.hosts seat.rank) (host_of seat.setup.hosts op.from) op.from op.stage

-- what the one try of a receive's turn is for
abbrev pub aim_of_receive : Seat → RecvAt → Option Aim
aim_of_receive seat op = aim_at seat.setup.layout (recv_spot seat op)

-- a spot at which some stage of the receive makes its try
abbrev pub IsRecvSpot : Seat → RecvAt → Spot → Type 0
IsRecvSpot seat op spot = (stage : RecvStage) × (recv_spot seat (record op { stage = stage }) ≡ Some spot)

-- the spot at which a receive's turn waits, by its answer, if it waits
abbrev pub recv_waits : RecvTurn → Option Spot
recv_waits (turn.Waiting spot) = Some spot
recv_waits answer = None

-- the call that an op which is not at its end is to finish
abbrev pub recv_call : RecvAt → List ℕ → List DataCall
recv_call op bytes = if is_received op.stage then [] else Recv op.from op.head bytes ∷ []

-- what each answer means for the op, the bytes and the record
abbrev pub RecvMeans : Receiver → Receiver → RecvTurn → Type 0
RecvMeans old now turn.Moved = (recv_left (chunk_at old.sight) old.op ≡ recv_left (chunk_at old.sight) now.op + 1)
    × ((record_in now.sight).calls ≡ (record_in old.sight).calls) × (is_received old.op.stage ≡ false) × (is_received now.op.stage ≡ false)
RecvMeans old now (turn.Waiting spot) = (now.op ≡ old.op) × (now.bytes ≡ old.bytes) × IsAtRest (record_in old.sight) (record_in now.sight)
RecvMeans old now turn.Done = (now.op.stage ≡ Finished) × (now.bytes ≡ old.bytes)
    × ((record_in now.sight).calls ≡ (record_in old.sight).calls ++ recv_call old.op old.bytes)
RecvMeans old now (turn.Mismatch sent) = (now.op ≡ old.op) × (now.bytes ≡ old.bytes) × (old.op.stage ≡ Header)
    × IsAtRest (record_in old.sight) (record_in now.sight) × (sent ≢ old.op.head) × (header : Notes)
    × ((record_in now.sight).notes old.op.from ≡ Some header) × SaysHead header sent

-- the bytes of the message up to which the buffer is filled
abbrev pub filled_by : (start len : ℕ) → RecvStage → ℕ → ℕ
filled_by start len (Lines i) rest = start + min (32 * i) rest
filled_by start len Raise rest = start + rest
filled_by start len Finished rest = len
filled_by start len stage rest = start

-- how many bytes of its message a receive has put into the buffer
abbrev pub filled_to : ℕ → RecvAt → ℕ
filled_to size op = filled_by (chunk_start size op.chunk) op.head.len op.stage (chunk_len size op.head.len op.chunk)

-- what each stage does: it looks at one flag, reads one line, changes one flag, or does nothing; the look or the
-- change is done where the flag was found set, or its register free
abbrev pub RecvDoes : Receiver → RecvStage → (done : Bool) → Sight → Private → Type 0
RecvDoes old Look done t d = LooksFor Sent old.sight old.core old.op.from done t d
RecvDoes old Header done t d =
    (words : List ℕ) × ReadsLine old.sight (with_empty_cache old.core) (header_line old.sight old.op.from) words t d
RecvDoes old Lower done t d = Lowers Sent old.sight old.core old.op.from done t d
RecvDoes old (Lines i) done t d =
    (words : List ℕ) × ReadsLine old.sight (before_line i old.core) (chunk_line old.sight old.op.from i) words t d
RecvDoes old Raise done t d = Raises Ready old.sight old.core old.op.from done t d
RecvDoes old Finished done t d = (t ≡ old.sight) × (d ≡ old.core)

-- one turn of a receive
pub record RecvTurned (old now : Receiver) (answer : RecvTurn) : Type 0 where
  pub events : List Event
  pub did : Did old.sight events now.sight
  -- what its stage does, and nothing else
  pub does : RecvDoes old old.op.stage (goes_on answer) now.sight now.core
  -- it waits exactly where its one try was vain
  pub tried : Tried (aim_of_receive old.sight.seat old.op) events (recv_waits answer)
  -- it has freed the register that it took
  pub freed : changing_after false events ≡ false
  -- it makes no try at another spot of the receive
  pub elsewhere : (at : Spot) → IsRecvSpot old.sight.seat old.op at → recv_spot old.sight.seat old.op ≢ Some at
      → tries_at (aim_of (layout_at old.sight) at) events ≡ 0
  -- where it waits, each of its events was a load or a vain take
  pub rests : (spot : Spot) → answer ≡ turn.Waiting spot → list_all is_resting events ≡ true
  -- where it waits, it made that one try and nothing else
  pub only : OnlyTries (aim_at (layout_at old.sight) (recv_waits answer)) events
  -- it stores no header or chunk word
  pub no_drafts : list_all (is_no_draft old.sight.seat.setup) events ≡ true
  pub same : (now.op.from ≡ old.op.from) × (now.op.head ≡ old.op.head)
  pub means : RecvMeans old now answer
  pub rest : KeepsAllButMessages (record_in old.sight) (record_in now.sight)
  pub post : IsSamePost (record_in old.sight).post (record_in now.sight).post
  -- the buffer changes only where bytes of the line read stand
  pub before : (k : ℕ) → k < filled_to (chunk_at old.sight) old.op → slice_index now.bytes k ≡ slice_index old.bytes k
  pub afterwards : (k : ℕ) → filled_to (chunk_at old.sight) now.op ≤ k → slice_index now.bytes k ≡ slice_index old.bytes k
  -- the buffer is never filled less, and no more lines are left to load
  pub fuller : filled_to (chunk_at old.sight) old.op ≤ filled_to (chunk_at old.sight) now.op
  pub fewer : lines_left (layout_at old.sight) (chunk_at old.sight) now.op ≤ lines_left (layout_at old.sight) (chunk_at old.sight) old.op
  pub held : LastHeld events old.core.evictions now.core
  pub work : LoadsLines events old.core now.core (lines_of_turn (layout_at old.sight) (chunk_at old.sight) old.op now.op answer)
