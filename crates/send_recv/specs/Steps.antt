-- What each step of a receive, of a send and of a slot does next.
use Rattle.std.specs.Prelude.{◌≡◌, ◌≢◌, ℕ, ◌+◌, ◌==◌, ◌&&◌, Bool, true, false, if◌then◌else◌, nat_lt, List, [], Some, None, slice_index}
use Rattle.scc_base.specs.Heads.{MessageHead}
use Rattle.scc_base.specs.Places.{FlagPlace, flag_word}
use Rattle.scc_base.specs.Layouts.{signal_at, chunk_size}
use Rattle.scc_base.specs.declared.signals.Signal.{Signal}
use Rattle.scc_base.specs.Setups.{host_of}
use Rattle.scc_base.specs.declared.events.Spot.{Spot}
use Rattle.scc_base.specs.declared.events.Turn.{Turn}
use Rattle.scc_base.specs.declared.events.Turn.TheVariants as turn
use Rattle.scc_base.specs.declared.layouts.Layout.{Layout}
use Rattle.scc_base.specs.declared.layouts.Layout.TheVariants.{LineFlags, BitFlags}
use Rattle.scc_proto.specs.Ports.{Seat}
use Rattle.put_get.specs.Cores.{Private}
use Rattle.sync_flags.specs.Flags.{spot_of_flag}
use Rattle.send_recv.specs.declared.stages.RecvStage.TheVariants as receive
use Rattle.send_recv.specs.declared.stages.SendStage.{SendStage}
use Rattle.send_recv.specs.declared.stages.SendStage.TheVariants as sending
use Rattle.send_recv.specs.declared.answers.RecvTurn.{RecvTurn}
use Rattle.send_recv.specs.declared.answers.RecvTurn.TheVariants as recv_turn
use Rattle.send_recv.specs.Chunks.{chunk_lines_of, is_last_chunk}
use Rattle.send_recv.specs.Ops.{RecvAt, SendAt, SlotAt}

-- a core with its cache emptied
abbrev pub with_empty_cache : Private → Private
with_empty_cache c = record c { lines = [] }

-- the core of the own rank
abbrev pub own_core : Seat → ℕ
own_core seat = host_of seat.setup.hosts seat.rank

-- the core of a rank
abbrev pub core_of : Seat → ℕ → ℕ
core_of seat j = host_of seat.setup.hosts j

-- the flag of a signal, by the rank that raises it
abbrev pub signal_flag : Seat → Signal → ℕ → FlagPlace
signal_flag seat signal by = signal_at seat.setup.layout signal by

-- the spot of a flag at a core: its word, and its bit
abbrev pub flag_spot : ℕ → FlagPlace → Spot
flag_spot core flag = spot_of_flag (flag_word core flag) flag.bit

-- the head that a header line says
abbrev pub head_in_line : List ℕ → MessageHead
head_in_line words = record { kind = slice_index words 0; comm = slice_index words 1; len = slice_index words 2 }

-- whether two heads are one
abbrev pub is_same_head : MessageHead → MessageHead → Bool
is_same_head one other = one.kind == other.kind && one.comm == other.comm && one.len == other.len

-- ---- a receive

-- the turn did not wait
abbrev pub goes_on : RecvTurn → Bool
goes_on (recv_turn.Waiting spot) = false
goes_on answer = true

-- the answer of a receive's turn: it went on, or it waits at this spot
abbrev pub recv_or_waits : Bool → Spot → RecvTurn
recv_or_waits gone spot = if gone then recv_turn.Moved else recv_turn.Waiting spot

-- a receive after its look, where it found the chunk: the header is read next for a first chunk, else the chunk is
-- taken
abbrev pub after_look : Bool → RecvAt → RecvAt
after_look gone op = if gone then record op { stage = if op.chunk == 0 then receive.Header else receive.Lower } else op

-- a receive after it lowered `sent`: the first line of the chunk is read next, or `ready` is raised where there is none
abbrev pub after_lower : ℕ → Bool → RecvAt → RecvAt
after_lower size gone op =
    if gone then record op { stage = if chunk_lines_of size op.head.len op.chunk == 0 then receive.Raise else receive.Lines 0 } else op

-- a receive after it read a line: the next line is read next, or `ready` is raised behind the last one
abbrev pub after_line : ℕ → ℕ → RecvAt → RecvAt
after_line size line op =
    record op { stage = if nat_lt (line + 1) (chunk_lines_of size op.head.len op.chunk) then receive.Lines (line + 1) else receive.Raise }

-- a receive after it raised `ready`: it is at its end with the last chunk, and else looks for the next one
abbrev pub after_raise : ℕ → Bool → RecvAt → RecvAt
after_raise size gone op =
    if gone
    then (if is_last_chunk size op.head.len op.chunk then record op { stage = receive.Finished }
    else record op { chunk = op.chunk + 1; stage = receive.Look })
    else op

-- the answer of a receive's turn that raises `ready`: it is done with the last chunk
abbrev pub raise_answer : ℕ → Bool → Spot → RecvAt → RecvTurn
raise_answer size gone spot op =
    if gone then (if is_last_chunk size op.head.len op.chunk then recv_turn.Done else recv_turn.Moved) else recv_turn.Waiting spot

-- the header line was read: it says the asked head, or another one
pub data HeadRead (words : List ℕ) (op now : RecvAt) (answer : RecvTurn) : Type 0 where
  Same : head_in_line words ≡ op.head → now ≡ record op { stage = receive.Lower } → answer ≡ recv_turn.Moved → HeadRead words op now answer
  Differs : head_in_line words ≢ op.head → now ≡ op → answer ≡ recv_turn.Mismatch (head_in_line words) → HeadRead words op now answer

-- the cache from which a line of a chunk is read: it is emptied before the first line
abbrev pub before_line : ℕ → Private → Private
before_line line c = if line == 0 then with_empty_cache c else c

-- ---- a send and a slot

-- the turn of a send or of a slot did not wait
abbrev pub moves_on : Turn → Bool
moves_on (turn.Waiting spot) = false
moves_on answer = true

-- the answer of a turn of a send or of a slot: it went on, or it waits at this spot
abbrev pub moved_or_waits : Bool → Spot → Turn
moved_or_waits gone spot = if gone then turn.Moved else turn.Waiting spot

-- a slot after its look, where it found that the message was taken
abbrev pub slot_seen : Bool → SlotAt → SlotAt
slot_seen gone slot = if gone then record slot { seen = true } else slot

-- a slot after it lowered `ready`: it is empty
abbrev pub slot_lowered : Bool → SlotAt → SlotAt
slot_lowered gone slot = if gone then record { to = None; seen = false } else slot

-- the stage of a send behind the last line of a chunk: with bit flags the buffer is stored before the raise
abbrev pub before_raise : Layout → SendStage
before_raise LineFlags = sending.Raise
before_raise BitFlags = sending.Flush

-- a send after it wrote its header line: the first line of the chunk is written next, if there is one
abbrev pub after_header : Layout → SendAt → SendAt
after_header layout op =
    record op { stage = if chunk_lines_of (chunk_size layout) op.head.len op.chunk == 0 then before_raise layout else sending.Lines 0 }

-- a send after it wrote a line: the next line is written next, if there is one
abbrev pub after_written : Layout → ℕ → SendAt → SendAt
after_written layout line op =
    record op {
      stage = if nat_lt (line + 1) (chunk_lines_of (chunk_size layout) op.head.len op.chunk) then sending.Lines (line + 1)
          else before_raise layout;
    }

-- a send after it stored what waited in the buffer: `sent` is raised next
abbrev pub after_flush : SendAt → SendAt
after_flush op = record op { stage = sending.Raise }

-- a send after it raised `sent`: a post is at its end, any other looks whether the chunk was taken
abbrev pub after_sent : Bool → SendAt → SendAt
after_sent gone op = if gone then record op { stage = if op.posted then sending.Finished else sending.Look } else op

-- the answer of a send's turn that raises `sent`: a post is done
abbrev pub sent_answer : Bool → Spot → SendAt → Turn
sent_answer gone spot op = if gone then (if op.posted then turn.Done else turn.Moved) else turn.Waiting spot

-- the slot after a raise of `sent`: a post has put its message there
abbrev pub slot_sent : Bool → SendAt → SlotAt → SlotAt
slot_sent gone op slot = if gone then (if op.posted then record { to = Some op.to; seen = false } else slot) else slot

-- a send after its look, where it found that the chunk was taken: `ready` is lowered next
abbrev pub after_seen : Bool → SendAt → SendAt
after_seen gone op = if gone then record op { stage = sending.Lower } else op

-- a send after it lowered `ready`: it is at its end with the last chunk, and else writes the next one
abbrev pub after_through : ℕ → Bool → SendAt → SendAt
after_through size gone op =
    if gone
    then (if is_last_chunk size op.head.len op.chunk then record op { stage = sending.Finished }
    else record op { chunk = op.chunk + 1; stage = sending.Lines 0 })
    else op

-- the answer of a send's turn that lowers `ready`: it is done with the last chunk
abbrev pub through_answer : ℕ → Bool → Spot → SendAt → Turn
through_answer size gone spot op =
    if gone then (if is_last_chunk size op.head.len op.chunk then turn.Done else turn.Moved) else turn.Waiting spot
