-- Lists of moves and events, each permitted in turn, after which one more is not permitted.
use Rattle.std.specs.Prelude.{◌≡◌, ℕ, Bool, true, false, not, ◌&&◌, ◌==◌, List, [], ◌∷◌, ◌++◌}
use Rattle.scc_base.specs.Events.{take_of}
use Rattle.scc_base.specs.Setups.{SetupView}
use Rattle.scc_base.specs.declared.communicators.CommRule.TheVariants.{World, Mod}
use Rattle.scc_base.specs.declared.layouts.Layout.TheVariants.{LineFlags, BitFlags}
use Rattle.scc_base.specs.declared.signals.Signal.TheVariants.{Sent, Ready}
use Rattle.scc_proto.specs.Stages.{Record, blank}
use Rattle.scc_proto.specs.Moves.{Move, DraftHeader, DraftChunk, RaiseSignal, LookSignal, ReadHeader, ReadChunk, LowerSignal, FlipGather, LookGather, after}
use Rattle.scc_proto.specs.Permission.{permits}
use Rattle.scc_proto.specs.Words.{RankEvent}
use Rattle.scc_proto.specs.Records.{look_at, is_permitted, record_after}
use Rattle.scc_proto.specs.Examples.{loads, stores, takes_register, frees}

-- each of these moves is permitted in turn, and the next one is not, where a whole chunk has `size` bytes
abbrev pub stops_before : ℕ → Move → Record → List Move → Bool
stops_before size next rec [] = not (permits size next rec)
stops_before size next rec (move ∷ moves) = permits size move rec && stops_before size next (after size move rec) moves

-- a rank at its start may make these moves, one after the other, and then not the next one, where a whole chunk has
-- 32 bytes
abbrev pub Refuses : List Move → Move → Type 0
Refuses moves next = stops_before 32 next blank moves ≡ true

-- each of these events is one of rank `me` and is permitted in turn, and its next one is not
abbrev pub stops_before_event : SetupView → ℕ → RankEvent → Record → List RankEvent → Bool
stops_before_event s me next rec [] = (next.rank == me) && not (is_permitted s me rec next.event)
stops_before_event s me next rec (e ∷ es) =
    (e.rank == me) && (is_permitted s me rec e.event && stops_before_event s me next (record_after s me rec e.event) es)

-- a rank at its start may make these events, one after the other, and then not the next one
abbrev pub RefusesEvent : SetupView → ℕ → List RankEvent → RankEvent → Type 0
RefusesEvent s me events next = stops_before_event s me next blank events ≡ true

-- a header line with these words, last word first
abbrev pub drafts_line : (kind comm len post : ℕ) → List Move
drafts_line kind comm len post = DraftHeader 3 post ∷ DraftHeader 2 len ∷ DraftHeader 1 comm ∷ DraftHeader 0 kind ∷ []

-- a chunk line whose word 0 is this one
abbrev pub drafts_words : ℕ → List Move
drafts_words word = DraftChunk 3 0 ∷ DraftChunk 2 0 ∷ DraftChunk 1 0 ∷ DraftChunk 0 word ∷ []

-- a message of four bytes, raised at rank 1
abbrev pub raises_four : List Move
raises_four = drafts_line 0 0 4 0 ++ (drafts_words 7 ++ RaiseSignal Sent 1 ∷ [])

-- a message of four bytes, raised at rank 1, whose `ready` is seen
abbrev pub sees_ready : List Move
sees_ready = raises_four ++ LookSignal Ready (look_at 1 1) ∷ []

-- a post of four bytes on its way to rank 1
abbrev pub posts : List Move
posts = drafts_line 0 0 4 1 ++ (drafts_words 7 ++ RaiseSignal Sent 1 ∷ [])

-- the first chunk of 33 bytes is through to rank 1
abbrev pub sends_first : List Move
sends_first = drafts_line 0 0 33 0 ++ (drafts_words 7 ++ RaiseSignal Sent 1 ∷ LookSignal Ready (look_at 1 1) ∷ LowerSignal Ready 1 ∷ [])

-- the first chunk of 33 bytes is through to rank 1, and the second is drafted
abbrev pub drafts_second : List Move
drafts_second = sends_first ++ drafts_words 9

-- `sent` of a rank is seen, and its head of a plain message is read
abbrev pub reads_plain : (from len : ℕ) → List Move
reads_plain from len = LookSignal Sent (look_at from 1) ∷ ReadHeader from 0 0 ∷ ReadHeader from 1 0 ∷ ReadHeader from 2 len ∷ []

-- `sent` of rank 0 is seen, and its head of four bytes is read
abbrev pub reads_head : List Move
reads_head = reads_plain 0 4

-- the chunk of rank 0 is being taken
abbrev pub begins_taking : List Move
begins_taking = reads_head ++ LowerSignal Sent 0 ∷ []

-- a chunk line of a rank is loaded
abbrev pub reads_words : ℕ → List Move
reads_words from = ReadChunk from 0 7 ∷ ReadChunk from 1 0 ∷ ReadChunk from 2 0 ∷ ReadChunk from 3 0 ∷ []

-- the first chunk of 33 bytes of rank 0 is taken
abbrev pub takes_first : List Move
takes_first = reads_plain 0 33 ++ LowerSignal Sent 0 ∷ (reads_words 0 ++ RaiseSignal Ready 0 ∷ [])

-- the root of three has flipped, and has seen its first member
abbrev pub sees_first : List Move
sees_first = FlipGather 0 1 2 ∷ LookGather 0 1 1 1 ∷ []

-- the root of three has flipped, and has seen both its members
abbrev pub sees_all : List Move
sees_all = sees_first ++ LookGather 0 2 2 1 ∷ []

-- a rank drafts the header of a message without bytes, at its core
abbrev pub drafts_empty : (rank core : ℕ) → List RankEvent
drafts_empty rank core = stores rank core 0 3 0 ∷ stores rank core 0 2 0 ∷ stores rank core 0 1 0 ∷ stores rank core 0 0 0 ∷ []

-- a rank loads the header of a message without bytes from a core
abbrev pub reads_empty : (rank core : ℕ) → List RankEvent
reads_empty rank core = loads rank core 0 0 0 ∷ loads rank core 0 1 0 ∷ loads rank core 0 2 0 ∷ []

-- a rank finds a core's register taken
abbrev pub misses : ℕ → ℕ → RankEvent
misses rank core = record { rank = rank; event = take_of core false }

-- three ranks with line flags, on cores 7, 5 and 40: rank 2 has seen `sent` of rank 0 and read its head
abbrev pub sees_sent : List RankEvent
sees_sent = loads 2 40 1 0 1 ∷ reads_empty 2 7

-- three ranks with line flags, on cores 7, 5 and 40: rank 0 has raised `sent` at rank 2
abbrev pub raises_empty : List RankEvent
raises_empty = drafts_empty 0 7 ++ stores 0 40 1 0 1 ∷ []

-- two ranks with bit flags: rank 0 has seen the bit of rank 1 and read its head
abbrev pub sees_bit : List RankEvent
sees_bit = loads 0 0 1 0 2 ∷ reads_empty 0 1

-- two ranks with bit flags: rank 0 has seen the bit of rank 1, read its head, and lowered the bit under its own register
abbrev pub takes_bit : List RankEvent
takes_bit = sees_bit ++ takes_register 0 0 ∷ loads 0 0 1 0 2 ∷ stores 0 0 1 0 0 ∷ frees 0 0 ∷ []

-- two ranks with bit flags: rank 1 has a draft and the register of rank 0
abbrev pub holds_draft : List RankEvent
holds_draft = drafts_empty 1 1 ++ takes_register 1 0 ∷ []

-- two ranks with bit flags: rank 1 has a draft and the register of rank 0, and has set its bit there
abbrev pub sets_bit : List RankEvent
sets_bit = holds_draft ++ loads 1 0 1 0 0 ∷ stores 1 0 1 0 2 ∷ []

-- three ranks with bit flags, each on the core of its number
abbrev pub three_ranks_bits : SetupView
three_ranks_bits = record { nue = 3; layout = BitFlags; hosts = 0 ∷ 1 ∷ 2 ∷ []; comms = World ∷ [] }

-- four ranks with line flags, of which communicator 1 takes 0 and 2 together, and 1 and 3
abbrev pub four_ranks : SetupView
four_ranks = record { nue = 4; layout = LineFlags; hosts = 0 ∷ 1 ∷ 2 ∷ 3 ∷ []; comms = World ∷ Mod 0 2 ∷ [] }
