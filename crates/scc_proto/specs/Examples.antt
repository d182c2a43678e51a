-- Small runs, event by event.
use Rattle.std.specs.Prelude.{ℕ, zero, suc, true, ◌+◌, ◌*◌, ◌/◌, ◌%◌, List, [], ◌∷◌, ◌++◌, map}
use Rattle.std.specs.List.{range_with_len}
use Rattle.scc_base.specs.Bytes.{byte_of_word}
use Rattle.scc_base.specs.Events.{load_of, store_of, take_of, free_of}
use Rattle.scc_base.specs.Layouts.{first_chunk, chunk_lines, chunk_size}
use Rattle.scc_base.specs.Setups.{SetupView}
use Rattle.scc_base.specs.declared.communicators.CommRule.TheVariants.{Absent, World, Mod, Div}
use Rattle.scc_base.specs.declared.layouts.Layout.{Layout}
use Rattle.scc_base.specs.declared.layouts.Layout.TheVariants.{LineFlags, BitFlags}
use Rattle.scc_proto.specs.Stages.{Record}
use Rattle.scc_proto.specs.Moves.{Move, after}
use Rattle.scc_proto.specs.Words.{RankEvent}

-- a rank loads a value from a word of a core's buffer
abbrev pub loads : ℕ → ℕ → ℕ → ℕ → ℕ → RankEvent
loads rank core line word value = record { rank = rank; event = load_of (record { core = core; line = line; word = word }) value }

-- a rank stores a value in a word of a core's buffer
abbrev pub stores : ℕ → ℕ → ℕ → ℕ → ℕ → RankEvent
stores rank core line word value = record { rank = rank; event = store_of (record { core = core; line = line; word = word }) value }

-- a rank takes a core's register, which is free
abbrev pub takes_register : ℕ → ℕ → RankEvent
takes_register rank core = record { rank = rank; event = take_of core true }

-- a rank frees a core's register
abbrev pub frees : ℕ → ℕ → RankEvent
frees rank core = record { rank = rank; event = free_of core }

-- two ranks, each on the core of its number
abbrev pub two_ranks_by : Layout → SetupView
two_ranks_by layout = record { nue = 2; layout = layout; hosts = 0 ∷ 1 ∷ []; comms = World ∷ [] }

-- two ranks with line flags
abbrev pub two_ranks : SetupView
two_ranks = two_ranks_by LineFlags

-- rank 0 drafts a header of four bytes and a chunk line with 01 02 03 04, and raises `sent` at rank 1
abbrev pub sends_four : List RankEvent
sends_four = stores 0 0 0 3 0 ∷ stores 0 0 0 2 4 ∷ stores 0 0 0 1 0 ∷ stores 0 0 0 0 0
    ∷ stores 0 0 113 3 0 ∷ stores 0 0 113 2 0 ∷ stores 0 0 113 1 0 ∷ stores 0 0 113 0 67305985
    ∷ stores 0 1 1 0 1 ∷ []

-- rank 1 sees `sent` of rank 0, loads the head, lowers `sent`, loads the chunk of four bytes and raises `ready`
abbrev pub takes_four : List RankEvent
takes_four = loads 1 1 1 0 1 ∷ loads 1 0 0 0 0 ∷ loads 1 0 0 1 0 ∷ loads 1 0 0 2 4
    ∷ stores 1 1 1 0 0
    ∷ loads 1 0 113 0 67305985 ∷ loads 1 0 113 1 0 ∷ loads 1 0 113 2 0 ∷ loads 1 0 113 3 0
    ∷ stores 1 0 50 0 1 ∷ []

-- a message of the bytes 1, 2, 3 and 4 from rank 0 to rank 1, up to the receiver's answer
abbrev pub four_bytes : List RankEvent
four_bytes = sends_four ++ takes_four

-- rank 1 sees `sent` of rank 0, loads the head and lowers `sent`: the chunk of four bytes is being taken
abbrev pub begins_four : List RankEvent
begins_four = loads 1 1 1 0 1 ∷ loads 1 0 0 0 0 ∷ loads 1 0 0 1 0 ∷ loads 1 0 0 2 4 ∷ stores 1 1 1 0 0 ∷ []

-- a message without bytes is a header alone: rank 1 raises `ready` with no chunk word loaded, and rank 0
-- sees and lowers it
abbrev pub no_bytes : List RankEvent
no_bytes = stores 0 0 0 3 0 ∷ stores 0 0 0 2 0 ∷ stores 0 0 0 1 0 ∷ stores 0 0 0 0 0 ∷ stores 0 1 1 0 1
    ∷ loads 1 1 1 0 1 ∷ loads 1 0 0 0 0 ∷ loads 1 0 0 1 0 ∷ loads 1 0 0 2 0 ∷ stores 1 1 1 0 0 ∷ stores 1 0 50 0 1
    ∷ loads 0 0 50 0 1 ∷ stores 0 0 50 0 0 ∷ []

-- three ranks, not on the cores of their numbers
abbrev pub three_ranks : SetupView
three_ranks = record { nue = 3; layout = LineFlags; hosts = 7 ∷ 5 ∷ 40 ∷ []; comms = World ∷ [] }

-- a barrier: all flip their gather flags, the root looks at two and writes two release flags, and both are seen
abbrev pub barrier_of_three : List RankEvent
barrier_of_three = stores 2 40 97 0 1 ∷ stores 0 7 97 0 1 ∷ stores 1 5 97 0 1
    ∷ loads 0 5 97 0 1 ∷ loads 0 40 97 0 1 ∷ stores 0 5 105 0 1 ∷ loads 1 5 105 0 1 ∷ stores 0 40 105 0 1 ∷ loads 2 40 105 0 1 ∷ []

-- four ranks, each on the core of its number: communicator 9 takes ranks 0 and 2 together, and 1 and 3, inside
-- communicator 1, which has them all
abbrev pub nested_ranks : SetupView
nested_ranks =
    record {
      nue = 4;
      layout = LineFlags;
      hosts = 0 ∷ 1 ∷ 2 ∷ 3 ∷ [];
      comms = World ∷ Div 0 4 ∷ Absent ∷ Absent ∷ Absent ∷ Absent ∷ Absent ∷ Absent ∷ Absent ∷ Mod 1 2 ∷ [];
    }

-- ranks 0 and 2 meet in communicator 9, with this value of their gather flags
abbrev pub two_meet : ℕ → List RankEvent
two_meet value = stores 2 2 98 1 value ∷ stores 0 0 98 1 value ∷ loads 0 2 98 1 value ∷ stores 0 2 106 1 value ∷ loads 2 2 106 1 value ∷ []

-- rank 2 sends to rank 0, each on a core that is not of its number
abbrev pub four_bytes_elsewhere : List RankEvent
four_bytes_elsewhere = stores 2 40 0 3 0 ∷ stores 2 40 0 2 4 ∷ stores 2 40 0 1 0 ∷ stores 2 40 0 0 0
    ∷ stores 2 40 113 3 0 ∷ stores 2 40 113 2 0 ∷ stores 2 40 113 1 0 ∷ stores 2 40 113 0 67305985
    ∷ stores 2 7 3 0 1 ∷ loads 0 7 3 0 1 ∷ loads 0 40 0 0 0 ∷ loads 0 40 0 1 0 ∷ loads 0 40 0 2 4
    ∷ stores 0 7 3 0 0 ∷ loads 0 40 113 0 67305985 ∷ loads 0 40 113 1 0 ∷ loads 0 40 113 2 0 ∷ loads 0 40 113 3 0
    ∷ stores 0 40 49 0 1 ∷ []

-- rank 0 posts four bytes to rank 1: word 3 of the header is 1
abbrev pub posts_four : List RankEvent
posts_four = stores 0 0 0 3 1 ∷ stores 0 0 0 2 4 ∷ stores 0 0 0 1 0 ∷ stores 0 0 0 0 0
    ∷ stores 0 0 113 3 0 ∷ stores 0 0 113 2 0 ∷ stores 0 0 113 1 0 ∷ stores 0 0 113 0 67305985
    ∷ stores 0 1 1 0 1 ∷ []

-- two ranks with bit flags
abbrev pub two_ranks_bits : SetupView
two_ranks_bits = two_ranks_by BitFlags

-- a rank changes a word of line 1 of a core, under the core's register
abbrev pub changes : (rank core sent ready word new : ℕ) → List RankEvent
changes rank core sent ready word new =
    takes_register rank core ∷ loads rank core 1 0 sent ∷ loads rank core 1 1 ready ∷ loads rank core 1 2 0 ∷ loads rank core 1 3 0
    ∷ stores rank core 1 word new ∷ frees rank core ∷ []

-- rank 1 sends one byte to rank 0: it sets bit 1 of the `sent` flags of rank 0, which lowers it and sets
-- bit 0 of the `ready` flags of rank 1. Word 3 of the header line is 1 in a post
abbrev pub byte_by_bits : ℕ → List RankEvent
byte_by_bits posted = stores 1 1 0 3 posted ∷ stores 1 1 0 2 1 ∷ stores 1 1 0 1 0 ∷ stores 1 1 0 0 0
    ∷ stores 1 1 18 3 0 ∷ stores 1 1 18 2 0 ∷ stores 1 1 18 1 0 ∷ stores 1 1 18 0 9
    ∷ changes 1 0 0 0 0 2
    ++ loads 0 0 1 0 2 ∷ loads 0 1 0 0 0 ∷ loads 0 1 0 1 0 ∷ loads 0 1 0 2 1
    ∷ changes 0 0 2 0 0 0
    ++ loads 0 1 18 0 9 ∷ loads 0 1 18 1 0 ∷ loads 0 1 18 2 0 ∷ loads 0 1 18 3 0
    ∷ changes 0 1 0 0 1 1
    ++ loads 1 1 1 1 1 ∷ changes 1 1 0 1 1 0

-- a message of one byte by bit flags, from rank 1 to rank 0
abbrev pub one_byte_bits : List RankEvent
one_byte_bits = byte_by_bits 0

-- the record after moves, where a whole chunk has `size` bytes
abbrev pub after_moves : ℕ → Record → List Move → Record
after_moves size rec [] = rec
after_moves size rec (move ∷ moves) = after_moves size (after size move rec) moves

-- what stands for the numbers 0 to n - 1, in this order
unfoldable pub for_numbers : {A : Type 0} → (ℕ → A) → ℕ → List A
for_numbers of zero = []
for_numbers of (suc n) = for_numbers of n ++ of n ∷ []

-- rank 0 stores word k of its chunk buffer
abbrev pub drafts_word : Layout → (ℕ → ℕ) → ℕ → RankEvent
drafts_word layout word k = stores 0 0 (first_chunk layout + k / 4) (k % 4) (word k)

-- rank 1 loads word k of the chunk buffer of rank 0
abbrev pub loads_word : Layout → (ℕ → ℕ) → ℕ → RankEvent
loads_word layout word k = loads 1 0 (first_chunk layout + k / 4) (k % 4) (word k)

-- rank 0 raises `sent` at rank 1
abbrev pub raises_sent : Layout → List RankEvent
raises_sent LineFlags = stores 0 1 1 0 1 ∷ []
raises_sent BitFlags = changes 0 1 0 0 0 1

-- rank 1 lowers `sent` of rank 0
abbrev pub lowers_sent : Layout → List RankEvent
lowers_sent LineFlags = stores 1 1 1 0 0 ∷ []
lowers_sent BitFlags = changes 1 1 1 0 0 0

-- rank 1 raises `ready` at rank 0
abbrev pub raises_ready : Layout → List RankEvent
raises_ready LineFlags = stores 1 0 50 0 1 ∷ []
raises_ready BitFlags = changes 1 0 0 0 1 2

-- rank 0 sees `ready` of rank 1 and lowers it
abbrev pub lowers_ready : Layout → List RankEvent
lowers_ready LineFlags = loads 0 0 50 0 1 ∷ stores 0 0 50 0 0 ∷ []
lowers_ready BitFlags = loads 0 0 1 1 2 ∷ changes 0 0 0 2 1 0

-- rank 0 drafts the header of a message of one byte more than a whole chunk
abbrev pub drafts_head : Layout → List RankEvent
drafts_head layout = stores 0 0 0 3 0 ∷ stores 0 0 0 2 (chunk_size layout + 1) ∷ stores 0 0 0 1 0 ∷ stores 0 0 0 0 0 ∷ []

-- rank 0 raises the first chunk of two at rank 1, which sees `sent`, loads the head and lowers `sent`
abbrev pub begins_first : Layout → List RankEvent
begins_first layout =
    raises_sent layout ++ loads 1 1 1 0 1 ∷ loads 1 0 0 0 0 ∷ loads 1 0 0 1 0 ∷ loads 1 0 0 2 (chunk_size layout + 1) ∷ lowers_sent layout

-- rank 0 sees the answer and sends the second chunk, whose one byte is 07, and rank 1 takes it
abbrev pub goes_second : Layout → List RankEvent
goes_second layout = lowers_ready layout
    ++ stores 0 0 (first_chunk layout) 3 0 ∷ stores 0 0 (first_chunk layout) 2 0 ∷ stores 0 0 (first_chunk layout) 1 0
    ∷ stores 0 0 (first_chunk layout) 0 7
    ∷ raises_sent layout
    ++ loads 1 1 1 0 1 ∷ lowers_sent layout
    ++ loads 1 0 (first_chunk layout) 0 7 ∷ loads 1 0 (first_chunk layout) 1 0 ∷ loads 1 0 (first_chunk layout) 2 0
    ∷ loads 1 0 (first_chunk layout) 3 0
    ∷ raises_ready layout
    ++ lowers_ready layout

-- a message of one byte more than a whole chunk goes from rank 0 to rank 1: the first chunk has these words, and the one
-- byte of the second one is 07
abbrev pub two_chunks_by : Layout → (ℕ → ℕ) → List RankEvent
two_chunks_by layout word = drafts_head layout ++ (for_numbers (drafts_word layout word) (4 * chunk_lines layout)
    ++ (begins_first layout
    ++ (for_numbers (loads_word layout word) (4 * chunk_lines layout) ++ (raises_ready layout ++ goes_second layout))))

-- a message of 3,585 bytes from rank 0 to rank 1, of two chunks, whatever its words are
abbrev pub two_chunks : (ℕ → ℕ) → List RankEvent
two_chunks word = two_chunks_by LineFlags word

-- a message of 6,625 bytes by bit flags from rank 0 to rank 1, of two chunks, whatever its words are
abbrev pub two_chunks_bits : (ℕ → ℕ) → List RankEvent
two_chunks_bits word = two_chunks_by BitFlags word

-- the first n bytes of words of eight bytes, the lowest first
unfoldable pub bytes_of_words : (ℕ → ℕ) → ℕ → List ℕ
bytes_of_words word n = map (λ b. byte_of_word (word (b / 8)) (b % 8)) (range_with_len 0 n)
