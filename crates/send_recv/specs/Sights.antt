-- Words about a port's sight: the chunk's size, the lines of a message, its flags, and where a call waits for them.
use Rattle.std.specs.Prelude.{◌≡◌, ℕ, ◌+◌, ◌*◌, Bool, true, false, List}
use Rattle.scc_base.specs.Layouts.{first_chunk}
use Rattle.scc_base.specs.Places.{LineAt}
use Rattle.scc_base.specs.declared.layouts.Layout.{Layout}
use Rattle.scc_base.specs.declared.signals.Signal.{Signal}
use Rattle.scc_base.specs.declared.events.Spot.{Spot}
use Rattle.scc_base.specs.declared.events.Spot.TheVariants.{Register}
use Rattle.scc_proto.specs.Words.{are_peers}
use Rattle.scc_proto.specs.Records.{chunk_of}
use Rattle.scc_proto.specs.Ports.{Sight}
use Rattle.put_get.specs.Cores.{Private}
use Rattle.put_get.specs.Transfers.{line_at}
use Rattle.send_recv.specs.Bytes.{words_at}
use Rattle.send_recv.specs.Chunks.{chunk_start}
use Rattle.send_recv.specs.Flags.{Looks, Changes, MayChange}
use Rattle.send_recv.specs.Steps.{own_core, core_of, signal_flag, flag_spot}

-- the layout of the flags
abbrev pub layout_at : Sight → Layout
layout_at s = s.seat.setup.layout

-- how many bytes a whole chunk has
abbrev pub chunk_at : Sight → ℕ
chunk_at s = chunk_of s.seat.setup

-- the own rank may have messages with this rank
abbrev pub IsSeatPeer : Sight → ℕ → Type 0
IsSeatPeer s j = are_peers s.seat.setup s.seat.rank j ≡ true

-- the first byte of a message that stands in this line of a chunk
abbrev pub first_byte : Sight → (chunk line : ℕ) → ℕ
first_byte s chunk line = chunk_start (chunk_at s) chunk + 32 * line

-- the header line of a rank
abbrev pub header_line : Sight → ℕ → LineAt
header_line s j = line_at (core_of s.seat j) 0

-- a line of the chunk buffer of a rank
abbrev pub chunk_line : Sight → (j line : ℕ) → LineAt
chunk_line s j line = line_at (core_of s.seat j) (first_chunk s.seat.setup.layout + line)

-- the header line of the own rank
abbrev pub own_header_line : Sight → LineAt
own_header_line s = header_line s s.seat.rank

-- a line of the chunk buffer of the own rank
abbrev pub own_chunk_line : Sight → ℕ → LineAt
own_chunk_line s line = chunk_line s s.seat.rank line

-- the words of a message that stand in this line of a chunk
abbrev pub words_of_line : List ℕ → Sight → (chunk line : ℕ) → List ℕ
words_of_line bytes s chunk line = words_at bytes (first_byte s chunk line)

-- ---- the two signals of a message: `sent` at the receiver, `ready` at the sender

-- a rank looks at its own flag of a signal that another rank raises. Seven parameters: the signal and who raises it, what
-- was found, and the rank's sight and core before and after.
abbrev pub LooksFor : Signal → Sight → Private → (by : ℕ) → (found : Bool) → Sight → Private → Type 0
LooksFor signal s c by found t d = Looks s c (own_core s.seat) (signal_flag s.seat signal by) found t d

-- a rank lowers its own flag of a signal that another rank raised. Seven parameters: the signal and who raised it, whether
-- it was done, and the rank's sight and core before and after.
abbrev pub Lowers : Signal → Sight → Private → (by : ℕ) → (done : Bool) → Sight → Private → Type 0
Lowers signal s c by done t d = Changes s c (own_core s.seat) (signal_flag s.seat signal by) false done t d

-- a rank raises its flag of a signal at another rank. Seven parameters: the signal and at whom it is raised, whether it was
-- done, and the rank's sight and core before and after.
abbrev pub Raises : Signal → Sight → Private → (at : ℕ) → (done : Bool) → Sight → Private → Type 0
Raises signal s c at done t d = Changes s c (core_of s.seat at) (signal_flag s.seat signal s.seat.rank) true done t d

-- a rank may lower its own flag of a signal
abbrev pub MayLower : Signal → Sight → Private → ℕ → Type 0
MayLower signal s c by = MayChange s c (own_core s.seat) (signal_flag s.seat signal by) false

-- a rank may raise its flag of a signal at another rank
abbrev pub MayRaise : Signal → Sight → Private → ℕ → Type 0
MayRaise signal s c at = MayChange s c (core_of s.seat at) (signal_flag s.seat signal s.seat.rank) true

-- ---- where a turn waits for them

-- a rank waits at its own flag of a signal
abbrev pub signal_spot : Signal → Sight → ℕ → Spot
signal_spot signal s by = flag_spot (own_core s.seat) (signal_flag s.seat signal by)

-- a turn that changes a bit flag of its own core waits at the own core's register
abbrev pub own_register : Sight → Spot
own_register s = Register (own_core s.seat)

-- a turn that changes a bit flag of another rank's core waits at that core's register
abbrev pub register_spot : Sight → ℕ → Spot
register_spot s j = Register (core_of s.seat j)
