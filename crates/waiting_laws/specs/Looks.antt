-- What a try that was made in vain tells (this project's profile).
use Rattle.std.specs.Prelude.{◌≡◌, ◌≢◌, ℕ, true, false}
use Rattle.scc_proto.specs.Agreement.{Agrees}
use Rattle.scc_proto.specs.Like.{Like}
use Rattle.scc_proto.specs.Ports.{Seat}
use Rattle.scc_proto.specs.Stages.{Record}
use Rattle.scc_proto.specs.Views.{view_of}
use Rattle.scc_proto.specs.Words.{Memory, word_at}
use Rattle.sync_flags.specs.Flags.{is_set_in}
use Rattle.sync_flags.specs.Tries.{Aim, AtFlag, AtRegister, AtWord}
use Rattle.chip_run.specs.Waiting.{Waits}
use Rattle.chip_run.specs.Wants.{Want}

-- what a vain try that was a step tells: the flag is not set, the word has another value; and no register is taken where
-- nobody holds one
abbrev pub Tells : Memory → Aim → Type 0
Tells memory (AtFlag place bit true) = is_set_in bit (word_at memory place) ≡ false
Tells memory (AtFlag place bit false) = Unit {0}
Tells memory (AtWord place value) = word_at memory place ≢ value
Tells memory (AtRegister core) = ⊥

-- a rank has looked in vain: words agree with records, its own being alike to the one before its turn, and the words tell
-- what the look was for
pub record LookFailed (seat : Seat) (memory : Memory) (records : ℕ → Record) (rec : Record) (aim : Aim) : Type 0 where
  pub agrees : Agrees seat.setup memory records
  pub like : Like rec (records seat.rank)
  pub tells : Tells memory aim

-- by these words and records the rank of a seat waits for this
abbrev pub SeatWaits : Seat → Memory → (ℕ → Record) → Want → Type 0
SeatWaits seat memory records want = Waits seat.setup (view_of seat.setup memory) seat.rank (records seat.rank) want
