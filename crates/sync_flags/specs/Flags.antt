-- Flags: a word, or one bit of a word, at the same place of each core's buffer (RCCE specification 2.0; that a
-- flag is a word of 64 bits or a bit of one is this project's profile).
use Rattle.std.specs.Prelude.{ℕ, ◌+◌, ◌-◌, ◌^◌, Bool, ◌==◌, if◌then◌else◌, Option, unwrap_or}
use Rattle.std.specs.Int.{bit_at}
use Rattle.scc_base.specs.Places.{WordAt, FlagPlace, flag_in, flag_word}
use Rattle.scc_base.specs.Setups.{SetupView, host_of}
use Rattle.scc_base.specs.declared.events.Spot.{Spot}
use Rattle.scc_base.specs.declared.events.Spot.TheVariants.{Flag}

-- the word of a flag at a rank
abbrev pub flag_of : SetupView → ℕ → FlagPlace → WordAt
flag_of s r f = flag_word (host_of s.hosts r) f

-- a flag that is a whole word is set where the word is 1, a bit where it is 1
abbrev pub is_set_in : Option ℕ → ℕ → Bool
is_set_in bit word = flag_in bit word == 1

-- 1 for a flag that is set, 0 for one that is not
abbrev pub flag_value : Bool → ℕ
flag_value set = if set then 1 else 0

-- a word with one bit as asked: it stays, or the bit's value is added or taken away
abbrev pub with_bit : ℕ → Bool → ℕ → ℕ
with_bit b set word = if bit_at word b == flag_value set then word else (if set then word + 2 ^ b else word - 2 ^ b)

-- what a call waits at where it waits at a flag: a flag that is a whole word has bit 0
abbrev pub spot_of_flag : WordAt → Option ℕ → Spot
spot_of_flag place bit = Flag place (unwrap_or bit 0)
