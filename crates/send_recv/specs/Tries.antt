-- What the turns and the calls of a message try for, in the words of sync_flags: that a flag is set, or that a
-- register is taken.
use Rattle.std.specs.Prelude.{ℕ, true, Option, Some, None, option_map}
use Rattle.scc_base.specs.declared.layouts.Layout.{Layout}
use Rattle.scc_base.specs.declared.layouts.Layout.TheVariants.{LineFlags, BitFlags}
use Rattle.scc_base.specs.declared.events.Spot.{Spot}
use Rattle.scc_base.specs.declared.events.Spot.TheVariants.{Flag, Register}
use Rattle.sync_flags.specs.Tries.{Aim, AtFlag, AtRegister}

-- the bit of its word that the flag at a spot is: with line flags it is the whole word
abbrev pub bit_at_spot : Layout → ℕ → Option ℕ
bit_at_spot LineFlags bit = None
bit_at_spot BitFlags bit = Some bit

-- what a try at a spot is for: a flag that is set, or a register that is free
abbrev pub aim_of : Layout → Spot → Aim
aim_of layout (Flag place bit) = AtFlag place (bit_at_spot layout bit) true
aim_of layout (Register core) = AtRegister core

-- what the try at a spot is for, where there is a spot
abbrev pub aim_at : Layout → Option Spot → Option Aim
aim_at layout spot = option_map (aim_of layout) spot
