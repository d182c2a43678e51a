-- The setup of a run of the world alone.
use Rattle.std.specs.Prelude.{ℕ, List, ◌∷◌, replicate}
use Rattle.std.specs.List.{range_with_len}
use Rattle.scc_base.specs.Setups.{SetupView}
use Rattle.scc_base.specs.declared.communicators.CommRule.{CommRule}
use Rattle.scc_base.specs.declared.communicators.CommRule.TheVariants.{Absent, World}
use Rattle.scc_base.specs.declared.layouts.Layout.TheVariants.{LineFlags}

-- each rank on the core of its number (RCCE specification 2.0: without a host file)
abbrev pub own_cores : List ℕ
own_cores = range_with_len 0 48

-- the world and no other communicator (RCCE specification 2.0: RCCE_COMM_WORLD)
abbrev pub world_alone : List CommRule
world_alone = World ∷ replicate 15 Absent

-- a setup of `nue` ranks, each on the core of its number, with line flags and the world alone (this project's profile)
abbrev pub world_setup : ℕ → SetupView
world_setup nue = record { nue = nue; layout = LineFlags; hosts = own_cores; comms = world_alone }
