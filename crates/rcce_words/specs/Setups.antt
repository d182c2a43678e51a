-- The setup of a run whose words name neither hosts nor a layout (this project's profile).
use Rattle.std.specs.Prelude.{ℕ, List}
use Rattle.scc_base.specs.Setups.{SetupView}
use Rattle.scc_base.specs.declared.communicators.CommRule.{CommRule}
use Rattle.scc_base.specs.declared.layouts.Layout.TheVariants.{LineFlags}
use Rattle.rcce_words.specs.HostFile.{default_hosts}

-- the setup of `nue` ranks with these communicators: rank r on core r, with line flags
abbrev pub default_setup : ℕ → List CommRule → SetupView
default_setup nue comms = record { nue = nue; layout = LineFlags; hosts = default_hosts; comms = comms }
