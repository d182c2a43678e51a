-- The view of the machine that runs a rank's program.
use Rattle.std.specs.Prelude.{ℕ}
use Rattle.scc_base.specs.Setups.{SetupView}
use Rattle.script_rules.specs.Script.{Script}
use Rattle.script_machine.specs.Local.{Local}
use Rattle.script_machine.specs.declared.posts.InFlight.{InFlight}
use Rattle.script_machine.specs.declared.posts.Posted.{Posted}

-- the script, the setup and the rank of a machine, and the rank's state
pub record MachineView : Type 0 where
  pub script : Script
  pub setup : SetupView
  pub rank : ℕ
  pub local : Local

-- a posted message, without its bytes
abbrev pub in_flight : Posted → InFlight
in_flight message = record { line = message.line; to = message.to; head = message.head }
