-- The shared words of an open chip, as a contract sees them: no contract sees a word, each step tells of its own.
use Rattle.atomic_table.specs.Seated.{TableId}
use Rattle.scc_base.specs.Setups.{SetupView}

-- which chip it is
abbrev pub ChipId : Type 0
ChipId = TableId

-- the setup of the chip, and which chip it is
pub record SpaceView : Type 0 where
  pub about : SetupView
  pub table : ChipId
