-- A setup with the ranks and communicators of a run.
use Rattle.std.specs.Prelude.{◌≡◌, ℕ, ◌≤◌, List, length}
use Rattle.scc_base.specs.Communicators.{AreRules}
use Rattle.scc_base.specs.Setups.{SetupView}
use Rattle.scc_base.specs.declared.communicators.CommRule.{CommRule}

-- a setup with this many ranks and these rules of communicators
pub record IsRunSetup (nue : ℕ) (comms : List CommRule) (setup : SetupView) : Type 0 where
  pub nue_is : setup.nue ≡ nue
  pub comms_are : setup.comms ≡ comms
  pub rules : AreRules comms
  pub some : 1 ≤ nue
  pub most : nue ≤ 48
  pub room : length comms ≡ 16
