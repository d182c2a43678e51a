-- What the tests need of a chip and of a port before they use it.
use Rattle.std.specs.Prelude.{◌≡◌, ℕ, true, [], None, is_some}
use Rattle.scc_base.specs.Setups.{IsSetup}
use Rattle.scc_proto.specs.Stages.{Idle}
use Rattle.scc_proto.specs.Ports.{Sight, record_in}
use Rattle.scc_mesh.specs.Scenes.{ChipView, IsNew, about_in}

-- a new chip of two ranks
pub record IsNewPair (chip : ChipView) : Type 0 where
  pub new : IsNew (about_in chip) chip
  pub valid : IsSetup (about_in chip)
  pub two : (about_in chip).nue ≡ 2

-- a port of one of two ranks, with no unfinished message or barrier
pub record IsPortAtRest (s : Sight) : Type 0 where
  pub valid : IsSetup s.seat.setup
  pub two : s.seat.setup.nue ≡ 2
  pub idle : (record_in s).stage ≡ Idle

-- a port of this rank that has made no event
pub record IsFreshPort (s : Sight) (r : ℕ) : Type 0 where
  pub none : s.events ≡ []
  pub rank : s.seat.rank ≡ r

-- the rank does not hold this core's register
abbrev pub IsWithout : Sight → ℕ → Type 0
IsWithout s core = (record_in s).held core ≡ None

-- the rank holds this core's register
abbrev pub HoldsRegister : Sight → ℕ → Type 0
HoldsRegister s core = is_some ((record_in s).held core) ≡ true
