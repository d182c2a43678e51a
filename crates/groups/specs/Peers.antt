-- The messages of a collective call: with whom, and with which head (this project's profile).
use Rattle.std.specs.Prelude.{◌≢◌, ℕ, ◌<◌}
use Rattle.scc_base.specs.Heads.{IsHead}
use Rattle.scc_base.specs.Setups.{SetupView}
use Rattle.groups.specs.declared.collectives.Step.{Step}
use Rattle.groups.specs.declared.collectives.Step.TheVariants.{Send, Recv}

-- another rank of a run
pub record IsPeer (nue rank peer : ℕ) : Type 0 where
  pub below : peer < nue
  pub other : peer ≢ rank

-- a step that is a message is one with another rank, and has a head that a message may have
abbrev pub IsWithPeer : SetupView → ℕ → Step → Type 0
IsWithPeer s r (Send to head) = IsPeer s.nue r to × IsHead head
IsWithPeer s r (Recv from head) = IsPeer s.nue r from × IsHead head
IsWithPeer s r _ = Unit {0}
