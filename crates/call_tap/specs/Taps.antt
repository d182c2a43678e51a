-- What a tap has read of a rank's accesses, and which calls it tells.
use Rattle.std.specs.Prelude.{◌≡◌, ℕ, List}
use Rattle.scc_base.specs.Setups.{SetupView}
use Rattle.scc_base.specs.declared.events.Event.{Event}
use Rattle.scc_proto.specs.Records.{record_of}
use Rattle.scc_proto.specs.Stages.{Record}
use Rattle.rank_monitor.specs.Following.{FollowsRecord}
use Rattle.call_tap.specs.declared.taps.Tap.{Tap}
use Rattle.call_tap.specs.Kept.{AreKeptWithRoom}

-- a tap has come to this record
pub record TapReads (tap : Tap) (rec : Record) : Type 0 where
  pub follows : FollowsRecord tap.monitor rec
  pub kept : AreKeptWithRoom tap.kept rec.calls

-- a tap has read these events of a rank
pub record HasRead (tap : Tap) (s : SetupView) (rank : ℕ) (events : List Event) : Type 0 where
  pub setup_is : tap.monitor.setup ≡ s
  pub rank_is : tap.monitor.rank ≡ rank
  pub reads : ∥ TapReads tap (record_of s rank events) ∥₁
