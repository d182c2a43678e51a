-- How a judge holds the records of a chip: a monitor a rank that has followed the rank's events.
use Rattle.std.specs.Prelude.{◌≡◌, ℕ, ◌<◌, List, length, map, Option, Some, None, slice_get}
use Rattle.scc_base.specs.Setups.{SetupView, IsSetup}
use Rattle.scc_proto.specs.Histories.{records_from}
use Rattle.scc_proto.specs.Stages.{Record, blank}
use Rattle.scc_proto.specs.Words.{RankEvent}
use Rattle.rank_monitor.specs.Following.{FollowsRecord}
use Rattle.rank_monitor.specs.declared.monitors.RankMonitor.{RankMonitor}

-- the monitor there is that of a rank, and has followed it to its record
abbrev pub FollowsAt : SetupView → ℕ → Record → Option RankMonitor → Type 0
FollowsAt s r rec None = ⊥
FollowsAt s r rec (Some m) = (m.setup ≡ s) × (m.rank ≡ r) × FollowsRecord m rec

-- the bytes that monitors show
abbrev pub bytes_shown : List RankMonitor → List (List ℕ)
bytes_shown monitors = map (λ (m : RankMonitor). m.work.bytes.items) monitors

-- the monitor of each rank has followed the rank's own events
pub record IsFollowed (s : SetupView) (monitors : List RankMonitor) (run : List RankEvent) : Type 0 where
  pub valid : IsSetup s
  pub count : length monitors ≡ s.nue
  pub follows : (r : ℕ) → r < s.nue → FollowsAt s r (records_from s (λ k. blank) run r) (slice_get monitors r)
