-- A chip that a judge follows, event by event: its words and its ranks' records after them (this project's profile).
use Rattle.std.specs.Prelude.{ℕ, List, [], slice_index_or}
use Rattle.scc_base.specs.Setups.{SetupView}
use Rattle.scc_proto.specs.Histories.{memory_from, records_from}
use Rattle.scc_proto.specs.Records.{record_after}
use Rattle.scc_proto.specs.Stages.{Record, blank}
use Rattle.scc_proto.specs.Tables.{table_with}
use Rattle.scc_proto.specs.Words.{Memory, zeros, memory_after, RankEvent}

-- a chip as its events have left it: its setup, its words and registers, and the record of each rank
pub record Judged : Type 0 where
  pub setup : SetupView
  pub memory : Memory
  pub records : ℕ → Record

-- the chip before its first event
abbrev pub new_judged : SetupView → Judged
new_judged s = record { setup = s; memory = zeros; records = λ r. blank }

-- the chip after an event of a rank
abbrev pub judged_after : Judged → RankEvent → Judged
judged_after j e = record {
  setup = j.setup;
  memory = memory_after j.memory e.event;
  records = table_with j.records e.rank (record_after j.setup e.rank (j.records e.rank) e.event);
}

-- the chip after all events of a list, the first first
abbrev pub judged_by : SetupView → List RankEvent → Judged
judged_by s run = record { setup = s; memory = memory_from zeros run; records = records_from s (λ r. blank) run }

-- what a judge shows: the setup, the events that it has taken, and by rank the bytes of the call that the rank's last event finished
pub record JudgeView : Type 0 where
  pub setup : SetupView
  pub run : List RankEvent
  pub bytes : List (List ℕ)

-- the chip as a judge's events have left it
abbrev pub chip_of : JudgeView → Judged
chip_of v = judged_by v.setup v.run

-- the bytes of a rank
abbrev pub bytes_at : JudgeView → ℕ → List ℕ
bytes_at v r = slice_index_or v.bytes r []
