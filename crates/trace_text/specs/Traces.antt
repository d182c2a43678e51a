-- Traces: the accesses to the shared words of a chip, in the order in which they were made (this project's profile).
use Rattle.std.specs.Prelude.{ℕ, List}
use Rattle.scc_base.specs.Setups.{SetupView}
use Rattle.scc_proto.specs.Words.{RankEvent}

-- the most bytes of a trace's text: 1 GiB
abbrev pub most_trace_bytes : ℕ
most_trace_bytes = 1073741824

-- the most lines of a trace
abbrev pub most_trace_lines : ℕ
most_trace_lines = 16777216

-- the most bytes of a line
abbrev pub most_line_bytes : ℕ
most_line_bytes = 255

-- the setup of a chip, and the events of its ranks, the first first
pub record TraceView : Type 0 where
  pub setup : SetupView
  pub events : List RankEvent
