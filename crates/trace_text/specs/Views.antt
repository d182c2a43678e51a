-- How a trace is held.
use Rattle.std.specs.Prelude.{List, map}
use Rattle.scc_proto.specs.Words.{RankEvent}
use Rattle.trace_text.specs.declared.traces.TraceEvent.{TraceEvent}

-- the event and its rank
abbrev pub rank_event : TraceEvent → RankEvent
rank_event e = record { rank = e.rank; event = e.event }

-- the events of a list, each with its rank
abbrev pub rank_events : List TraceEvent → List RankEvent
rank_events events = map rank_event events
