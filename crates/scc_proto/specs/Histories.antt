-- Lists of events of all ranks, in the order in which they were made.
use Rattle.std.specs.Prelude.{ℕ, ◌<◌, ◌==◌, if◌then◌else◌, List, [], ◌∷◌}
use Rattle.scc_base.specs.Events.{IsEvent}
use Rattle.scc_base.specs.Setups.{SetupView}
use Rattle.scc_base.specs.declared.events.Event.{Event}
use Rattle.scc_proto.specs.Tables.{table_with}
use Rattle.scc_proto.specs.Stages.{Record}
use Rattle.scc_proto.specs.Words.{Memory, memory_after, RankEvent}
use Rattle.scc_proto.specs.Records.{IsPermitted, record_after, record_of}

-- the events of one rank among those of all ranks
abbrev pub events_of : ℕ → List RankEvent → List Event
events_of r [] = []
events_of r (e ∷ es) = if e.rank == r then e.event ∷ events_of r es else events_of r es

-- the record of each rank after a list of events of all ranks: that of its own events among them
abbrev pub records_of : SetupView → List RankEvent → ℕ → Record
records_of s run = λ r. record_of s r (events_of r run)

-- the records of all ranks after more events of all ranks, from these records on
abbrev pub records_from : SetupView → (ℕ → Record) → List RankEvent → ℕ → Record
records_from s records [] = records
records_from s records (e ∷ es) = records_from s (table_with records e.rank (record_after s e.rank (records e.rank) e.event)) es

-- the memory after all events of a list
abbrev pub memory_from : Memory → List RankEvent → Memory
memory_from memory [] = memory
memory_from memory (e ∷ es) = memory_from (memory_after memory e.event) es

-- each event of a list in turn is one of a rank of the run that the rank's record permits
abbrev pub IsPermittedRun : SetupView → (ℕ → Record) → List RankEvent → Type 0
IsPermittedRun s records [] = Unit {0}
IsPermittedRun s records (e ∷ es) = (e.rank < s.nue) × IsEvent e.event × IsPermitted s e.rank (records e.rank) e.event
    × IsPermittedRun s (table_with records e.rank (record_after s e.rank (records e.rank) e.event)) es
