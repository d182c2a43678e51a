-- How the first line of a trace is held.
use Rattle.trace_text.specs.declared.hosts.Hosts.{Hosts}
use Rattle.trace_text.specs.declared.hosts.Head.{Head}
use Rattle.trace_text.specs.Grammar.{HostTable, TraceHead}

-- the table of cores, by how it is held
abbrev pub table_view : Hosts → HostTable
table_view table = record { count = table.count; hosts = table.cores }

-- the head, by how it is held
abbrev pub head_view : Head → TraceHead
head_view head = record { nue = head.nue; layout = head.layout; hosts = head.hosts }
