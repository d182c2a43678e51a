-- The names of the kinds of faults of a trace, in texts (this project's profile).
use Rattle.std.specs.Prelude.{ℕ, List, codes}
use Rattle.trace_text.specs.declared.faults.TraceKind.{TraceKind}
use Rattle.trace_text.specs.declared.faults.TraceKind.TheVariants as kind

-- the name of a kind of fault
abbrev pub trace_fault_name : TraceKind → List ℕ
trace_fault_name kind.TooLong = codes "TooLong"
trace_fault_name kind.BadHead = codes "BadHead"
trace_fault_name kind.BadComm = codes "BadComm"
trace_fault_name kind.BadEvent = codes "BadEvent"
