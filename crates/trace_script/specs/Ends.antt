-- The statuses of a run whose trace is written (this project's profile).
use Rattle.std.specs.Prelude.{ℕ}
use Rattle.outcomes.specs.Statuses.{status_number}
use Rattle.trace_script.specs.declared.endings.TraceEnd.{TraceEnd}
use Rattle.trace_script.specs.declared.endings.TraceEnd.TheVariants as end

-- the number with which the process ends
abbrev pub trace_status_number : TraceEnd → ℕ
trace_status_number (end.Ended s) = status_number s
trace_status_number end.Refused = 7
