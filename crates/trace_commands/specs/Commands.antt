-- What `rccetrace` leaves where it judges a trace (this project's profile).
use Rattle.std.specs.Prelude.{ℕ, List}
use Rattle.rcce_io.specs.Files.{FilesView}
use Rattle.outcomes.specs.Delivery.{Sinks}
use Rattle.outcomes.specs.Promises.{Promises}
use Rattle.trace_program.specs.Program.{rccetrace}
use Rattle.trace_script.specs.declared.endings.TraceEnd.{TraceEnd}
use Rattle.trace_script.specs.declared.endings.TraceEnd.TheVariants as end

-- the judge's promises, with the status that is answered
abbrev pub JudgesWords : List (List ℕ) → FilesView → FilesView → Sinks → Sinks → TraceEnd → Type 0
JudgesWords words files files_after before after (end.Ended s) = Promises rccetrace words files files_after before after s
JudgesWords words files files_after before after end.Refused = ⊥
