-- How what the words ask for is held.
use Rattle.trace_program.specs.declared.command.TraceJob.{TraceJob}
use Rattle.trace_program.specs.Program.{TraceCommand}

-- what the words ask for, by how it is held
abbrev pub job_view : TraceJob → TraceCommand
job_view job = record { asked = job.asked; file = job.file.now }
